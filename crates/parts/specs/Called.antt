-- What a closure computes that is called on bytes.
use Rattle.std.specs.Prelude.{◌≡◌, ℕ, List, Result}
use Rattle.std.specs.Fn.{Once, FnOnceReturnsAtMut}
use denote.Ref.{MutBor}
use Rattle.codes.specs.Refusals.{outcome}
use Rattle.codes.specs.declared.refusals.Refusal.{Refusal}
use Rattle.theory.specs.Parts.{Call}

-- what it answers on any bytes, and what it leaves of them, is what this call of a code answers
abbrev pub Computes : {F : Type 0} → Once F (MutBor (List ℕ) × Unit {0}) (Result (Unit {0}) Refusal × (MutBor (List ℕ) × Unit {0})) → F → Call → Type 0
Computes calls f call =
    (old : List ℕ) (r : Result (Unit {0}) Refusal) (new : List ℕ) → FnOnceReturnsAtMut calls f old r new → (outcome r, new) ≡ call old

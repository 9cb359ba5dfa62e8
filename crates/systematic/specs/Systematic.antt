-- The meaning of a code whose word is the message and then checks, and which works in its word alone.
use Rattle.std.specs.Prelude.{ℕ, cond, List, ◌++◌, Some, None, nat_lt}
use Rattle.theory.specs.Meanings.{Meaning}

-- each place of the message carries itself
abbrev pub meaning_of : (n k d : ℕ) → (List ℕ → List ℕ) → Meaning
meaning_of n k d checks =
    record { n = n; k = k; d = d; w = n; word = λ s. s ++ checks s; carrier = λ i. cond (nat_lt i k) (Some i) None }

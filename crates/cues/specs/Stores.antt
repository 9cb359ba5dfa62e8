-- What the clauses of a store's calls say of it: what no call changes, and which alphabet, meaning and plan they are about.
use Rattle.std.specs.Prelude.{◌≡◌}
use Rattle.alphabets.specs.declared.Alphabet.{Ghosts as OfAlphabet}
use Rattle.codes.specs.declared.code.Code.{Ghosts as OfCode}
use Rattle.store_theory.specs.Layout.{Plan}
use Rattle.theory.specs.Alphabets.{Arithmetic}
use Rattle.theory.specs.Meanings.{Meaning}
use Rattle.cues.specs.Shapes.{plan_in}
use Rattle.cues.specs.declared.store.Store.{Store}

-- no call changes the code of a store or its numbers; nor does start or stop
pub record SameStore {C S T Symbols : Type 0} {c : OfCode C Symbols} {a : OfAlphabet Symbols} (before : Store C S Symbols c a) (after : Store C T Symbols c a) : Type 0 where
  pub code : after.code ≡ before.code
  pub shape : after.shape ≡ before.shape

-- a definition at the alphabet, the meaning and the plan of a store
abbrev pub of_store {ℓ} : {C S Symbols : Type 0} {c : OfCode C Symbols} {a : OfAlphabet Symbols} {X : Type ℓ} → Store C S Symbols c a → (Arithmetic → Meaning → Plan → X) → X
of_store {c = c} {a = a} store definition = definition a.symbols (c.meaning store.code) (plan_in store.shape)

-- Pairs of messages that show a code's distance.
use Rattle.std.specs.Prelude.{◌≡◌, ℕ, List}
use Rattle.theory.specs.Alphabets.{Arithmetic}
use Rattle.theory.specs.Meanings.{Meaning}
use Rattle.theory.specs.Words.{Symbols, differ}

-- two different messages whose words differ in exactly d places
pub record AtDistance (A : Arithmetic) (m : Meaning) (s t : List ℕ) : Type 0 where
  pub one : Symbols A.q m.k s
  pub other : Symbols A.q m.k t
  pub different : s ≡ t → ⊥
  pub exactly : differ (m.word s) (m.word t) ≡ m.d

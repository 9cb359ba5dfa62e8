-- The numbers that a code answers, and its meaning.
use Rattle.std.specs.Prelude.{◌≡◌, Some, None, Option}
use Rattle.parts.specs.declared.numbers.Numbers.{Numbers}
use Rattle.theory.specs.Meanings.{Meaning}

-- these are the numbers of this meaning
pub record NumbersOf (numbers : Numbers) (m : Meaning) : Type 0 where
  pub length : numbers.length ≡ m.n
  pub dimension : numbers.dimension ≡ m.k
  pub distance : numbers.distance ≡ m.d
  pub working : numbers.working ≡ m.w

-- the numbers of this meaning are answered
abbrev pub Answers : Option Numbers → Meaning → Type 0
Answers None m = ⊥
Answers (Some numbers) m = NumbersOf numbers m

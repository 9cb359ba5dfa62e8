-- The numbers of the code below, as a join keeps them. Assumes nothing.
use Rattle.std.proofs.Common.{◌≡◌, sym}
use Rattle.parts.specs.Numbers.{NumbersOf}
use Rattle.parts.specs.declared.numbers.Numbers.{Numbers}
use Rattle.theory.specs.Meanings.{Meaning}
use Rattle.theory.proofs.Sizes.{Sizes, sizes_of}

abbrev pub kept : Numbers → Sizes
kept numbers = record { n = numbers.length; k = numbers.dimension; w = numbers.working }

-- what a fit join keeps are the numbers of the code below
pub kept_are : (numbers : Numbers) (m : Meaning) → NumbersOf numbers m → sizes_of m ≡ kept numbers
kept_are numbers m h =
    λ i. record { n = sym h.length i; k = sym h.dimension i; w = sym h.working i }

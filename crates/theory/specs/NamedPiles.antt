-- Piles with names.
use Rattle.std.specs.Prelude.{ℕ, zero, suc, ◌^◌}
use Rattle.theory.specs.Alphabets.{four}
use Rattle.theory.specs.Hexacode.{hexacode}
use Rattle.theory.specs.Parity.{parity}
use Rattle.theory.specs.Piles.{Pile, leaf, plotkin_of}
use Rattle.theory.specs.Repetition.{repetition}

-- the first-order Reed-Muller code RM(1,m) over two: m Plotkin joins from repetition 1, with repetitions of 1, 2, 4 .. as v
abbrev pub reed_muller : ℕ → Pile
reed_muller zero = leaf (repetition 1)
reed_muller (suc m) = plotkin_of (reed_muller m) (leaf (repetition (2 ^ m)))

-- the four-symbol pile
abbrev pub four_pile : Pile
four_pile = plotkin_of (leaf (parity four 6)) (leaf hexacode)

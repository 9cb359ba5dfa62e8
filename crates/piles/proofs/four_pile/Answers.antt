use Rattle.std.proofs.Common.{sym, refl}
use Rattle.theory.specs.Alphabets.{four}
use Rattle.theory.specs.Hexacode.{hexacode}
use Rattle.theory.specs.Parity.{parity, parity_making}
use Rattle.theory.specs.Piles.{leaf}
use Rattle.piles.proofs.Numbers.{refused_not_made, numbers_four}
use Rattle.piles.proofs.four_pile.Goals as goal

pub returns-in_err-new : goal.returns-in_err-new
unfolding parity_making
returns-in_err-new c = absurd (refused_not_made _ (parity four 6) c.in_err-new.ensures)

pub returns : goal.returns
unfolding parity_making
returns c =
    record {
      making = c.new-2.ensures.one_step_of_a_pile tt tt (leaf (parity four 6)) (leaf hexacode) (sym c.in_ok-new.ensures) refl;
      numbers = numbers_four;
      fits = c.new-2.ensures.fits tt tt;
    }

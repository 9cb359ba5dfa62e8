-- The worked examples hold, by computing; the four-symbol pile has 65,536 messages, so its mend goes by the law that a
-- message in reach is the one found. Assumes nothing.
use Rattle.std.proofs.Common.{◌≡◌, [], ◌∷◌, replicate, refl, lit<, lit≤}
use Rattle.theory.specs.Alphabets.{four}
use Rattle.theory.specs.Calls.{accepted, sent, mended}
use Rattle.theory.specs.Cases.{WorkedExamplesHold, four_pile_word}
use Rattle.theory.specs.Hexacode.{hexacode}
use Rattle.theory.specs.Joins.{plotkin, plotkin_making, direct_sum_making, shorten_making}
use Rattle.theory.specs.Meanings.{Keeps}
use Rattle.theory.specs.Parity.{parity}
use Rattle.theory.specs.Reach.{message_in_reach}
use Rattle.theory.proofs.Alphabets.{four_lawful}
use Rattle.theory.proofs.Calls.{mended_reach}
use Rattle.theory.proofs.Hexacode.{hexacode_keeps}
use Rattle.theory.proofs.Parity.{parity_keeps}
use Rattle.theory.proofs.Plotkin.{plotkin_keeps}

four_pile_keeps : Keeps four (plotkin four (parity four 6) hexacode)
four_pile_keeps = plotkin_keeps four four_lawful (parity four 6) hexacode (parity_keeps four four_lawful 6 (lit≤ tt) (lit≤ tt)) hexacode_keeps refl (lit≤ tt)

four_pile_mends : mended four (plotkin four (parity four 6) hexacode) (1 ∷ 0 ∷ 3 ∷ 0 ∷ 1 ∷ 1 ∷ 255 ∷ 2 ∷ 3 ∷ 1 ∷ 2 ∷ 3 ∷ replicate 18 170) ≡ (accepted, four_pile_word)
four_pile_mends =
    mended_reach four (plotkin four (parity four 6) hexacode) (1 ∷ 0 ∷ 3 ∷ 0 ∷ 1 ∷ 1 ∷ 255 ∷ 2 ∷ 3 ∷ 1 ∷ 2 ∷ 3 ∷ replicate 18 170) four_pile_keeps (lit≤ tt)
    (1 ∷ 2 ∷ 3 ∷ 0 ∷ 1 ∷ 1 ∷ 0 ∷ 0 ∷ [])
    (record {
      message = record { long = refl; each = (lit< tt, (lit< tt, (lit< tt, (lit< tt, (lit< tt, (lit< tt, (lit< tt, (lit< tt, tt)))))))) };
      near = lit< tt;
    })

pub worked_examples_hold : WorkedExamplesHold
unfolding sent mended message_in_reach plotkin_making direct_sum_making shorten_making
worked_examples_hold =
    (refl, (refl, (refl, (refl, (refl, (refl, (refl, (refl, (four_pile_mends, (refl, (refl, ((refl, refl, refl, refl), ((refl, refl, refl, refl), (refl, (refl, tt)))))))))))))))

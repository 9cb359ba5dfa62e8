use Rattle.std.proofs.Common.{sym, refl, arith}
use Rattle.theory.proofs.Parts.{part_missing, part_called}
use Rattle.parts.proofs.calls.call_in_part.Goals as goal

pub returns-then-not-has_range : goal.returns-then-not-has_range
returns-then-not-has_range g c call computes = part_missing call _ _ _ _ _ (sym c.if-not-has_range.ensures)

pub returns : goal.returns
returns g c call computes =
    part_called call _ _ _ _ _ (sym c.if-not-has_range.ensures) _ (omega (arith, c.move_within.auto.memory)) c.move_within.ensures _ _ (omega (arith, c.f.auto.arg2)) (computes _ _ _ (record { shown = _; shows = refl; left = _; met = c.f.ensures; leaves = refl }))

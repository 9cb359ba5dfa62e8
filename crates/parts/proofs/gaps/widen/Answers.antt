use Rattle.std.proofs.Common.{ℕ, ◌+◌, List, set, sym, ap, ◌∙◌}
use Rattle.theory.specs.Memory.{moved}
use Rattle.theory.proofs.GapWrites.{widened_by_pieces, widened_not}
use Rattle.parts.proofs.gaps.widen.Goals as goal

pub returns-then-has_room_to_widen : goal.returns-then-has_room_to_widen
returns-then-has_room_to_widen c =
    c.move_within-then-has_room_to_widen.ensures
    ∙ ap (λ (z : List ℕ). moved (set z (c.args.to + c.args.place) c.args.value) c.args.from c.args.place c.args.to) c.move_within.ensures
    ∙ widened_by_pieces _ _ _ _ _ _ (sym c.if-has_room_to_widen.ensures)

pub returns-else-has_room_to_widen : goal.returns-else-has_room_to_widen
returns-else-has_room_to_widen c = sym (widened_not _ _ _ _ _ _ (sym c.if-has_room_to_widen.ensures))

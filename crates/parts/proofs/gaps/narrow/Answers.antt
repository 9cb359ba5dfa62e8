use Rattle.std.proofs.Common.{ℕ, ◌+◌, ◌-◌, List, sym, ap, ◌∙◌}
use Rattle.theory.specs.Memory.{moved}
use Rattle.theory.proofs.GapWrites.{narrowed_by_pieces, narrowed_not}
use Rattle.parts.proofs.gaps.narrow.Goals as goal

pub returns-then-has_bytes_to_narrow : goal.returns-then-has_bytes_to_narrow
returns-then-has_bytes_to_narrow c =
    c.move_within-then-has_bytes_to_narrow.ensures
    ∙ ap (λ (z : List ℕ). moved z (c.args.from + c.args.place + 1) (c.args.count - c.args.place - 1) (c.args.to + c.args.place)) c.move_within.ensures
    ∙ narrowed_by_pieces _ _ _ _ _ (sym c.if-has_bytes_to_narrow.ensures)

pub returns-else-has_bytes_to_narrow : goal.returns-else-has_bytes_to_narrow
returns-else-has_bytes_to_narrow c = sym (narrowed_not _ _ _ _ _ (sym c.if-has_bytes_to_narrow.ensures))

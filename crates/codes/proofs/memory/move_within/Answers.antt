use Rattle.std.proofs.Common.{sym, ◌∙◌}
use Rattle.std.proofs.lemmas.Bool.{leb-true}
use Rattle.theory.proofs.Memory.{moved_there, moved_no_source, moved_no_target, paste_range}
use Rattle.codes.proofs.memory.move_within.Goals as goal
use Rattle.codes.proofs.memory.move_within.Goals.{else-has_range-via-then-has_range+else-has_range-2, else-has_range-via-else-has_range}

pub returns-then-has_range-2 : goal.returns-then-has_range-2
returns-then-has_range-2 c =
    let xs = c.args.memory.now in
    let from-there = sym c.if-has_range.ensures in
    c.copy_within.ensures.after ∙ paste_range xs c.args.from c.args.count c.args.to (leb-true _ _ from-there) ∙ sym (moved_there xs c.args.from c.args.count c.args.to from-there (sym c.if-has_range-2.ensures))

pub returns-else-has_range : goal.returns-else-has_range
returns-else-has_range c =
    elim c.else-has_range.branch [
      | else-has_range-via-then-has_range+else-has_range-2 w ↦ sym (moved_no_target c.args.memory.now c.args.from c.args.count c.args.to (sym w.if-has_range-2.ensures))
      | else-has_range-via-else-has_range w ↦ sym (moved_no_source c.args.memory.now c.args.from c.args.count c.args.to (sym w.if-has_range.ensures))
    ]

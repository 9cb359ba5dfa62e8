use Rattle.std.proofs.Common.{sym, ◌∙◌}
use Rattle.std.proofs.lemmas.Bool.{leb-true}
use Rattle.theory.proofs.Memory.{copied_there, copied_no_source, copied_no_target, put_mid_range}
use Rattle.codes.proofs.memory.copy_between.Goals as goal
use Rattle.codes.proofs.memory.copy_between.Goals.{else-has_range-via-then-has_range+else-has_range-2, else-has_range-via-else-has_range}

pub returns-then-has_range-2 : goal.returns-then-has_range-2
returns-then-has_range-2 c =
    let from-there = sym c.if-has_range.ensures in
    put_mid_range c.args.memory.now c.args.to c.args.source.now c.args.from c.args.count c.copy_from_slice.new.self (leb-true _ _ from-there) c.copy_from_slice.ensures.after
    ∙ sym (copied_there c.args.memory.now c.args.to c.args.source.now c.args.from c.args.count from-there (sym c.if-has_range-2.ensures))

pub returns-else-has_range : goal.returns-else-has_range
returns-else-has_range c =
    elim c.else-has_range.branch [
      | else-has_range-via-then-has_range+else-has_range-2 w ↦ sym (copied_no_target c.args.memory.now c.args.to c.args.source.now c.args.from c.args.count (sym w.if-has_range-2.ensures))
      | else-has_range-via-else-has_range w ↦ sym (copied_no_source c.args.memory.now c.args.to c.args.source.now c.args.from c.args.count (sym w.if-has_range.ensures))
    ]

use Rattle.std.proofs.Common.{sym, ◌∙◌}
use Rattle.std.proofs.lemmas.Bool.{leb-true}
use Rattle.theory.proofs.Memory.{cleared_there, cleared_not, put_mid_fill}
use Rattle.codes.proofs.memory.clear.Goals as goal

pub returns-then-has_range : goal.returns-then-has_range
returns-then-has_range c =
    let there = sym c.if-has_range.ensures in
    put_mid_fill c.args.memory.now c.args.from c.args.count c.fill.new.self 0 (leb-true _ _ there) (c.fill.ensures.after (λ y e. e))
    ∙ sym (cleared_there c.args.memory.now c.args.from c.args.count there)

pub returns-else-has_range : goal.returns-else-has_range
returns-else-has_range c = sym (cleared_not c.args.memory.now c.args.from c.args.count (sym c.if-has_range.ensures))

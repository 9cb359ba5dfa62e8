use Rattle.std.proofs.Common.{rules, ◌+◌, set, sym, ap, ◌∙◌}
use Rattle.theory.specs.Joins.{zipped}
use Rattle.theory.specs.Memory.{part}
use Rattle.theory.proofs.Combining.{combined_not, over_none, combine_step, combine_all}
use Rattle.parts.proofs.combining.combine_by.Goals as goal

pub returns-then-not-can_combine : goal.returns-then-not-can_combine
returns-then-not-can_combine g c by puts =
    sym (combined_not by _ _ _ _ _ (sym c.can_combine.ensures ∙ c.if-not-can_combine.true))

pub loop-i-init : goal.loop-i-init
loop-i-init g c by puts =
    over_none c.args.memory.now c.args.to (zipped by (part c.args.memory.now c.args.left c.args.count) (part c.args.memory.now c.args.right c.args.count))

pub loop-i-preserved : goal.loop-i-preserved
loop-i-preserved g c by puts =
    ap (set c.loop-i.memory (c.args.to + c.loop-i.i)) (puts _ _ _ (search rules) (search rules) c.put.ensures)
    ∙ combine_step by _ _ _ _ _ (sym c.can_combine.ensures ∙ c.if-not-can_combine.false) _ _ c.loop-i-test.true (c.loop-i.invariant by puts)

pub returns : goal.returns
returns g c by puts =
    combine_all by _ _ _ _ _ (sym c.can_combine.ensures ∙ c.if-not-can_combine.false) _ _ c.loop-i-test.false (c.loop-i.invariant by puts)

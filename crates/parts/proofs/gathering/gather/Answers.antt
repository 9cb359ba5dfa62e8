use Rattle.std.proofs.Common.{ℕ, ◌+◌, ◌-◌, List, sym, ap, ◌∙◌}
use Rattle.std.proofs.lemmas.Bool.{cond-true, cond-false}
use Rattle.theory.specs.Memory.{moved, cleared, gathered}
use Rattle.parts.proofs.gathering.gather.Goals as goal

pub returns-then-has_range : goal.returns-then-has_range
unfolding gathered
returns-then-has_range c =
    let count = c.args.a + c.args.b in
    c.clear.ensures
    ∙ ap (λ (z : List ℕ). cleared z count (c.args.end - count)) (c.move_within-then-has_range.ensures ∙ ap (λ (z : List ℕ). moved z c.args.right c.args.b c.args.a) c.move_within.ensures)
    ∙ sym (cond-true _ _ c.args.memory.now (sym c.if-has_range.ensures))

pub returns-else-has_range : goal.returns-else-has_range
unfolding gathered
returns-else-has_range c = sym (cond-false _ _ c.args.memory.now (sym c.if-has_range.ensures))

use Rattle.std.proofs.Common.{ℕ, ◌-◌, List, ap, ◌∙◌}
use Rattle.theory.specs.Memory.{cleared}
use Rattle.theory.proofs.GapWrites.{narrowed_to_front_lem, narrowed_no_place, narrowed_too_long}
use Rattle.parts.proofs.gaps.narrow_to_front.Goals as goal
use Rattle.parts.proofs.gaps.narrow_to_front.Goals.{else-place-count-via-then-place-count+else-count-end, else-place-count-via-else-place-count}

pub returns-then-count-end : goal.returns-then-count-end
returns-then-count-end c =
    let left = c.args.count - 1 in
    c.clear.ensures ∙ ap (λ (z : List ℕ). cleared z left (c.args.end - left)) c.narrow.ensures
    ∙ narrowed_to_front_lem _ _ _ _ _ c.if-place-count.true c.if-count-end.true

pub returns-else-place-count : goal.returns-else-place-count
returns-else-place-count c =
    elim c.else-place-count.branch [
      | else-place-count-via-then-place-count+else-count-end w ↦ narrowed_too_long _ _ _ _ _ w.if-count-end.false
      | else-place-count-via-else-place-count w ↦ narrowed_no_place _ _ _ _ _ w.if-place-count.false
    ]

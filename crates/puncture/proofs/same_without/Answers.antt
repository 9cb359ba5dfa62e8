use Rattle.std.proofs.lemmas.Slice.Eq.{slice_eq-Decides}
use Rattle.theory.proofs.Comparing.{compared_both, compared_first}
use Rattle.puncture.proofs.same_without.Goals as goal
use Rattle.std.proofs.lemmas.Bool.Decides.{Decides-eqb}

pub returns-then-eq : goal.returns-then-eq
returns-then-eq c =
    compared_both c.args.memory.now c.args.n c.args.place c.requires.0 c.requires.1 c.eq.result c.eq-then-eq.result (slice_eq-Decides Decides-eqb _ _ _ c.eq.ensures) c.if-eq.true (slice_eq-Decides Decides-eqb _ _ _ c.eq-then-eq.ensures)

pub returns-else-eq : goal.returns-else-eq
returns-else-eq c =
    compared_first c.args.memory.now c.args.n c.args.place c.requires.0 c.requires.1 c.eq.result (slice_eq-Decides Decides-eqb _ _ _ c.eq.ensures) c.if-eq.false

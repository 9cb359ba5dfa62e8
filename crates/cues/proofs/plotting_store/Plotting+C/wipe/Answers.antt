use Rattle.std.proofs.Common.{◌∙◌, arith}
use Rattle.std.proofs.lemmas.Bool.Decides.{nat_tests}
use Rattle.store_theory.specs.Calls.{wiped_cue}
use Rattle.store_theory.specs.Checks.{wipe_check}
use Rattle.cues.proofs.Sizes.{cells_are, cue_cleared}
use Rattle.cues.proofs.plotting_store.Plotting+C.wipe.Goals as goal

pub returns-then-cue-self-clause-answer : goal.returns-then-cue-self-clause-answer
unfolding wiped_cue wipe_check
returns-then-cue-self-clause-answer g c h =
    let cells = cells_are (c.args.self.now.fits h) in
    grind (arith, nat_tests, cells)

pub returns-then-cells-self-clause-answer : goal.returns-then-cells-self-clause-answer
unfolding wiped_cue wipe_check
returns-then-cells-self-clause-answer g c h =
    let cells = cells_are (c.args.self.now.fits h) in
    grind (arith, nat_tests, cells)

pub returns-then-self-cue-clause-answer : goal.returns-then-self-cue-clause-answer
unfolding wiped_cue wipe_check
returns-then-self-cue-clause-answer g c h =
    let cells = cells_are (c.args.self.now.fits h) in
    grind (arith, nat_tests, cells)

pub returns-clause-answer : goal.returns-clause-answer
unfolding wiped_cue wipe_check
returns-clause-answer g c h =
    let cells = cells_are (c.args.self.now.fits h) in
    let wiped = c.clear.ensures ∙ cue_cleared (c.args.self.now.fits h) c.args.cue c.args.cells.now c.if-cue-self.false c.if-cells-self.false in
    grind (arith, nat_tests, cells, wiped)

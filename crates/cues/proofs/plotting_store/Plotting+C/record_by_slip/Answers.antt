use Rattle.std.proofs.Common.{arith}
use Rattle.std.proofs.lemmas.Bool.Decides.{nat_tests}
use Rattle.store_theory.specs.Calls.{recorded_cue_by_slip}
use Rattle.store_theory.specs.Checks.{slip_check}
use Rattle.cues.proofs.Sizes.{few_is}
use Rattle.cues.proofs.plotting_store.Plotting+C.record_by_slip.Goals as goal

pub returns-in_err-check_recording-clause-answer : goal.returns-in_err-check_recording-clause-answer
unfolding recorded_cue_by_slip slip_check
returns-in_err-check_recording-clause-answer g c h =
    let few = few_is (c.args.self.now.fits h) in
    grind (arith, nat_tests, few)

pub returns-then-not-self-slip-clause-answer : goal.returns-then-not-self-slip-clause-answer
unfolding recorded_cue_by_slip slip_check
returns-then-not-self-slip-clause-answer g c h =
    let few = few_is (c.args.self.now.fits h) in
    grind (arith, nat_tests, few)

pub returns-clause-answer : goal.returns-clause-answer
unfolding recorded_cue_by_slip slip_check
returns-clause-answer g c h =
    let few = few_is (c.args.self.now.fits h) in
    grind (arith, nat_tests, few, c.write_cue.ensures.answer h)

use Rattle.std.proofs.Common.{arith}
use Rattle.std.proofs.lemmas.Bool.Decides.{nat_tests}
use Rattle.store_theory.specs.Calls.{recorded_cue}
use Rattle.store_theory.specs.Checks.{record_check}
use Rattle.cues.proofs.Sizes.{few_is}
use Rattle.cues.proofs.plotting_store.Plotting+C.record.Goals as goal

pub returns-in_err-check_recording-clause-answer : goal.returns-in_err-check_recording-clause-answer
unfolding recorded_cue record_check
returns-in_err-check_recording-clause-answer g c h =
    let few = few_is (c.args.self.now.fits h) in
    grind (arith, nat_tests, few)

pub returns-then-self-cue-clause-answer : goal.returns-then-self-cue-clause-answer
unfolding recorded_cue record_check
returns-then-self-cue-clause-answer g c h =
    let few = few_is (c.args.self.now.fits h) in
    grind (arith, nat_tests, few)

pub returns-clause-answer : goal.returns-clause-answer
unfolding recorded_cue record_check
returns-clause-answer g c h =
    let few = few_is (c.args.self.now.fits h) in
    grind (arith, nat_tests, few, c.write_cue.ensures.answer h)

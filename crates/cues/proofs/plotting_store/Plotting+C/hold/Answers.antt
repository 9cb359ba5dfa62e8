use Rattle.std.proofs.Common.{arith}
use Rattle.std.proofs.lemmas.Bool.Decides.{nat_tests}
use Rattle.store_theory.specs.Calls.{held_cue}
use Rattle.store_theory.specs.Checks.{hold_check}
use Rattle.cues.proofs.plotting_store.Plotting+C.hold.Goals as goal

pub returns-then-cue-self-clause-answer : goal.returns-then-cue-self-clause-answer
unfolding held_cue hold_check
returns-then-cue-self-clause-answer g c = grind (arith, nat_tests)

pub returns-then-self-cue-clause-answer : goal.returns-then-self-cue-clause-answer
unfolding held_cue hold_check
returns-then-self-cue-clause-answer g c = grind (arith, nat_tests)

pub returns-clause-answer : goal.returns-clause-answer
unfolding held_cue hold_check
returns-clause-answer g c = grind (arith, nat_tests)

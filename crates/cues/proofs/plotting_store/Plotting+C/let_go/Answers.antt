use Rattle.std.proofs.Common.{arith}
use Rattle.std.proofs.lemmas.Bool.Decides.{nat_tests}
use Rattle.store_theory.specs.Calls.{let_go_cue}
use Rattle.cues.proofs.plotting_store.Plotting+C.let_go.Goals as goal

pub returns-then-cue-self-clause-answer : goal.returns-then-cue-self-clause-answer
unfolding let_go_cue
returns-then-cue-self-clause-answer g c = grind (arith, nat_tests)

pub returns-else-cue-self-clause-answer : goal.returns-else-cue-self-clause-answer
unfolding let_go_cue
returns-else-cue-self-clause-answer g c = grind (arith, nat_tests)

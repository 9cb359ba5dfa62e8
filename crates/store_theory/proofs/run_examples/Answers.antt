use Rattle.std.proofs.Common.{refl}
use Rattle.store_theory.proofs.RunExamples.{run_examples_hold}
use Rattle.store_theory.proofs.run_examples.Goals as goal

pub returns : goal.returns
returns c = record { value = refl; run_examples_hold = run_examples_hold }

use Rattle.std.proofs.Common.{refl}
use Rattle.theory.proofs.Worked.{worked_examples_hold}
use Rattle.theory.proofs.worked_examples.Goals as goal

pub returns : goal.returns
returns c = record { value = refl; worked_examples_hold = worked_examples_hold }

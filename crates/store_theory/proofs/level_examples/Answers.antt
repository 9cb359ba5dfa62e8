use Rattle.std.proofs.Common.{refl}
use Rattle.store_theory.proofs.LevelExamples.{level_examples_hold}
use Rattle.store_theory.proofs.level_examples.Goals as goal

pub returns : goal.returns
returns c = record { value = refl; level_examples_hold = level_examples_hold }

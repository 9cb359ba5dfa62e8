use Rattle.std.proofs.Common.{refl}
use Rattle.store_theory.proofs.Levels.{written_levels_read_back}
use Rattle.store_theory.proofs.most_levels.Goals as goal

pub returns : goal.returns
returns c = record { value = refl; written_levels_read_back = written_levels_read_back }

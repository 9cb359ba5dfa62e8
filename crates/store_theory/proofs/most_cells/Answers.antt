use Rattle.std.proofs.Common.{refl}
use Rattle.store_theory.proofs.Recalls.{recall_gives_what_was_last_recorded}
use Rattle.store_theory.proofs.most_cells.Goals as goal

pub returns : goal.returns
returns c = record { value = refl; recall_gives_what_was_last_recorded = recall_gives_what_was_last_recorded }

use Rattle.std.proofs.Common.{refl}
use Rattle.theory.proofs.Piles.{shown_pair_is_at_the_distance}
use Rattle.theory.proofs.shown_messages.Goals as goal

pub returns : goal.returns
returns c = record { value = refl; shown_pair_is_at_the_distance = shown_pair_is_at_the_distance }

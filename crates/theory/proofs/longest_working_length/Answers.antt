use Rattle.std.proofs.Common.{refl}
use Rattle.theory.proofs.Piles.{every_pile_keeps_its_meaning}
use Rattle.theory.proofs.longest_working_length.Goals as goal

pub returns : goal.returns
returns c = record { value = refl; every_pile_keeps_its_meaning = every_pile_keeps_its_meaning }

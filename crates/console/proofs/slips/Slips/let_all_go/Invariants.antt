use Rattle.std.proofs.Common.{vec_len}
use Rattle.console.proofs.slips.Slips.let_all_go.Given as goal

abbrev pub decreases-loop-numbered : goal.decreases-loop-numbered
decreases-loop-numbered g l = vec_len l.out

use Rattle.cues.proofs.Messages.{divided_more}
use Rattle.cues.proofs.symbols.digit.Goals as goal

pub loop-preserved : goal.loop-preserved
loop-preserved c = divided_more c.args.order c.args.level c.loop.counter c.loop.high c.loop.invariant

use Rattle.console.proofs.Cutting.{next_piece}
use Rattle.console.proofs.text.PiecesIterator.next.Goals as goal

pub returns-clause-steps : goal.returns-clause-steps
returns-clause-steps c = next_piece c.args.self.now c.in_ok-rest.rest c.cut.result.0 c.cut.result.1 c.in_ok-rest.was c.cut.ensures.piece c.cut.ensures.rest

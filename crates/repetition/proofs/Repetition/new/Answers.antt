use Rattle.theory.proofs.Repetition.{repetition_made, repetition_refused}
use Rattle.repetition.proofs.Repetition.new.Goals as goal

pub returns-then-n-lt1 : goal.returns-then-n-lt1
returns-then-n-lt1 g c = repetition_refused c.args.n c.then-n-lt1.either

pub returns : goal.returns
returns g c = repetition_made c.args.n c.if-n-lt1.false c.if-n-gt64.false

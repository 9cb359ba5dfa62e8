use Rattle.theory.proofs.Parity.{parity_made, parity_refused}
use Rattle.parity.proofs.Parity.new.Goals as goal

pub returns-then-n-lt2 : goal.returns-then-n-lt2
returns-then-n-lt2 g c = parity_refused g.S.Alphabet.symbols c.args.n c.then-n-lt2.either

pub returns : goal.returns
returns g c = parity_made g.S.Alphabet.symbols c.args.n c.if-n-lt2.false c.if-n-gt64.false

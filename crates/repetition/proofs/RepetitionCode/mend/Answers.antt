use Rattle.std.proofs.Common.{sym}
use Rattle.theory.specs.Repetition.{repetition}
use Rattle.theory.proofs.Calls.{mended_short}
use Rattle.repetition.proofs.Copies.{mend_found, mend_none}
use Rattle.repetition.proofs.RepetitionCode.mend.Goals as goal

pub returns-then-memory-self : goal.returns-then-memory-self
returns-then-memory-self g c fit =
    sym (mended_short g.S.Alphabet.symbols (repetition c.args.self.now.n) c.args.memory.now c.if-memory-self.true)

pub returns-in_default : goal.returns-in_default
returns-in_default g c fit =
    mend_none g.S.Alphabet.symbols c.args.self.now.n c.args.self.now.least c.args.self.now.most c.args.memory.now c.if-memory-self.false c.in_default.ensures

pub returns : goal.returns
returns g c fit =
    mend_found g.S.Alphabet.symbols c.args.self.now.n c.args.self.now.least c.args.self.now.most c.args.memory.now c.if-memory-self.false c.in-Some.symbol c.in-Some.ensures c.fill.new.self (c.fill.ensures.after (λ y e. e))

use Rattle.std.proofs.Common.{sym, arith}
use Rattle.theory.specs.Repetition.{repetition}
use Rattle.theory.proofs.Calls.{sent_short}
use Rattle.repetition.proofs.Copies.{send_mark, send_symbol}
use Rattle.repetition.proofs.RepetitionCode.send.Goals as goal

pub returns-then-memory-self : goal.returns-then-memory-self
returns-then-memory-self g c fit =
    sym (sent_short g.S.Alphabet.symbols (repetition c.args.self.now.n) c.args.memory.now c.if-memory-self.true)

pub returns-then-symbol-order : goal.returns-then-symbol-order
returns-then-symbol-order g c fit =
    send_mark g.S.Alphabet.symbols c.args.self.now.n c.args.self.now.least c.args.self.now.most c.args.memory.now c.if-memory-self.false (omega (arith, c.order.ensures, c.if-symbol-order.true))

pub returns : goal.returns
returns g c fit =
    send_symbol g.S.Alphabet.symbols c.args.self.now.n c.args.self.now.least c.args.self.now.most c.args.memory.now c.if-memory-self.false (omega (arith, c.order.ensures, c.if-symbol-order.false)) c.fill.new.self (c.fill.ensures.after (λ y e. e))

use Rattle.std.proofs.Common.{ℕ, ◌-◌, set, sym, ap, ◌∙◌}
use Rattle.theory.specs.Alphabets.{minus}
use Rattle.theory.specs.Calls.{accepted}
use Rattle.theory.specs.Parity.{parity}
use Rattle.theory.proofs.Calls.{sent_short}
use Rattle.parity.proofs.Ways.{send_mark, send_word}
use Rattle.parity.proofs.ParityCode.send.Goals as goal

pub returns-then-memory-self : goal.returns-then-memory-self
returns-then-memory-self g c fit = sym (sent_short g.S.Alphabet.symbols (parity g.S.Alphabet.symbols c.args.self.now.n) c.args.memory.now c.if-memory-self.true)

pub returns-in-Some : goal.returns-in-Some
returns-in-Some g c fit =
    send_mark g.S.Alphabet.symbols g.met.S.Alphabet.lawful c.args.self.now.n c.args.self.now.least c.args.self.now.most c.args.memory.now c.if-memory-self.false c.in-Some.place (sym c.in-Some.ensures)

pub returns : goal.returns
returns g c fit =
    ap (λ (v : ℕ). (accepted, set c.args.memory.now (c.args.self.now.n - 1) v)) (c.negate.ensures ∙ ap (minus g.S.Alphabet.symbols) c.sum_of_unmarked.ensures)
    ∙ send_word g.S.Alphabet.symbols g.met.S.Alphabet.lawful c.args.self.now.n c.args.self.now.least c.args.self.now.most c.args.memory.now c.if-memory-self.false (sym c.in_default.ensures)

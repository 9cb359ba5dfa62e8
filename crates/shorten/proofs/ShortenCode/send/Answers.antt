use Rattle.std.proofs.Common.{ℕ, ◌-◌, take, sym, ap, ◌∙◌, arith}
use Rattle.parts.proofs.Outcomes.{err_is_refused}
use Rattle.theory.specs.Calls.{accepted, first_mark, sent}
use Rattle.theory.specs.Joins.{shorten}
use Rattle.theory.specs.Parts.{call_in_part}
use Rattle.theory.proofs.Calls.{paired, sent_short, sent_by_lem}
use Rattle.theory.proofs.Memory.{front_is}
use Rattle.shorten.specs.Ways.{sends}
use Rattle.shorten.proofs.ShortenCode.send.Goals as goal

pub returns-then-memory-end : goal.returns-then-memory-end
returns-then-memory-end g c fit =
    let self = c.args.self.now in
    let numbers = self.whole.asked fit in
    sym (sent_short g.C.Symbols.Alphabet.symbols (shorten self.place self.lost (g.C.Code.meaning self.whole.code)) c.args.memory.now (omega arith))

pub returns-in-Some : goal.returns-in-Some
returns-in-Some g c fit =
    let self = c.args.self.now in
    let numbers = self.whole.asked fit in
    let q = g.C.Symbols.Alphabet.symbols.q in
    sym (sent_by_lem g.C.Symbols.Alphabet.symbols (shorten self.place self.lost (g.C.Code.meaning self.whole.code)) c.args.memory.now (omega arith) _
    (ap (λ (i : ℕ). first_mark q (take (i - 1) c.args.memory.now)) (sym numbers.dimension) ∙ sym (ap (first_mark q) (front_is (self.whole.numbers.dimension - 1) c.args.memory.now)) ∙ sym c.in-Some.ensures))

pub returns-in_err-send : goal.returns-in_err-send
returns-in_err-send g c fit =
    let self = c.args.self.now in
    let numbers = self.whole.asked fit in
    let none = sym (ap (first_mark g.C.Symbols.Alphabet.symbols.q) (front_is (self.whole.numbers.dimension - 1) c.args.memory.now)) ∙ sym c.in_default.ensures in
    let way = sends g.met.C.Symbols.Alphabet.lawful (g.met.C.Code.keeps self.whole.code fit) (self.carrier fit) numbers self.within self.remains self.bounded c.args.memory.now c.if-memory-end.false none _ _ (c.send.ensures fit ∙ ap (call_in_part (sent g.C.Symbols.Alphabet.symbols (g.C.Code.meaning self.whole.code)) self.whole.numbers.length self.whole.numbers.dimension self.whole.numbers.length self.whole.numbers.working) c.widen.ensures) in
    absurd (err_is_refused c.send.result c.in_err-send.field-0.0 c.in_err-send.was way.0)

pub returns : goal.returns
returns g c fit =
    let self = c.args.self.now in
    let numbers = self.whole.asked fit in
    let none = sym (ap (first_mark g.C.Symbols.Alphabet.symbols.q) (front_is (self.whole.numbers.dimension - 1) c.args.memory.now)) ∙ sym c.in_default.ensures in
    let way = sends g.met.C.Symbols.Alphabet.lawful (g.met.C.Code.keeps self.whole.code fit) (self.carrier fit) numbers self.within self.remains self.bounded c.args.memory.now c.if-memory-end.false none _ _ (c.send.ensures fit ∙ ap (call_in_part (sent g.C.Symbols.Alphabet.symbols (g.C.Code.meaning self.whole.code)) self.whole.numbers.length self.whole.numbers.dimension self.whole.numbers.length self.whole.numbers.working) c.widen.ensures) in
    ap (paired accepted) c.narrow_to_front.ensures ∙ way.1

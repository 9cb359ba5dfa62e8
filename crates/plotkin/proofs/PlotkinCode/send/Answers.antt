use Rattle.std.proofs.Common.{ℕ, ◌+◌, [], take, sym, refl, ap, ◌∙◌, ap₂, arith}
use Rattle.parts.proofs.Outcomes.{err_is_refused}
use Rattle.theory.specs.Calls.{accepted, first_mark}
use Rattle.theory.specs.Joins.{plotkin}
use Rattle.theory.proofs.Calls.{paired, sent_short, sent_by_lem}
use Rattle.theory.proofs.Memory.{front_is}
use Rattle.plotkin.proofs.Ways.{sends}
use Rattle.plotkin.proofs.PlotkinCode.send.Goals as goal

pub returns-then-memory-end : goal.returns-then-memory-end
returns-then-memory-end g c fit =
    let self = c.args.self.now in
    let of-u = self.left.asked fit.0 in
    let of-v = self.right.asked fit.1 in
    sym (sent_short g.U.Symbols.Alphabet.symbols (plotkin g.U.Symbols.Alphabet.symbols (g.U.Code.meaning self.left.code) (g.V.Code.meaning self.right.code)) c.args.memory.now (omega arith))

pub returns-in-Some : goal.returns-in-Some
returns-in-Some g c fit =
    let self = c.args.self.now in
    let of-u = self.left.asked fit.0 in
    let of-v = self.right.asked fit.1 in
    let q = g.U.Symbols.Alphabet.symbols.q in
    sym (sent_by_lem g.U.Symbols.Alphabet.symbols (plotkin g.U.Symbols.Alphabet.symbols (g.U.Code.meaning self.left.code) (g.V.Code.meaning self.right.code)) c.args.memory.now (omega arith) _
    (ap (λ (k : ℕ). first_mark q (take k c.args.memory.now)) (sym (ap₂ (λ (i j : ℕ). i + j) of-u.dimension of-v.dimension)) ∙ sym (ap (first_mark q) (front_is (self.left.numbers.dimension + self.right.numbers.dimension) c.args.memory.now)) ∙ sym c.in-Some.ensures))

pub returns-in_err-send : goal.returns-in_err-send
returns-in_err-send g c fit =
    let self = c.args.self.now in
    let of-u = self.left.asked fit.0 in
    let of-v = self.right.asked fit.1 in
    let none = sym (ap (first_mark g.U.Symbols.Alphabet.symbols.q) (front_is (self.left.numbers.dimension + self.right.numbers.dimension) c.args.memory.now)) ∙ sym c.in_default.ensures in
    let way = sends g.met.U.Symbols.Alphabet.lawful (g.met.U.Code.keeps self.left.code fit.0) (g.met.V.Code.keeps self.right.code fit.1) of-u of-v self.level c.args.memory.now c.if-memory-end.false none _ _ _ _ [] (c.send.ensures fit.1) refl in
    absurd (err_is_refused c.send.result c.in_err-send.field-0.0 c.in_err-send.was way.0)

pub returns-in_err-send-2 : goal.returns-in_err-send-2
returns-in_err-send-2 g c fit =
    let self = c.args.self.now in
    let of-u = self.left.asked fit.0 in
    let of-v = self.right.asked fit.1 in
    let none = sym (ap (first_mark g.U.Symbols.Alphabet.symbols.q) (front_is (self.left.numbers.dimension + self.right.numbers.dimension) c.args.memory.now)) ∙ sym c.in_default.ensures in
    let way = sends g.met.U.Symbols.Alphabet.lawful (g.met.U.Code.keeps self.left.code fit.0) (g.met.V.Code.keeps self.right.code fit.1) of-u of-v self.level c.args.memory.now c.if-memory-end.false none _ _ _ _ [] (c.send.ensures fit.1) (c.send-2.ensures fit.0) in
    absurd (err_is_refused c.send-2.result c.in_err-send-2.field-0.0 c.in_err-send-2.was way.1)

pub returns : goal.returns
returns g c fit =
    let self = c.args.self.now in
    let of-u = self.left.asked fit.0 in
    let of-v = self.right.asked fit.1 in
    let none = sym (ap (first_mark g.U.Symbols.Alphabet.symbols.q) (front_is (self.left.numbers.dimension + self.right.numbers.dimension) c.args.memory.now)) ∙ sym c.in_default.ensures in
    let way = sends g.met.U.Symbols.Alphabet.lawful (g.met.U.Code.keeps self.left.code fit.0) (g.met.V.Code.keeps self.right.code fit.1) of-u of-v self.level c.args.memory.now c.if-memory-end.false none _ _ _ _ c.combine.new.memory (c.send.ensures fit.1) (c.send-2.ensures fit.0) in
    ap (paired accepted) c.gather.ensures ∙ way.2 c.combine.ensures

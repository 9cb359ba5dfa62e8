use Rattle.std.proofs.Common.{[], sym, ap, ◌∙◌, arith}
use Rattle.parts.proofs.Outcomes.{err_refuses, ok_accepts}
use Rattle.theory.specs.Calls.{accepted, refused}
use Rattle.theory.specs.Joins.{puncture}
use Rattle.theory.proofs.Calls.{paired, mended_short}
use Rattle.puncture.specs.Ways.{mends}
use Rattle.puncture.proofs.PunctureCode.mend.Goals as goal

pub returns-then-memory-end : goal.returns-then-memory-end
returns-then-memory-end g c fit =
    let self = c.args.self.now in
    let numbers = self.whole.asked fit in
    sym (mended_short g.C.Symbols.Alphabet.symbols (puncture self.place (g.C.Code.meaning self.whole.code)) c.args.memory.now (omega arith))

pub returns-then-is_err : goal.returns-then-is_err
returns-then-is_err g c fit =
    let self = c.args.self.now in
    let numbers = self.whole.asked fit in
    let ways = mends g.met.C.Symbols.Alphabet.lawful (g.met.C.Code.keeps self.whole.code fit) numbers self.within self.apart self.bounded c.args.memory.now c.if-memory-end.false _ _ (c.mend_widened.ensures fit) in
    ap (paired (refused 3 [])) c.clear.ensures ∙ ways.none (err_refuses _ (sym c.is_err.ensures.value ∙ c.if-is_err.true))

pub returns : goal.returns
returns g c fit =
    let self = c.args.self.now in
    let numbers = self.whole.asked fit in
    let ways = mends g.met.C.Symbols.Alphabet.lawful (g.met.C.Code.keeps self.whole.code fit) numbers self.within self.apart self.bounded c.args.memory.now c.if-memory-end.false _ _ (c.mend_widened.ensures fit) in
    ap (paired accepted) c.narrow_to_front.ensures ∙ ways.found (ok_accepts _ (sym c.is_err.ensures.value ∙ c.if-is_err.false))

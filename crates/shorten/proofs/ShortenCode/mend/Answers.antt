use Rattle.std.proofs.Common.{[], sym, ap, ◌∙◌, arith}
use Rattle.parts.proofs.Outcomes.{err_refuses, ok_accepts}
use Rattle.theory.specs.Calls.{accepted, refused}
use Rattle.theory.specs.Joins.{shorten}
use Rattle.theory.proofs.Calls.{paired, mended_short}
use Rattle.shorten.specs.Ways.{mends}
use Rattle.shorten.proofs.ShortenCode.mend.Goals as goal
use Rattle.shorten.proofs.ShortenCode.mend.Goals.{then-is_err-via-then-is_err, then-is_err-via-else-is_err+then-memory-n-ne0}

pub returns-then-memory-end : goal.returns-then-memory-end
returns-then-memory-end g c fit =
    let self = c.args.self.now in
    let numbers = self.whole.asked fit in
    sym (mended_short g.C.Symbols.Alphabet.symbols (shorten self.place self.lost (g.C.Code.meaning self.whole.code)) c.args.memory.now (omega arith))

pub returns-then-is_err : goal.returns-then-is_err
returns-then-is_err g c fit =
    let self = c.args.self.now in
    let numbers = self.whole.asked fit in
    let ways = mends g.met.C.Symbols.Alphabet.lawful (g.met.C.Code.keeps self.whole.code fit) (self.carrier fit) numbers self.within self.remains self.bounded c.args.memory.now c.if-memory-end.false _ _ (c.mend_widened-below.ensures fit) in
    ap (paired (refused 3 [])) c.clear.ensures
    ∙ elim c.then-is_err.branch [
      | then-is_err-via-then-is_err w ↦ ways.none (err_refuses _ (sym c.is_err.ensures.value ∙ w.if-is_err.true))
      | then-is_err-via-else-is_err+then-memory-n-ne0 w ↦ ways.other (ok_accepts _ (sym c.is_err.ensures.value ∙ w.if-is_err.false)) w.if-memory-n-ne0.true
    ]

pub returns : goal.returns
returns g c fit =
    let self = c.args.self.now in
    let numbers = self.whole.asked fit in
    let ways = mends g.met.C.Symbols.Alphabet.lawful (g.met.C.Code.keeps self.whole.code fit) (self.carrier fit) numbers self.within self.remains self.bounded c.args.memory.now c.if-memory-end.false _ _ (c.mend_widened-below.ensures fit) in
    ap (paired accepted) c.narrow_to_front.ensures
    ∙ ways.found (ok_accepts _ (sym c.is_err.ensures.value ∙ c.if-is_err.false)) c.if-memory-n-ne0.false

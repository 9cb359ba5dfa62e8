use Rattle.std.proofs.Common.{[], sym, ap, ◌∙◌, arith}
use Rattle.parts.proofs.Outcomes.{err_refuses, ok_accepts}
use Rattle.theory.specs.Calls.{accepted, refused, read_back}
use Rattle.theory.specs.Joins.{shorten}
use Rattle.theory.specs.Parts.{call_in_part}
use Rattle.theory.proofs.Calls.{paired, read_short}
use Rattle.shorten.specs.Ways.{reads}
use Rattle.shorten.proofs.ShortenCode.read.Goals as goal

pub returns-then-memory-end : goal.returns-then-memory-end
returns-then-memory-end g c fit =
    let self = c.args.self.now in
    let numbers = self.whole.asked fit in
    sym (read_short g.C.Symbols.Alphabet.symbols (shorten self.place self.lost (g.C.Code.meaning self.whole.code)) c.args.memory.now (omega arith))

pub returns-then-is_err : goal.returns-then-is_err
returns-then-is_err g c fit =
    let self = c.args.self.now in
    let numbers = self.whole.asked fit in
    let ways = reads g.met.C.Symbols.Alphabet.lawful (g.met.C.Code.keeps self.whole.code fit) (self.carrier fit) numbers self.within self.remains self.bounded c.args.memory.now c.if-memory-end.false _ _ (c.read.ensures fit ∙ ap (call_in_part (read_back g.C.Symbols.Alphabet.symbols (g.C.Code.meaning self.whole.code)) self.whole.numbers.length self.whole.numbers.length self.whole.numbers.length self.whole.numbers.working) c.widen.ensures) in
    ap (paired (refused 4 [])) c.clear.ensures ∙ ways.none (err_refuses _ (sym c.is_err.ensures.value ∙ c.if-is_err.true))

pub returns : goal.returns
returns g c fit =
    let self = c.args.self.now in
    let numbers = self.whole.asked fit in
    let ways = reads g.met.C.Symbols.Alphabet.lawful (g.met.C.Code.keeps self.whole.code fit) (self.carrier fit) numbers self.within self.remains self.bounded c.args.memory.now c.if-memory-end.false _ _ (c.read.ensures fit ∙ ap (call_in_part (read_back g.C.Symbols.Alphabet.symbols (g.C.Code.meaning self.whole.code)) self.whole.numbers.length self.whole.numbers.length self.whole.numbers.length self.whole.numbers.working) c.widen.ensures) in
    ap (paired accepted) c.narrow_to_front.ensures ∙ ways.word (ok_accepts _ (sym c.is_err.ensures.value ∙ c.if-is_err.false))

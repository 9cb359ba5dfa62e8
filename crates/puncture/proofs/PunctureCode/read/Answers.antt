use Rattle.std.proofs.Common.{ℕ, ◌+◌, ◌-◌, List, [], sym, ap, ◌∙◌, arith}
use Rattle.parts.proofs.Outcomes.{err_refuses, ok_accepts, err_is_refused}
use Rattle.theory.specs.Calls.{accepted, refused}
use Rattle.theory.specs.Joins.{puncture}
use Rattle.theory.specs.Memory.{cleared}
use Rattle.theory.proofs.Calls.{paired, read_short}
use Rattle.puncture.specs.Ways.{reads}
use Rattle.puncture.proofs.PunctureCode.read.Goals as goal
use Rattle.puncture.proofs.PunctureCode.read.Goals.{then-is_err-via-then-is_err, then-is_err-via-else-is_err+then-not-same_without}

pub returns-then-memory-end : goal.returns-then-memory-end
returns-then-memory-end g c fit =
    let self = c.args.self.now in
    let numbers = self.whole.asked fit in
    sym (read_short g.C.Symbols.Alphabet.symbols (puncture self.place (g.C.Code.meaning self.whole.code)) c.args.memory.now (omega arith))

pub returns-then-is_err : goal.returns-then-is_err
returns-then-is_err g c fit =
    let self = c.args.self.now in
    let numbers = self.whole.asked fit in
    let ways = reads g.met.C.Symbols.Alphabet.lawful (g.met.C.Code.keeps self.whole.code fit) numbers self.within self.apart self.bounded c.args.memory.now c.if-memory-end.false _ _ (c.mend_widened-mended.ensures fit) in
    ap (paired (refused 4 [])) c.clear.ensures
    ∙ elim c.then-is_err.branch [
      | then-is_err-via-then-is_err w ↦ ways.none (err_refuses _ (sym c.is_err.ensures.value ∙ w.if-is_err.true))
      | then-is_err-via-else-is_err+then-not-same_without w ↦ ways.other (ok_accepts _ (sym c.is_err.ensures.value ∙ w.if-is_err.false)) (sym w.same_without.ensures ∙ w.if-not-same_without.true)
    ]

pub returns-in_err-read : goal.returns-in_err-read
returns-in_err-read g c fit =
    let self = c.args.self.now in
    let numbers = self.whole.asked fit in
    let ways = reads g.met.C.Symbols.Alphabet.lawful (g.met.C.Code.keeps self.whole.code fit) numbers self.within self.apart self.bounded c.args.memory.now c.if-memory-end.false _ _ (c.mend_widened-mended.ensures fit) in
    absurd (err_is_refused c.read.result c.in_err-read.field-0.0 c.in_err-read.was (ways.word (ok_accepts _ (sym c.is_err.ensures.value ∙ c.if-is_err.false)) (sym c.same_without.ensures ∙ c.if-not-same_without.false) _ _ (c.read.ensures fit)).0)

pub returns : goal.returns
returns g c fit =
    let self = c.args.self.now in
    let numbers = self.whole.asked fit in
    let ways = reads g.met.C.Symbols.Alphabet.lawful (g.met.C.Code.keeps self.whole.code fit) numbers self.within self.apart self.bounded c.args.memory.now c.if-memory-end.false _ _ (c.mend_widened-mended.ensures fit) in
    let k = self.whole.numbers.dimension in
    ap (paired accepted) (c.clear-2.ensures ∙ ap (λ (z : List ℕ). cleared z k (self.whole.numbers.working + self.whole.numbers.length - k)) c.move_within.ensures)
    ∙ (ways.word (ok_accepts _ (sym c.is_err.ensures.value ∙ c.if-is_err.false)) (sym c.same_without.ensures ∙ c.if-not-same_without.false) _ _ (c.read.ensures fit)).1

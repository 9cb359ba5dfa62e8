use Rattle.std.proofs.Common.{[], sym, ap, ◌∙◌, arith}
use Rattle.std.proofs.lemmas.Bool.{ltb-true, ltb-false}
use Rattle.parts.proofs.Outcomes.{err_refuses, ok_accepts}
use Rattle.theory.specs.Calls.{refused, accepted}
use Rattle.theory.specs.Joins.{direct_sum}
use Rattle.theory.proofs.Calls.{paired, mended_short}
use Rattle.direct_sum.proofs.Ways.{mends}
use Rattle.direct_sum.proofs.DirectSumCode.mend.Goals as goal
use Rattle.direct_sum.proofs.DirectSumCode.mend.Goals.{then-is_err-via-then-is_err, then-is_err-via-else-is_err+then-is_err-2, then-is_err-via-else-is_err+else-is_err-2+then-not-is_near}

pub returns-then-memory-end : goal.returns-then-memory-end
returns-then-memory-end g c fit =
    let self = c.args.self.now in
    let of-u = self.left.asked fit.0 in
    let of-v = self.right.asked fit.1 in
    sym (mended_short g.U.Symbols.Alphabet.symbols (direct_sum (g.U.Code.meaning self.left.code) (g.V.Code.meaning self.right.code)) c.args.memory.now (omega arith))

pub returns-then-is_err : goal.returns-then-is_err
returns-then-is_err g c fit =
    let self = c.args.self.now in
    let of-u = self.left.asked fit.0 in
    let of-v = self.right.asked fit.1 in
    let ways = mends g.met.U.Symbols.Alphabet.lawful (g.met.U.Code.keeps self.left.code fit.0) (g.met.V.Code.keeps self.right.code fit.1) of-u of-v self.bounded c.args.memory.now c.if-memory-end.false _ _ _ _ (c.mend-of_right.ensures fit.1) (c.mend-of_left.ensures fit.0) in
    ap (paired (refused 3 [])) c.clear.ensures
    ∙ elim c.then-is_err.branch [
      | then-is_err-via-then-is_err w ↦ ways.by_right (err_refuses _ (sym c.is_err.ensures.value ∙ w.if-is_err.true))
      | then-is_err-via-else-is_err+then-is_err-2 w ↦ ways.by_left (err_refuses _ (sym w.is_err-else-is_err.ensures.value ∙ w.if-is_err-2.true))
      | then-is_err-via-else-is_err+else-is_err-2+then-not-is_near w ↦ ways.far (ltb-false _ _ (sym w.is_near.ensures ∙ w.if-not-is_near.true))
    ]

pub returns : goal.returns
returns g c fit =
    let self = c.args.self.now in
    let of-u = self.left.asked fit.0 in
    let of-v = self.right.asked fit.1 in
    let ways = mends g.met.U.Symbols.Alphabet.lawful (g.met.U.Code.keeps self.left.code fit.0) (g.met.V.Code.keeps self.right.code fit.1) of-u of-v self.bounded c.args.memory.now c.if-memory-end.false _ _ _ _ (c.mend-of_right.ensures fit.1) (c.mend-of_left.ensures fit.0) in
    ap (paired accepted) c.gather.ensures
    ∙ ways.near (ok_accepts _ (sym c.is_err.ensures.value ∙ c.if-is_err.false)) (ok_accepts _ (sym c.is_err-else-is_err.ensures.value ∙ c.if-is_err-2.false)) (ltb-true _ _ (sym c.is_near.ensures ∙ c.if-not-is_near.false))

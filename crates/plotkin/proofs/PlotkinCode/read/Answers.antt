use Rattle.std.proofs.Common.{[], sym, ap, ◌∙◌, arith}
use Rattle.parts.proofs.Outcomes.{err_refuses, ok_accepts}
use Rattle.theory.specs.Calls.{accepted, refused}
use Rattle.theory.specs.Joins.{plotkin}
use Rattle.theory.proofs.Calls.{paired, read_short}
use Rattle.plotkin.proofs.Ways.{reads}
use Rattle.plotkin.proofs.PlotkinCode.read.Goals as goal
use Rattle.plotkin.proofs.PlotkinCode.read.Goals.{then-is_err-via-then-is_err, then-is_err-via-else-is_err+then-is_err-2}

pub returns-then-memory-end : goal.returns-then-memory-end
returns-then-memory-end g c fit =
    let self = c.args.self.now in
    let of-u = self.left.asked fit.0 in
    let of-v = self.right.asked fit.1 in
    sym (read_short g.U.Symbols.Alphabet.symbols (plotkin g.U.Symbols.Alphabet.symbols (g.U.Code.meaning self.left.code) (g.V.Code.meaning self.right.code)) c.args.memory.now (omega arith))

pub returns-then-is_err : goal.returns-then-is_err
returns-then-is_err g c fit =
    let self = c.args.self.now in
    let of-u = self.left.asked fit.0 in
    let of-v = self.right.asked fit.1 in
    let ways = reads g.met.U.Symbols.Alphabet.lawful (g.met.U.Code.keeps self.left.code fit.0) (g.met.V.Code.keeps self.right.code fit.1) of-u of-v self.level self.bounded c.args.memory.now c.if-memory-end.false _ c.combine.ensures _ _ _ _ (rw (← c.args.self.now.level) at (c.read-of_right.ensures fit.1)) (c.read-of_left.ensures fit.0) in
    ap (paired (refused 4 [])) c.clear.ensures
    ∙ elim c.then-is_err.branch [
      | then-is_err-via-then-is_err w ↦ ways.no_v (err_refuses _ (sym c.is_err.ensures.value ∙ w.if-is_err.true))
      | then-is_err-via-else-is_err+then-is_err-2 w ↦ ways.no_u (err_refuses _ (sym w.is_err-else-is_err.ensures.value ∙ w.if-is_err-2.true))
    ]

pub returns : goal.returns
returns g c fit =
    let self = c.args.self.now in
    let of-u = self.left.asked fit.0 in
    let of-v = self.right.asked fit.1 in
    let ways = reads g.met.U.Symbols.Alphabet.lawful (g.met.U.Code.keeps self.left.code fit.0) (g.met.V.Code.keeps self.right.code fit.1) of-u of-v self.level self.bounded c.args.memory.now c.if-memory-end.false _ c.combine.ensures _ _ _ _ (rw (← c.args.self.now.level) at (c.read-of_right.ensures fit.1)) (c.read-of_left.ensures fit.0) in
    ap (paired accepted) c.gather.ensures
    ∙ ways.both (ok_accepts _ (sym c.is_err.ensures.value ∙ c.if-is_err.false)) (ok_accepts _ (sym c.is_err-else-is_err.ensures.value ∙ c.if-is_err-2.false))

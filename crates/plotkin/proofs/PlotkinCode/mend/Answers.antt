use Rattle.std.proofs.Common.{ℕ, ◌+◌, ◌-◌, ◌*◌, Bool, List, [], sym, ap, ◌∙◌, arith}
use Rattle.parts.proofs.Outcomes.{err_refuses, ok_accepts}
use Rattle.theory.specs.Calls.{accepted, refused}
use Rattle.theory.specs.Joins.{plotkin}
use Rattle.theory.specs.Memory.{cleared}
use Rattle.theory.proofs.Calls.{paired, mended_short}
use Rattle.theory.proofs.Seeking.{answered}
use Rattle.plotkin.proofs.Ways.{mends}
use Rattle.plotkin.proofs.PlotkinCode.mend.Goals as goal
use Rattle.plotkin.proofs.PlotkinCode.mend.Goals.{then-is_err-via-then-is_err, then-is_err-via-else-is_err+then-not-finds_left}

pub returns-then-memory-end : goal.returns-then-memory-end
returns-then-memory-end g c fit =
    let self = c.args.self.now in
    let of-u = self.left.asked fit.0 in
    let of-v = self.right.asked fit.1 in
    sym (mended_short g.U.Symbols.Alphabet.symbols (plotkin g.U.Symbols.Alphabet.symbols (g.U.Code.meaning self.left.code) (g.V.Code.meaning self.right.code)) c.args.memory.now (omega arith))

pub returns-then-is_err : goal.returns-then-is_err
returns-then-is_err g c fit =
    let self = c.args.self.now in
    let of-u = self.left.asked fit.0 in
    let of-v = self.right.asked fit.1 in
    let ways = mends g.met.U.Symbols.Alphabet.lawful (g.met.U.Code.keeps self.left.code fit.0) (g.met.V.Code.keeps self.right.code fit.1) of-u of-v self.level self.bounded c.args.memory.now c.if-memory-end.false _ c.combine.ensures _ _ (rw (← c.args.self.now.level) at (c.mend-of_right.ensures fit.1)) in
    let n = self.left.numbers.length in
    let after = λ (z : List ℕ). paired (refused 3 []) (cleared z (2 * n) (3 * n + self.left.numbers.working + self.right.numbers.working - 2 * n)) in
    ap (paired (refused 3 [])) c.clear.ensures
    ∙ elim c.then-is_err.branch [
      | then-is_err-via-then-is_err w ↦ ap after w.memory-is ∙ ways.no_v (err_refuses _ (sym c.is_err.ensures.value ∙ w.if-is_err.true))
      | then-is_err-via-else-is_err+then-not-finds_left w ↦
          ap after w.memory-is
          ∙ ways.no_u (ok_accepts _ (sym c.is_err.ensures.value ∙ w.if-is_err.false)) w.finds_left.new.memory (ap (λ (b : Bool). answered b w.finds_left.new.memory) (sym w.if-not-finds_left.true) ∙ w.finds_left.ensures fit.0)
    ]

pub returns : goal.returns
returns g c fit =
    let self = c.args.self.now in
    let of-u = self.left.asked fit.0 in
    let of-v = self.right.asked fit.1 in
    let ways = mends g.met.U.Symbols.Alphabet.lawful (g.met.U.Code.keeps self.left.code fit.0) (g.met.V.Code.keeps self.right.code fit.1) of-u of-v self.level self.bounded c.args.memory.now c.if-memory-end.false _ c.combine.ensures _ _ (rw (← c.args.self.now.level) at (c.mend-of_right.ensures fit.1)) in
    ap (paired accepted) c.gather.ensures
    ∙ ways.found (ok_accepts _ (sym c.is_err.ensures.value ∙ c.if-is_err.false)) c.finds_left.new.memory (ap (λ (b : Bool). answered b c.finds_left.new.memory) (sym c.if-not-finds_left.false) ∙ c.finds_left.ensures fit.0)

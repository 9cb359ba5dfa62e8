use Rattle.std.proofs.Common.{◌*◌, ltb, sym, ap, ◌∙◌, arith}
use Rattle.parts.proofs.Outcomes.{err_refuses, ok_accepts}
use Rattle.parts.proofs.Tolls.{near_by_toll}
use Rattle.plotkin.specs.Kept.{kept}
use Rattle.theory.proofs.Halves.{tried_refused, tried_accepted}
use Rattle.plotkin.proofs.Plotkin.fits_whole.Goals as goal

pub returns-then-is_err : goal.returns-then-is_err
returns-then-is_err g c fit =
    let self = c.args.self.now in
    tried_refused g.U.Symbols.Alphabet.symbols (g.U.Code.meaning self.left.code) (kept self.left.numbers self.right.numbers) _ c.args.from _ _ (c.mend.ensures fit) (err_refuses _ (sym c.if-is_err.ensures.value))

pub returns : goal.returns
returns g c fit =
    let self = c.args.self.now in
    let n = self.left.numbers.length in
    let near = near_by_toll g.U.Symbols.Alphabet.symbols.q c.combine.new.memory (3 * n) 0 n (2 * n) n n c.min-distance.result (omega arith) (omega arith) (omega arith) (omega arith) c.are_near.result c.are_near.ensures in
    tried_accepted g.U.Symbols.Alphabet.symbols (g.U.Code.meaning self.left.code) (kept self.left.numbers self.right.numbers) _ c.args.from _ _ (c.mend.ensures fit) (ok_accepts _ (sym c.if-is_err.ensures.value)) _ c.combine.ensures _ (near ∙ ap (ltb _) c.min-distance.ensures)

use Rattle.std.proofs.Common.{◌+◌, ltb, ap, ◌∙◌, arith}
use Rattle.parts.proofs.Tolls.{near_by_toll}
use Rattle.direct_sum.proofs.DirectSum.is_near.Goals as goal

pub returns : goal.returns
returns g c =
    let u = c.args.self.now.left.numbers in
    let v = c.args.self.now.right.numbers in
    near_by_toll g.U.Symbols.Alphabet.symbols.q c.args.memory.now (u.length + v.length) 0 u.length (u.length + v.length + u.working) u.length v.length _ (omega arith) (omega arith) (omega arith) (omega arith) c.are_near.result c.are_near.ensures
    ∙ ap (ltb _) c.min.ensures

use Rattle.std.proofs.Common.{get_or, take, refl, ap, ◌∙◌, arith, length-take}
use Rattle.std.proofs.lemmas.List.{take_all}
use Rattle.std.proofs.lemmas.Bool.Decides.{nat_tests}
use Rattle.theory.specs.Words.{marked}
use Rattle.codes.proofs.Counts.{marked_more, marked_le}
use Rattle.codes.proofs.tolls.count_marks.Goals as goal
use Rattle.codes.proofs.tolls.count_marks.Goals.{then-x-order, else-x-order}

pub overflow_add-marks : goal.overflow_add-marks
overflow_add-marks g c =
    let q = g.S.Alphabet.symbols.q in
    omega (arith, marked_le q (take c.loop-x.x-index c.args.bytes.now), length-take c.loop-x.x-index c.args.bytes.now, c.loop-x-test.true)

pub loop-x-preserved : goal.loop-x-preserved
loop-x-preserved g c =
    let more = marked_more g.S.Alphabet.symbols.q c.args.bytes.now c.loop-x.x-index (get_or c.args.bytes.now c.loop-x.x-index 0) c.loop-x-test.true refl in
    elim c.if-x-order.branch [
      | then-x-order w ↦ grind (arith, nat_tests)
      | else-x-order w ↦ grind (arith, nat_tests)
    ]

pub returns : goal.returns
returns g c =
    c.loop-x.invariant ∙ ap (marked g.S.Alphabet.symbols.q) (take_all c.loop-x.x-index c.args.bytes.now c.loop-x-test.false)

use Rattle.std.proofs.Common.{get_or, take, refl, ap, ◌∙◌, arith, length-take}
use Rattle.std.proofs.lemmas.Bool.Decides.{nat_tests}
use Rattle.theory.specs.Words.{marked}
use Rattle.codes.proofs.Counts.{marked_more, marked_le, wrong_more, wrong_le, wrong_common, take_common}
use Rattle.codes.proofs.tolls.damage_between.Goals as goal
use Rattle.codes.proofs.tolls.damage_between.Goals.{then-received-i, else-received-i+then-received-i-2, else-received-i+else-received-i-2}

pub overflow_add-marked : goal.overflow_add-marked
overflow_add-marked g c =
    let i = c.loop-i.i in
    omega (arith, c.loop-i.invariant.1, marked_le g.S.Alphabet.symbols.q (take i c.args.received.now), length-take i c.args.received.now, c.loop-i-test.true)

pub overflow_add-wrong : goal.overflow_add-wrong
overflow_add-wrong g c =
    let i = c.loop-i.i in
    omega (arith, c.loop-i.invariant.0, wrong_le g.S.Alphabet.symbols.q (take i c.args.word.now) (take i c.args.received.now), length-take i c.args.received.now, c.loop-i-test.true)

pub loop-i-preserved : goal.loop-i-preserved
loop-i-preserved g c =
    let q = g.S.Alphabet.symbols.q in
    let xs = c.args.word.now in
    let rs = c.args.received.now in
    let i = c.loop-i.i in
    let marks = marked_more q rs i (get_or rs i 0) (omega (arith, c.min-i-end.ensures)) refl in
    let errors = wrong_more q xs rs i (get_or xs i 0) (get_or rs i 0) (omega (arith, c.min-i-end.ensures)) (omega (arith, c.min-i-end.ensures)) refl refl in
    elim c.if-received-i.branch [
      | then-received-i w ↦ (grind (arith, nat_tests), grind (arith, nat_tests))
      | else-received-i+then-received-i-2 w ↦ (grind (arith, nat_tests), grind (arith, nat_tests))
      | else-received-i+else-received-i-2 w ↦ (grind (arith, nat_tests), grind (arith, nat_tests))
    ]

pub returns : goal.returns
returns g c =
    let q = g.S.Alphabet.symbols.q in
    let xs = c.args.word.now in
    let rs = c.args.received.now in
    let i = c.loop-i.i in
    record {
      errors = c.loop-i.invariant.0 ∙ wrong_common q xs rs i (omega (arith, c.min-i-end.ensures));
      erasures = c.loop-i.invariant.1 ∙ ap (marked q) (take_common xs rs i (omega (arith, c.min-i-end.ensures)) (omega (arith, c.min-i-end.ensures)));
    }

use Rattle.std.proofs.Common.{◌≡◌, ℕ, length, get_or, take, replicate, refl, ap, ◌∙◌, arith, length-take}
use Rattle.std.proofs.lemmas.List.{take_all}
use Rattle.std.proofs.lemmas.Bool.Decides.{nat_tests}
use Rattle.theory.specs.Words.{wrong, marked}
use Rattle.codes.proofs.Counts.{marked_more, marked_le, wrong_copies_more, wrong_le}
use Rattle.repetition.proofs.copies_damage.Goals as goal
use Rattle.repetition.proofs.copies_damage.Goals.{then-x-order, else-x-order+then-x-symbol, else-x-order+else-x-symbol}

pub overflow_add-marked : goal.overflow_add-marked
overflow_add-marked g c =
    let i = c.loop-x.x-index in
    omega (arith, c.loop-x.invariant.1, marked_le g.S.Alphabet.symbols.q (take i c.args.received.now), length-take i c.args.received.now, c.loop-x-test.true)

pub overflow_add-wrong : goal.overflow_add-wrong
overflow_add-wrong g c =
    let i = c.loop-x.x-index in
    omega (arith, c.loop-x.invariant.0, wrong_le g.S.Alphabet.symbols.q (replicate i c.args.symbol) (take i c.args.received.now), length-take i c.args.received.now, c.loop-x-test.true)

pub loop-x-preserved : goal.loop-x-preserved
loop-x-preserved g c =
    let q = g.S.Alphabet.symbols.q in
    let rs = c.args.received.now in
    let i = c.loop-x.x-index in
    let marks = marked_more q rs i (get_or rs i 0) c.loop-x-test.true refl in
    let errors = wrong_copies_more q c.args.symbol rs i (get_or rs i 0) c.loop-x-test.true refl in
    elim c.if-x-order.branch [
      | then-x-order w ↦ (grind (arith, nat_tests), grind (arith, nat_tests))
      | else-x-order+then-x-symbol w ↦ (grind (arith, nat_tests), grind (arith, nat_tests))
      | else-x-order+else-x-symbol w ↦ (grind (arith, nat_tests), grind (arith, nat_tests))
    ]

pub returns : goal.returns
returns g c =
    let q = g.S.Alphabet.symbols.q in
    let rs = c.args.received.now in
    let all = take_all c.loop-x.x-index rs c.loop-x-test.false in
    let i : c.loop-x.x-index ≡ length rs = omega arith in
    record {
      errors = c.loop-x.invariant.0 ∙ ap (wrong q (replicate c.loop-x.x-index c.args.symbol)) all ∙ ap (λ (n : ℕ). wrong q (replicate n c.args.symbol) rs) i;
      erasures = c.loop-x.invariant.1 ∙ ap (marked q) all;
    }

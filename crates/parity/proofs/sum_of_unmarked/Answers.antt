use Rattle.std.proofs.Common.{ℕ, ◌<◌, get_or, take, sym, ap, ◌∙◌, arith}
use Rattle.std.proofs.lemmas.List.{take_more}
use Rattle.theory.specs.Alphabets.{plus}
use Rattle.theory.proofs.Groups.{plus_symbols}
use Rattle.parity.specs.Sums.{unmarked_total}
use Rattle.parity.proofs.Sums.{unmarked_closed, unmarked_push_symbol, unmarked_push_mark}
use Rattle.parity.proofs.sum_of_unmarked.Goals as goal
use Rattle.parity.proofs.sum_of_unmarked.Goals.{then-x-order, else-x-order}

pub loop-x-preserved : goal.loop-x-preserved
loop-x-preserved g c =
    let A = g.S.Alphabet.symbols in
    let laws = g.met.S.Alphabet.lawful in
    let seen = take c.loop-x.x-index c.args.bytes.now in
    let x = get_or c.args.bytes.now c.loop-x.x-index 0 in
    let more = ap (unmarked_total A) (sym (take_more c.args.bytes.now c.loop-x.x-index 0 c.loop-x-test.true)) in
    elim c.if-x-order.branch [
      | then-x-order w ↦
          let symbol : x < A.q = omega (arith, c.order.ensures, w.if-x-order.true) in
          w.sum-is ∙ w.add-sum.ensures ∙ ap (λ (t : ℕ). plus A t x) c.loop-x.invariant
          ∙ plus_symbols A laws (unmarked_total A seen) x (unmarked_closed A laws seen) symbol
          ∙ sym (unmarked_push_symbol A laws seen x symbol) ∙ more
      | else-x-order w ↦
          w.sum-is ∙ c.loop-x.invariant ∙ sym (unmarked_push_mark A laws seen x (omega (arith, c.order.ensures, w.if-x-order.false))) ∙ more
    ]

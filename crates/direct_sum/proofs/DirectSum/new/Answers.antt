use Rattle.std.proofs.Common.{sym, ◌∙◌, ap₂, subst, arith}
use Rattle.theory.specs.Joins.{direct_sum_making}
use Rattle.theory.proofs.DirectSum.{sum_made, sum_refused}
use Rattle.theory.proofs.Piles.{every_pile_keeps_its_meaning}
use Rattle.direct_sum.proofs.Makings.{sum_on_pile}
use Rattle.direct_sum.proofs.DirectSum.new.Goals as goal

pub returns-in_err-left-clause-every_pile_keeps_its_meaning :
    goal.returns-in_err-left-clause-every_pile_keeps_its_meaning
returns-in_err-left-clause-every_pile_keeps_its_meaning g c = every_pile_keeps_its_meaning

pub returns-in_err-right-clause-every_pile_keeps_its_meaning :
    goal.returns-in_err-right-clause-every_pile_keeps_its_meaning
returns-in_err-right-clause-every_pile_keeps_its_meaning g c = every_pile_keeps_its_meaning

pub returns-then-u-v-gt-MOST_WORKING : goal.returns-then-u-v-gt-MOST_WORKING
returns-then-u-v-gt-MOST_WORKING g c =
    let left = c.in_ok-left.left in
    let right = c.in_ok-right.right in
    let is_left = c.in_ok-left.ensures.keeps_the_code in
    let is_right = c.in_ok-right.ensures.keeps_the_code in
    let answer = λ (fit-u : g.U.Code.fit c.args.left) (fit-v : g.V.Code.fit c.args.right).
    let of-u = left.asked (subst g.U.Code.fit (sym is_left) fit-u) in
    let of-v = right.asked (subst g.V.Code.fit (sym is_right) fit-v) in
    sum_refused (g.U.Code.meaning left.code) (g.V.Code.meaning right.code) (omega arith)
    ∙ ap₂ (λ l r. direct_sum_making (g.U.Code.meaning l) (g.V.Code.meaning r)) is_left is_right in
    record {
      making = answer;
      fits = λ fit-u fit-v. tt;
      one_step_of_a_pile = λ fit-u fit-v. sum_on_pile g.U.Symbols.Alphabet.symbols (answer fit-u fit-v);
      every_pile_keeps_its_meaning = every_pile_keeps_its_meaning;
    }

pub returns : goal.returns
returns g c =
    let left = c.in_ok-left.left in
    let right = c.in_ok-right.right in
    let is_left = c.in_ok-left.ensures.keeps_the_code in
    let is_right = c.in_ok-right.ensures.keeps_the_code in
    let answer = λ (fit-u : g.U.Code.fit c.args.left) (fit-v : g.V.Code.fit c.args.right).
    let of-u = left.asked (subst g.U.Code.fit (sym is_left) fit-u) in
    let of-v = right.asked (subst g.V.Code.fit (sym is_right) fit-v) in
    sum_made (g.U.Code.meaning left.code) (g.V.Code.meaning right.code) (omega arith)
    ∙ ap₂ (λ l r. direct_sum_making (g.U.Code.meaning l) (g.V.Code.meaning r)) is_left is_right in
    record {
      making = answer;
      fits = λ fit-u fit-v. (subst g.U.Code.fit (sym is_left) fit-u, subst g.V.Code.fit (sym is_right) fit-v);
      one_step_of_a_pile = λ fit-u fit-v. sum_on_pile g.U.Symbols.Alphabet.symbols (answer fit-u fit-v);
      every_pile_keeps_its_meaning = every_pile_keeps_its_meaning;
    }

use Rattle.std.proofs.Common.{sym, ap, ◌∙◌, subst, arith}
use Rattle.theory.specs.Joins.{puncture_making}
use Rattle.theory.proofs.GapMakings.{puncture_no_place, puncture_too_near, puncture_too_long, puncture_made, puncture_on_pile}
use Rattle.theory.proofs.Piles.{every_pile_keeps_its_meaning}
use Rattle.puncture.proofs.Puncture.new.Goals as goal

pub returns-in_err-whole-clause-every_pile_keeps_its_meaning :
    goal.returns-in_err-whole-clause-every_pile_keeps_its_meaning
returns-in_err-whole-clause-every_pile_keeps_its_meaning g c = every_pile_keeps_its_meaning

pub returns-then-place-whole : goal.returns-then-place-whole
returns-then-place-whole g c =
    let whole = c.in_ok-whole.whole in
    let code_is = c.in_ok-whole.ensures.keeps_the_code in
    let answer = λ (fit : g.C.Code.fit c.args.code).
    let numbers = whole.asked (subst g.C.Code.fit (sym code_is) fit) in
    puncture_no_place c.args.place (g.C.Code.meaning whole.code) (omega arith) ∙ ap (λ below. puncture_making c.args.place (g.C.Code.meaning below)) code_is in
    record {
      making = answer;
      fits = λ fit. tt;
      one_step_of_a_pile = λ fit p below. puncture_on_pile g.C.Symbols.Alphabet.symbols _ p below c.args.place _ (answer fit);
      every_pile_keeps_its_meaning = every_pile_keeps_its_meaning;
    }

pub returns-then-whole-lt2 : goal.returns-then-whole-lt2
returns-then-whole-lt2 g c =
    let whole = c.in_ok-whole.whole in
    let code_is = c.in_ok-whole.ensures.keeps_the_code in
    let answer = λ (fit : g.C.Code.fit c.args.code).
    let numbers = whole.asked (subst g.C.Code.fit (sym code_is) fit) in
    puncture_too_near c.args.place (g.C.Code.meaning whole.code) (omega arith) (omega arith) ∙ ap (λ below. puncture_making c.args.place (g.C.Code.meaning below)) code_is in
    record {
      making = answer;
      fits = λ fit. tt;
      one_step_of_a_pile = λ fit p below. puncture_on_pile g.C.Symbols.Alphabet.symbols _ p below c.args.place _ (answer fit);
      every_pile_keeps_its_meaning = every_pile_keeps_its_meaning;
    }

pub returns-then-whole-gt-MOST_WORKING : goal.returns-then-whole-gt-MOST_WORKING
returns-then-whole-gt-MOST_WORKING g c =
    let whole = c.in_ok-whole.whole in
    let code_is = c.in_ok-whole.ensures.keeps_the_code in
    let answer = λ (fit : g.C.Code.fit c.args.code).
    let numbers = whole.asked (subst g.C.Code.fit (sym code_is) fit) in
    puncture_too_long c.args.place (g.C.Code.meaning whole.code) (omega arith) (omega arith) (omega arith) ∙ ap (λ below. puncture_making c.args.place (g.C.Code.meaning below)) code_is in
    record {
      making = answer;
      fits = λ fit. tt;
      one_step_of_a_pile = λ fit p below. puncture_on_pile g.C.Symbols.Alphabet.symbols _ p below c.args.place _ (answer fit);
      every_pile_keeps_its_meaning = every_pile_keeps_its_meaning;
    }

pub returns : goal.returns
returns g c =
    let whole = c.in_ok-whole.whole in
    let code_is = c.in_ok-whole.ensures.keeps_the_code in
    let answer = λ (fit : g.C.Code.fit c.args.code).
    let numbers = whole.asked (subst g.C.Code.fit (sym code_is) fit) in
    puncture_made c.args.place (g.C.Code.meaning whole.code) (omega arith) (omega arith) (omega arith) ∙ ap (λ below. puncture_making c.args.place (g.C.Code.meaning below)) code_is in
    record {
      making = answer;
      fits = λ fit. subst g.C.Code.fit (sym code_is) fit;
      one_step_of_a_pile = λ fit p below. puncture_on_pile g.C.Symbols.Alphabet.symbols _ p below c.args.place _ (answer fit);
      every_pile_keeps_its_meaning = every_pile_keeps_its_meaning;
    }

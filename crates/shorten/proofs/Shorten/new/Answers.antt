use Rattle.std.proofs.Common.{sym, ap, ◌∙◌, subst, arith}
use Rattle.theory.specs.Joins.{shorten_making}
use Rattle.theory.proofs.GapMakings.{shorten_no_place, shorten_too_small, shorten_no_carrier, shorten_too_long, shorten_made, shorten_on_pile}
use Rattle.theory.proofs.Piles.{every_pile_keeps_its_meaning}
use Rattle.shorten.proofs.Shorten.new.Goals as goal

pub returns-in_err-whole-clause-every_pile_keeps_its_meaning :
    goal.returns-in_err-whole-clause-every_pile_keeps_its_meaning
returns-in_err-whole-clause-every_pile_keeps_its_meaning g c = every_pile_keeps_its_meaning

pub returns-then-place-whole : goal.returns-then-place-whole
returns-then-place-whole g c =
    let whole = c.in_ok-whole.whole in
    let code_is = c.in_ok-whole.ensures.keeps_the_code in
    let answer = λ (fit : g.C.Code.fit c.args.code).
    let below = subst g.C.Code.fit (sym code_is) fit in
    let numbers = whole.asked below in
    shorten_no_place c.args.place (g.C.Code.meaning whole.code) (omega arith) ∙ ap (λ code. shorten_making c.args.place (g.C.Code.meaning code)) code_is in
    record {
      making = answer;
      fits = λ fit. tt;
      one_step_of_a_pile = λ fit p below. shorten_on_pile g.C.Symbols.Alphabet.symbols _ p below c.args.place _ (answer fit);
      every_pile_keeps_its_meaning = every_pile_keeps_its_meaning;
    }

pub returns-then-whole-lt2 : goal.returns-then-whole-lt2
returns-then-whole-lt2 g c =
    let whole = c.in_ok-whole.whole in
    let code_is = c.in_ok-whole.ensures.keeps_the_code in
    let answer = λ (fit : g.C.Code.fit c.args.code).
    let below = subst g.C.Code.fit (sym code_is) fit in
    let numbers = whole.asked below in
    shorten_too_small c.args.place (g.C.Code.meaning whole.code) (omega arith) (omega arith) ∙ ap (λ code. shorten_making c.args.place (g.C.Code.meaning code)) code_is in
    record {
      making = answer;
      fits = λ fit. tt;
      one_step_of_a_pile = λ fit p below. shorten_on_pile g.C.Symbols.Alphabet.symbols _ p below c.args.place _ (answer fit);
      every_pile_keeps_its_meaning = every_pile_keeps_its_meaning;
    }

pub returns-in_default : goal.returns-in_default
returns-in_default g c =
    let whole = c.in_ok-whole.whole in
    let code_is = c.in_ok-whole.ensures.keeps_the_code in
    let answer = λ (fit : g.C.Code.fit c.args.code).
    let below = subst g.C.Code.fit (sym code_is) fit in
    let numbers = whole.asked below in
    shorten_no_carrier c.args.place (g.C.Code.meaning whole.code) (omega arith) (omega arith) (sym (c.in_default.ensures below)) ∙ ap (λ code. shorten_making c.args.place (g.C.Code.meaning code)) code_is in
    record {
      making = answer;
      fits = λ fit. tt;
      one_step_of_a_pile = λ fit p below. shorten_on_pile g.C.Symbols.Alphabet.symbols _ p below c.args.place _ (answer fit);
      every_pile_keeps_its_meaning = every_pile_keeps_its_meaning;
    }

-- no fit code answers a carrier beyond its word
pub returns-then-lost-whole : goal.returns-then-lost-whole
returns-then-lost-whole g c =
    let whole = c.in_ok-whole.whole in
    let unfit : (fit : g.C.Code.fit c.args.code) → ⊥ = λ fit.
    let below = subst g.C.Code.fit (sym c.in_ok-whole.ensures.keeps_the_code) fit in
    let numbers = whole.asked below in
    omega (arith, (g.met.C.Code.keeps whole.code below).carrier_within c.args.place c.in-Some.lost (sym (c.in-Some.ensures below))) in
    record {
      making = λ fit. absurd (unfit fit);
      fits = λ fit. tt;
      one_step_of_a_pile = λ fit p e. absurd (unfit fit);
      every_pile_keeps_its_meaning = every_pile_keeps_its_meaning;
    }

pub returns-then-whole-gt-MOST_WORKING : goal.returns-then-whole-gt-MOST_WORKING
returns-then-whole-gt-MOST_WORKING g c =
    let whole = c.in_ok-whole.whole in
    let code_is = c.in_ok-whole.ensures.keeps_the_code in
    let answer = λ (fit : g.C.Code.fit c.args.code).
    let below = subst g.C.Code.fit (sym code_is) fit in
    let numbers = whole.asked below in
    shorten_too_long c.args.place (g.C.Code.meaning whole.code) (omega arith) (omega arith) c.in-Some.lost (sym (c.in-Some.ensures below)) (omega arith) ∙ ap (λ code. shorten_making c.args.place (g.C.Code.meaning code)) code_is in
    record {
      making = answer;
      fits = λ fit. tt;
      one_step_of_a_pile = λ fit p below. shorten_on_pile g.C.Symbols.Alphabet.symbols _ p below c.args.place _ (answer fit);
      every_pile_keeps_its_meaning = every_pile_keeps_its_meaning;
    }

pub returns : goal.returns
returns g c =
    let whole = c.in_ok-whole.whole in
    let code_is = c.in_ok-whole.ensures.keeps_the_code in
    let answer = λ (fit : g.C.Code.fit c.args.code).
    let below = subst g.C.Code.fit (sym code_is) fit in
    let numbers = whole.asked below in
    shorten_made c.args.place (g.C.Code.meaning whole.code) (omega arith) (omega arith) c.in-Some.lost (sym (c.in-Some.ensures below)) (omega arith) ∙ ap (λ code. shorten_making c.args.place (g.C.Code.meaning code)) code_is in
    record {
      making = answer;
      fits = λ fit. subst g.C.Code.fit (sym code_is) fit;
      one_step_of_a_pile = λ fit p below. shorten_on_pile g.C.Symbols.Alphabet.symbols _ p below c.args.place _ (answer fit);
      every_pile_keeps_its_meaning = every_pile_keeps_its_meaning;
    }

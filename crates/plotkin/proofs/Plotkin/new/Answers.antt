use Rattle.std.proofs.Common.{sym, ◌∙◌, ap₂, subst, arith}
use Rattle.theory.specs.Joins.{plotkin_making}
use Rattle.theory.proofs.Distance.{distance_within}
use Rattle.theory.proofs.Makings.{plotkin_lengths_differ, plotkin_too_long, plotkin_made}
use Rattle.theory.proofs.Piles.{every_pile_keeps_its_meaning}
use Rattle.plotkin.proofs.Makings.{plotkin_on_pile}
use Rattle.plotkin.proofs.Plotkin.new.Goals as goal

pub returns-in_err-left-clause-every_pile_keeps_its_meaning :
    goal.returns-in_err-left-clause-every_pile_keeps_its_meaning
returns-in_err-left-clause-every_pile_keeps_its_meaning g c = every_pile_keeps_its_meaning

pub returns-in_err-right-clause-every_pile_keeps_its_meaning :
    goal.returns-in_err-right-clause-every_pile_keeps_its_meaning
returns-in_err-right-clause-every_pile_keeps_its_meaning g c = every_pile_keeps_its_meaning

-- no fit code has a distance above its length
pub returns-then-u : goal.returns-then-u
returns-then-u g c =
    let left = c.in_ok-left.left in
    let unfit : (fit : g.U.Code.fit c.args.left) → ⊥ = λ fit-u.
    let fit = subst g.U.Code.fit (sym c.in_ok-left.ensures.keeps_the_code) fit-u in
    let of-u = left.asked fit in
    omega (arith, distance_within g.U.Symbols.Alphabet.symbols g.met.U.Symbols.Alphabet.lawful (g.U.Code.meaning left.code) (g.met.U.Code.keeps left.code fit)) in
    record {
      making = λ fit-u fit-v. absurd (unfit fit-u);
      fits = λ fit-u fit-v. tt;
      one_step_of_a_pile = λ fit-u fit-v p r e f. absurd (unfit fit-u);
      every_pile_keeps_its_meaning = every_pile_keeps_its_meaning;
    }

pub returns-then-u-v : goal.returns-then-u-v
returns-then-u-v g c =
    let left = c.in_ok-left.left in
    let right = c.in_ok-right.right in
    let is_left = c.in_ok-left.ensures.keeps_the_code in
    let is_right = c.in_ok-right.ensures.keeps_the_code in
    let answer = λ (fit-u : g.U.Code.fit c.args.left) (fit-v : g.V.Code.fit c.args.right).
    let of-u = left.asked (subst g.U.Code.fit (sym is_left) fit-u) in
    let of-v = right.asked (subst g.V.Code.fit (sym is_right) fit-v) in
    plotkin_lengths_differ g.U.Symbols.Alphabet.symbols (g.U.Code.meaning left.code) (g.V.Code.meaning right.code) (λ same. c.if-u-v.true (of-u.length ∙ same ∙ sym of-v.length))
    ∙ ap₂ (λ l r. plotkin_making g.U.Symbols.Alphabet.symbols (g.U.Code.meaning l) (g.V.Code.meaning r)) is_left is_right in
    record {
      making = answer;
      fits = λ fit-u fit-v. tt;
      one_step_of_a_pile = λ fit-u fit-v. plotkin_on_pile g.U.Symbols.Alphabet.symbols (answer fit-u fit-v);
      every_pile_keeps_its_meaning = every_pile_keeps_its_meaning;
    }

pub returns-then-u-v-gt-MOST_WORKING : goal.returns-then-u-v-gt-MOST_WORKING
returns-then-u-v-gt-MOST_WORKING g c =
    let left = c.in_ok-left.left in
    let right = c.in_ok-right.right in
    let is_left = c.in_ok-left.ensures.keeps_the_code in
    let is_right = c.in_ok-right.ensures.keeps_the_code in
    let answer = λ (fit-u : g.U.Code.fit c.args.left) (fit-v : g.V.Code.fit c.args.right).
    let of-u = left.asked (subst g.U.Code.fit (sym is_left) fit-u) in
    let of-v = right.asked (subst g.V.Code.fit (sym is_right) fit-v) in
    plotkin_too_long g.U.Symbols.Alphabet.symbols (g.U.Code.meaning left.code) (g.V.Code.meaning right.code) (sym of-u.length ∙ c.if-u-v.false ∙ of-v.length) (omega arith)
    ∙ ap₂ (λ l r. plotkin_making g.U.Symbols.Alphabet.symbols (g.U.Code.meaning l) (g.V.Code.meaning r)) is_left is_right in
    record {
      making = answer;
      fits = λ fit-u fit-v. tt;
      one_step_of_a_pile = λ fit-u fit-v. plotkin_on_pile g.U.Symbols.Alphabet.symbols (answer fit-u fit-v);
      every_pile_keeps_its_meaning = every_pile_keeps_its_meaning;
    }

pub returns : goal.returns
returns g c =
    let left = c.in_ok-left.left in
    let right = c.in_ok-right.right in
    let is_left = c.in_ok-left.ensures.keeps_the_code in
    let is_right = c.in_ok-right.ensures.keeps_the_code in
    let answer = λ (fit-u : g.U.Code.fit c.args.left) (fit-v : g.V.Code.fit c.args.right).
    let of-u = left.asked (subst g.U.Code.fit (sym is_left) fit-u) in
    let of-v = right.asked (subst g.V.Code.fit (sym is_right) fit-v) in
    plotkin_made g.U.Symbols.Alphabet.symbols (g.U.Code.meaning left.code) (g.V.Code.meaning right.code) (sym of-u.length ∙ c.if-u-v.false ∙ of-v.length) (omega arith)
    ∙ ap₂ (λ l r. plotkin_making g.U.Symbols.Alphabet.symbols (g.U.Code.meaning l) (g.V.Code.meaning r)) is_left is_right in
    record {
      making = answer;
      fits = λ fit-u fit-v. (subst g.U.Code.fit (sym is_left) fit-u, subst g.V.Code.fit (sym is_right) fit-v);
      one_step_of_a_pile = λ fit-u fit-v. plotkin_on_pile g.U.Symbols.Alphabet.symbols (answer fit-u fit-v);
      every_pile_keeps_its_meaning = every_pile_keeps_its_meaning;
    }

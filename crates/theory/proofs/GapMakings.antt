-- The makings of a punctured and of a shortened code, case by case, and as one step of a pile. Assumes nothing.
use Rattle.std.proofs.Common.{◌≡◌, ℕ, ◌+◌, ◌<◌, ◌≤◌, Bool, true, false, ltb, leb, Some, None, Option, sym, ap, ◌∙◌}
use Rattle.std.proofs.lemmas.Bool.{cond-true, cond-false, le-ltb, lt-ltb, le-leb, lt-leb}
use Rattle.theory.specs.Alphabets.{Arithmetic}
use Rattle.theory.specs.Joins.{unless, short, puncture, puncture_making, shorten, shorten_making_by, shorten_making}
use Rattle.theory.specs.Meanings.{Meaning, Making, made, refused_making}
use Rattle.theory.specs.Piles.{Pile, puncture_at, shorten_at, made_of, making_of}

passes : (test : Bool) (number : ℕ) (rest : Making) → test ≡ true → unless test number rest ≡ rest
passes test number rest e = cond-true test rest (refused_making number) e

fails : (test : Bool) (number : ℕ) (rest : Making) → test ≡ false → unless test number rest ≡ refused_making number
fails test number rest e = cond-false test rest (refused_making number) e

module _ (p : ℕ) (m : Meaning) where
  pub puncture_no_place : m.n ≤ p → refused_making 7 ≡ puncture_making p m
  unfolding puncture_making
  puncture_no_place h = sym (fails (ltb p m.n) 7 _ (le-ltb p m.n h))

  module _ (place : p < m.n) where
    pub puncture_too_near : m.d < 2 → refused_making 8 ≡ puncture_making p m
    unfolding puncture_making
    puncture_too_near h = sym (passes (ltb p m.n) 7 _ (lt-ltb p m.n place) ∙ fails (leb 2 m.d) 8 _ (lt-leb 2 m.d h))

    checked : 2 ≤ m.d → puncture_making p m ≡ unless (short (m.w + m.n)) 6 (made (puncture p m))
    unfolding puncture_making
    checked h = passes (ltb p m.n) 7 _ (lt-ltb p m.n place) ∙ passes (leb 2 m.d) 8 _ (le-leb 2 m.d h)

    pub puncture_too_long : 2 ≤ m.d → 4096 < m.w + m.n → refused_making 6 ≡ puncture_making p m
    puncture_too_long h l = sym (checked h ∙ fails (short (m.w + m.n)) 6 _ (lt-leb (m.w + m.n) 4096 l))

    pub puncture_made : 2 ≤ m.d → m.w + m.n ≤ 4096 → made (puncture p m) ≡ puncture_making p m
    puncture_made h l = sym (checked h ∙ passes (short (m.w + m.n)) 6 _ (le-leb (m.w + m.n) 4096 l))

module _ (j : ℕ) (m : Meaning) where
  pub shorten_no_place : m.k ≤ j → refused_making 7 ≡ shorten_making j m
  unfolding shorten_making
  shorten_no_place h = sym (fails (ltb j m.k) 7 _ (le-ltb j m.k h))

  module _ (place : j < m.k) where
    pub shorten_too_small : m.k < 2 → refused_making 9 ≡ shorten_making j m
    unfolding shorten_making
    shorten_too_small h = sym (passes (ltb j m.k) 7 _ (lt-ltb j m.k place) ∙ fails (leb 2 m.k) 9 _ (lt-leb 2 m.k h))

    by_carrier : 2 ≤ m.k → (o : Option ℕ) → m.carrier j ≡ o → shorten_making j m ≡ shorten_making_by j m o
    unfolding shorten_making
    by_carrier h o e =
        passes (ltb j m.k) 7 _ (lt-ltb j m.k place) ∙ passes (leb 2 m.k) 9 _ (le-leb 2 m.k h) ∙ ap (shorten_making_by j m) e

    pub shorten_no_carrier : 2 ≤ m.k → m.carrier j ≡ None → refused_making 10 ≡ shorten_making j m
    shorten_no_carrier h e = sym (by_carrier h None e)

    pub shorten_too_long : 2 ≤ m.k → (t : ℕ) → m.carrier j ≡ Some t → 4096 < m.w + m.n → refused_making 6 ≡ shorten_making j m
    shorten_too_long h t e l = sym (by_carrier h (Some t) e ∙ fails (short (m.w + m.n)) 6 _ (lt-leb (m.w + m.n) 4096 l))

    pub shorten_made : 2 ≤ m.k → (t : ℕ) → m.carrier j ≡ Some t → m.w + m.n ≤ 4096 → made (shorten j t m) ≡ shorten_making j m
    shorten_made h t e l = sym (by_carrier h (Some t) e ∙ passes (short (m.w + m.n)) 6 _ (le-leb (m.w + m.n) 4096 l))

-- what a making of a part of a pile answers is what the pile with that join on top works out
module _ (A : Arithmetic) (m : Meaning) (p : Pile) (below : making_of A p ≡ made m) where
  pub puncture_on_pile : (place : ℕ) (answer : Making) → answer ≡ puncture_making place m → answer ≡ making_of A (puncture_at place p)
  puncture_on_pile place answer e = e ∙ sym (ap (made_of (puncture_making place)) below)

  pub shorten_on_pile : (place : ℕ) (answer : Making) → answer ≡ shorten_making place m → answer ≡ making_of A (shorten_at place p)
  shorten_on_pile place answer e = e ∙ sym (ap (made_of (shorten_making place)) below)

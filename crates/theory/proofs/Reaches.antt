-- What a join's reach says of its parts' reaches: the facts about tolls that the joins' mends rest on. Assumes nothing.
use Rattle.std.proofs.Common.{◌≡◌, ℕ, ◌+◌, ◌<◌, ◌≤◌, ◌⊎◌, List, [], ◌∷◌, ◌++◌, length, take, drop, sym, refl, ap, ◌∙◌, inl, inr, ⊎_elim, arith}
use Rattle.std.specs.List.{AllByRecursion as All}
use Rattle.std.proofs.lemmas.Bool.{cases_lt}
use Rattle.std.proofs.lemmas.Bool.Decides.{nat_tests}
use Rattle.theory.specs.Alphabets.{Arithmetic, Lawful, plus, minus}
use Rattle.theory.specs.Joins.{sums, less, plotkin, direct_sum}
use Rattle.theory.specs.Meanings.{Meaning, Keeps}
use Rattle.theory.specs.Reach.{InReach}
use Rattle.theory.specs.Words.{Symbols, toll}
use Rattle.theory.proofs.Counts.{marked_append, wrong_append}
use Rattle.theory.proofs.Differences.{less_symbols, less_mark, add_less, less_add}
use Rattle.theory.proofs.Symbols.{symbols_take, symbols_drop}
use Rattle.theory.proofs.Words.{cost, toll_cons}
pub use Rattle.theory.proofs.Puncture.{toll_with_mark, puncture_reaches_below, below_reaches_puncture}
pub use Rattle.theory.proofs.Shorten.{toll_with_zero, shorten_reaches_below, below_reaches_shorten}

-- the toll of two words in a row
pub toll_append : (q : ℕ) (xs ys rs ss : List ℕ) → length xs ≡ length rs → toll q (xs ++ ys) (rs ++ ss) ≡ toll q xs rs + toll q ys ss
toll_append q xs ys rs ss e = omega (arith, wrong_append q xs ys rs ss e, marked_append q rs ss)

module _ (A : Arithmetic) (laws : Lawful A) where
  place_difference : (u v a b : ℕ) → u < A.q → v < A.q → cost A.q v (plus A b (minus A a)) ≤ cost A.q u a + cost A.q (A.add u v) b
  place_difference u v a b hu hv = ⊎_elim a_symbol a_mark (cases_lt a A.q)
    where
      few : A.q ≤ 16
      few = laws.few_symbols

      a_mark : A.q ≤ a → cost A.q v (plus A b (minus A a)) ≤ cost A.q u a + cost A.q (A.add u v) b
      a_mark h = let is = less_mark A laws b a (inr h) in grind (arith, nat_tests)

      b_mark : a < A.q → A.q ≤ b → cost A.q v (plus A b (minus A a)) ≤ cost A.q u a + cost A.q (A.add u v) b
      b_mark l h = let is = less_mark A laws b a (inl h) in grind (arith, nat_tests)

      both : a < A.q → b < A.q → cost A.q v (plus A b (minus A a)) ≤ cost A.q u a + cost A.q (A.add u v) b
      both l h =
          let is = less_symbols A laws b a h l in
          let closed = laws.closed b (A.neg a) h (laws.neg_closed a l) in
          let back : u ≡ a → A.add u v ≡ b → v ≡ A.add b (A.neg a) = λ p s.
          sym (add_less A laws a v l hv) ∙ ap (λ (z : ℕ). A.add z (A.neg a)) (ap (λ (z : ℕ). A.add z v) (sym p) ∙ s) in
          grind (arith, nat_tests)

      a_symbol : a < A.q → cost A.q v (plus A b (minus A a)) ≤ cost A.q u a + cost A.q (A.add u v) b
      a_symbol l = ⊎_elim (both l) (b_mark l) (cases_lt b A.q)

  place_less : (u v b : ℕ) → u < A.q → v < A.q → cost A.q u (plus A b (minus A v)) ≡ cost A.q (A.add u v) b
  place_less u v b hu hv = ⊎_elim symbol lost (cases_lt b A.q)
    where
      few : A.q ≤ 16
      few = laws.few_symbols

      lost : A.q ≤ b → cost A.q u (plus A b (minus A v)) ≡ cost A.q (A.add u v) b
      lost h = let is = less_mark A laws b v (inl h) in grind (arith, nat_tests)

      symbol : b < A.q → cost A.q u (plus A b (minus A v)) ≡ cost A.q (A.add u v) b
      symbol h =
          let is = less_symbols A laws b v h hv in
          let closed = laws.closed b (A.neg v) h (laws.neg_closed v hv) in
          let out : u ≡ A.add b (A.neg v) → A.add u v ≡ b = λ p. ap (λ (z : ℕ). A.add z v) p ∙ less_add A laws b v h hv in
          let back : A.add u v ≡ b → u ≡ A.add b (A.neg v) = λ s.
          sym (add_less A laws v u hv hu) ∙ ap (λ (z : ℕ). A.add z (A.neg v)) (laws.comm v u hv hu ∙ s) in
          grind (arith, nat_tests)

  -- v costs no more against the difference of the halves than the whole word costs against both
  pub toll_difference : (us vs ls rs : List ℕ) → length us ≡ length vs → length ls ≡ length us → length rs ≡ length us → All (λ x. x < A.q) us → All (λ x. x < A.q) vs → toll A.q vs (less A rs ls) ≤ toll A.q us ls + toll A.q (sums A us vs) rs
  toll_difference [] [] [] [] e f g h k = omega arith
  toll_difference [] [] [] (r ∷ rs) e f g h k = absurd (omega arith)
  toll_difference [] [] (l ∷ ls) rs e f g h k = absurd (omega arith)
  toll_difference [] (v ∷ vs) ls rs e f g h k = absurd (omega arith)
  toll_difference (u ∷ us) [] ls rs e f g h k = absurd (omega arith)
  toll_difference (u ∷ us) (v ∷ vs) [] rs e f g h k = absurd (omega arith)
  toll_difference (u ∷ us) (v ∷ vs) (l ∷ ls) [] e f g h k = absurd (omega arith)
  toll_difference (u ∷ us) (v ∷ vs) (l ∷ ls) (r ∷ rs) e f g h k =
      omega (arith, place_difference u v l r h.0 k.0, toll_difference us vs ls rs (omega arith) (omega arith) (omega arith) h.1 k.1, toll_cons A.q v (plus A r (minus A l)) vs (less A rs ls), toll_cons A.q u l us ls, toll_cons A.q (A.add u v) r (sums A us vs) rs)

  -- u costs against the right half less v what u + v costs against the right half
  pub toll_less : (us vs rs : List ℕ) → length us ≡ length vs → length rs ≡ length us → All (λ x. x < A.q) us → All (λ x. x < A.q) vs → toll A.q us (less A rs vs) ≡ toll A.q (sums A us vs) rs
  toll_less [] [] [] e f h k = refl
  toll_less [] [] (r ∷ rs) e f h k = absurd (omega arith)
  toll_less [] (v ∷ vs) rs e f h k = absurd (omega arith)
  toll_less (u ∷ us) [] rs e f h k = absurd (omega arith)
  toll_less (u ∷ us) (v ∷ vs) [] e f h k = absurd (omega arith)
  toll_less (u ∷ us) (v ∷ vs) (r ∷ rs) e f h k =
      omega (arith, place_less u v r h.0 k.0, toll_less us vs rs (omega arith) (omega arith) h.1 k.1, toll_cons A.q u (plus A r (minus A v)) us (less A rs vs), toll_cons A.q (A.add u v) r (sums A us vs) rs)

  module _ (u v : Meaning) (keeps-u : Keeps A u) (keeps-v : Keeps A v) where
    -- of a sum in reach, each part is in its part's reach
    pub sum_reaches_parts : (ls rs s : List ℕ) → length ls ≡ u.n → InReach A (direct_sum u v) (ls ++ rs) s → InReach A u ls (take u.k s) × InReach A v rs (drop u.k s)
    sum_reaches_parts ls rs s e h =
        let hu = symbols_take A.q u.k v.k s h.message in
        let both = toll_append A.q (u.word (take u.k s)) (v.word (drop u.k s)) ls rs ((keeps-u.words (take u.k s) hu).long ∙ sym e) in
        (record { message = hu; near = omega (arith, both, h.near) }, record { message = symbols_drop A.q u.k v.k s h.message; near = omega (arith, both, h.near) })

    module _ (same : u.n ≡ v.n) (ls rs s : List ℕ) (long_l : length ls ≡ u.n) (long-r : length rs ≡ u.n) (reached : InReach A (plotkin A u v) (ls ++ rs) s) where
      hu : Symbols A.q u.k (take u.k s)
      hu = symbols_take A.q u.k v.k s reached.message

      hv : Symbols A.q v.k (drop u.k s)
      hv = symbols_drop A.q u.k v.k s reached.message

      wu : Symbols A.q u.n (u.word (take u.k s))
      wu = keeps-u.words (take u.k s) hu

      wv : Symbols A.q v.n (v.word (drop u.k s))
      wv = keeps-v.words (drop u.k s) hv

      level : length (u.word (take u.k s)) ≡ length (v.word (drop u.k s))
      level = wu.long ∙ same ∙ sym wv.long

      halves : toll A.q (u.word (take u.k s) ++ sums A (u.word (take u.k s)) (v.word (drop u.k s))) (ls ++ rs) ≡ toll A.q (u.word (take u.k s)) ls + toll A.q (sums A (u.word (take u.k s)) (v.word (drop u.k s))) rs
      halves = toll_append A.q (u.word (take u.k s)) (sums A (u.word (take u.k s)) (v.word (drop u.k s))) ls rs (wu.long ∙ sym long_l)

      -- of a Plotkin join in reach, v is in reach of the difference of the halves
      pub plotkin_reaches_right : InReach A v (less A rs ls) (drop u.k s)
      plotkin_reaches_right =
          record {
            message = hv;
            near = omega (arith, halves, reached.near, toll_difference (u.word (take u.k s)) (v.word (drop u.k s)) ls rs level (long_l ∙ sym wu.long) (long-r ∙ sym wu.long) wu.each wv.each);
          }

      -- and u is in reach of the left half, or of the right half less v
      pub plotkin_reaches_left : InReach A u ls (take u.k s) ⊎ InReach A u (less A rs (v.word (drop u.k s))) (take u.k s)
      plotkin_reaches_left =
          let right = toll_less (u.word (take u.k s)) (v.word (drop u.k s)) rs level (long-r ∙ sym wu.long) wu.each wv.each in
          ⊎_elim (λ (h : toll A.q (u.word (take u.k s)) ls < u.d). inl (record { message = hu; near = h }))
          (λ (h : u.d ≤ toll A.q (u.word (take u.k s)) ls). inr (record { message = hu; near = omega (arith, h, halves, reached.near, right) }))
          (cases_lt (toll A.q (u.word (take u.k s)) ls) u.d)

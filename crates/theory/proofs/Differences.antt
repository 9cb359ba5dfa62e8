-- A word less another: what was added can be taken away, and what was taken away can be added. Assumes nothing.
use Rattle.std.proofs.Common.{◌≡◌, ℕ, ◌<◌, ◌≤◌, ltb, ◌⊎◌, List, [], ◌∷◌, length, sym, refl, ap, ◌∙◌, ap₂, inl, ⊎_elim, arith}
use Rattle.std.specs.List.{AllByRecursion as All}
use Rattle.std.proofs.lemmas.Bool.{le-ltb, cond-false, and_left, and_right, cases_lt}
use Rattle.theory.specs.Alphabets.{Arithmetic, Lawful, plus, minus}
use Rattle.theory.specs.Joins.{sums, less}
use Rattle.theory.proofs.Groups.{plus_symbols, minus_symbol, neg_add, add_zero_right}

module _ (A : Arithmetic) (laws : Lawful A) where
  -- a byte less another, both symbols, or one a mark
  pub less_symbols : (b a : ℕ) → b < A.q → a < A.q → plus A b (minus A a) ≡ A.add b (A.neg a)
  less_symbols b a h l =
      ap (plus A b) (minus_symbol A laws a l) ∙ plus_symbols A laws b (A.neg a) h (laws.neg_closed a l)

  pub less_mark : (b a : ℕ) → (A.q ≤ b) ⊎ (A.q ≤ a) → plus A b (minus A a) ≡ 255
  less_mark b a marks =
      ⊎_elim (λ (h : A.q ≤ b). cond-false _ (A.add b (minus A a)) 255 (and_left (ltb b A.q) (ltb (minus A a) A.q) (le-ltb b A.q h)))
      (λ (h : A.q ≤ a).
      let lost : minus A a ≡ 255 = cond-false (ltb a A.q) (A.neg a) 255 (le-ltb a A.q h) in
      cond-false _ (A.add b (minus A a)) 255 (and_right (ltb b A.q) (ltb (minus A a) A.q) (le-ltb (minus A a) A.q (omega (arith, lost, laws.few_symbols)))))
      marks

  -- taking away what was added, and adding what was taken away
  pub add_less : (a v : ℕ) → a < A.q → v < A.q → A.add (A.add a v) (A.neg a) ≡ v
  add_less a v h l =
      laws.comm (A.add a v) (A.neg a) (laws.closed a v h l) (laws.neg_closed a h)
      ∙ sym (laws.assoc (A.neg a) a v (laws.neg_closed a h) h l) ∙ ap (λ (z : ℕ). A.add z v) (neg_add A laws a h) ∙ laws.neutral v l

  pub less_add : (b v : ℕ) → b < A.q → v < A.q → A.add (A.add b (A.neg v)) v ≡ b
  less_add b v h l =
      laws.assoc b (A.neg v) v h (laws.neg_closed v l) l ∙ ap (A.add b) (neg_add A laws v l) ∙ add_zero_right A laws b h

  -- words: what was added is taken away
  pub less_sums : (us vs : List ℕ) → length us ≡ length vs → All (λ x. x < A.q) us → All (λ x. x < A.q) vs → less A (sums A us vs) us ≡ vs
  less_sums [] [] e h k = refl
  less_sums [] (v ∷ vs) e h k = absurd (omega arith)
  less_sums (u ∷ us) [] e h k = absurd (omega arith)
  less_sums (u ∷ us) (v ∷ vs) e h k =
      ap₂ (λ (z : ℕ) (zs : List ℕ). z ∷ zs) (less_symbols (A.add u v) u (laws.closed u v h.0 k.0) h.0 ∙ add_less u v h.0 k.0) (less_sums us vs (omega arith) h.1 k.1)

  -- and what was taken away is added again, where no place is a mark
  pub sums_less : (ls rs : List ℕ) → length rs ≡ length ls → All (λ x. x < A.q) ls → All (λ x. x < A.q) (less A rs ls) → sums A ls (less A rs ls) ≡ rs
  sums_less [] [] e h k = refl
  sums_less [] (r ∷ rs) e h k = absurd (omega arith)
  sums_less (l ∷ ls) [] e h k = absurd (omega arith)
  sums_less (l ∷ ls) (r ∷ rs) e h k =
      ap₂ (λ (z : ℕ) (zs : List ℕ). z ∷ zs) (⊎_elim symbol lost (cases_lt r A.q)) (sums_less ls rs (omega arith) h.1 k.1)
    where
      symbol : r < A.q → A.add l (plus A r (minus A l)) ≡ r
      symbol s =
          ap (A.add l) (less_symbols r l s h.0)
          ∙ laws.comm l (A.add r (A.neg l)) h.0 (laws.closed r (A.neg l) s (laws.neg_closed l h.0)) ∙ less_add r l s h.0

      lost : A.q ≤ r → A.add l (plus A r (minus A l)) ≡ r
      lost m = absurd (omega (arith, k.0, less_mark r l (inl m), laws.few_symbols))

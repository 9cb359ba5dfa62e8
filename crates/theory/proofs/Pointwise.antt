-- Sums and differences of words, place by place. All rests on cancellation. Assumes nothing.
use Rattle.std.proofs.Common.{◌≡◌, ℕ, suc, ◌+◌, ◌<◌, ◌≤◌, List, [], ◌∷◌, length, sym, refl, ap, ◌∙◌, arith}
use Rattle.std.specs.List.{AllByRecursion as All}
use Rattle.std.proofs.lemmas.Bool.Decides.{nat_tests}
use Rattle.theory.specs.Alphabets.{Arithmetic, Lawful}
use Rattle.theory.specs.Joins.{zipped, sums}
use Rattle.theory.specs.Words.{differ}
use Rattle.theory.proofs.Groups.{cancel_left, cancel_right}

pub length_zipped : (f : ℕ → ℕ → ℕ) (xs ys : List ℕ) → length xs ≡ length ys → length (zipped f xs ys) ≡ length xs
length_zipped f [] ys e = refl
length_zipped f (x ∷ xs) [] e = absurd (omega arith)
length_zipped f (x ∷ xs) (y ∷ ys) e = ap suc (length_zipped f xs ys (omega arith))

module _ (A : Arithmetic) (laws : Lawful A) where
  abbrev Sym : List ℕ → Type 0
  Sym xs = All (λ x. x < A.q) xs

  pub all_sums : (xs ys : List ℕ) → All (λ x. x < A.q) xs → All (λ x. x < A.q) ys → All (λ x. x < A.q) (sums A xs ys)
  all_sums [] ys h k = tt
  all_sums (x ∷ xs) [] h k = tt
  all_sums (x ∷ xs) (y ∷ ys) h k = (laws.closed x y h.0 k.0, all_sums xs ys h.1 k.1)

  -- the same addend changes no difference
  pub differ_same_right : (xs ys zs : List ℕ) → length xs ≡ length zs → length ys ≡ length zs → All (λ x. x < A.q) xs → All (λ x. x < A.q) ys → All (λ x. x < A.q) zs → differ (sums A xs zs) (sums A ys zs) ≡ differ xs ys
  differ_same_right [] [] zs e f h k l = refl
  differ_same_right [] (y ∷ ys) zs e f h k l = refl
  differ_same_right (x ∷ xs) ys [] e f h k l = absurd (omega arith)
  differ_same_right (x ∷ xs) [] (z ∷ zs) e f h k l = absurd (omega arith)
  differ_same_right (x ∷ xs) (y ∷ ys) (z ∷ zs) e f h k l =
      let rest = differ_same_right xs ys zs (omega arith) (omega arith) h.1 k.1 l.1 in
      let out : A.add x z ≡ A.add y z → x ≡ y = cancel_right A laws z x y l.0 h.0 k.0 in
      let back : x ≡ y → A.add x z ≡ A.add y z = λ p. ap (λ (a : ℕ). A.add a z) p in
      grind (arith, nat_tests)

  pub differ_same_left : (xs ys zs : List ℕ) → length xs ≡ length zs → length ys ≡ length zs → All (λ x. x < A.q) xs → All (λ x. x < A.q) ys → All (λ x. x < A.q) zs → differ (sums A zs xs) (sums A zs ys) ≡ differ xs ys
  differ_same_left [] [] [] e f h k l = refl
  differ_same_left [] [] (z ∷ zs) e f h k l = absurd (omega arith)
  differ_same_left [] (y ∷ ys) zs e f h k l = absurd (omega arith)
  differ_same_left (x ∷ xs) ys [] e f h k l = absurd (omega arith)
  differ_same_left (x ∷ xs) [] (z ∷ zs) e f h k l = absurd (omega arith)
  differ_same_left (x ∷ xs) (y ∷ ys) (z ∷ zs) e f h k l =
      let rest = differ_same_left xs ys zs (omega arith) (omega arith) h.1 k.1 l.1 in
      let out : A.add z x ≡ A.add z y → x ≡ y = cancel_left A laws z x y l.0 h.0 k.0 in
      let back : x ≡ y → A.add z x ≡ A.add z y = λ p. ap (A.add z) p in
      grind (arith, nat_tests)

  -- where v and v' differ, u and u' do, or the sums do
  pub differ_through : (us us' vs vs' : List ℕ) → length us ≡ length vs → length us' ≡ length vs' → All (λ x. x < A.q) us → All (λ x. x < A.q) us' → All (λ x. x < A.q) vs → All (λ x. x < A.q) vs' → differ vs vs' ≤ differ us us' + differ (sums A us vs) (sums A us' vs')
  differ_through us us' [] vs' e f h h' k k' = omega arith
  differ_through us us' (v ∷ vs) [] e f h h' k k' = omega arith
  differ_through [] us' (v ∷ vs) (v' ∷ vs') e f h h' k k' = absurd (omega arith)
  differ_through (u ∷ us) [] (v ∷ vs) (v' ∷ vs') e f h h' k k' = absurd (omega arith)
  differ_through (u ∷ us) (u' ∷ us') (v ∷ vs) (v' ∷ vs') e f h h' k k' =
      let rest = differ_through us us' vs vs' (omega arith) (omega arith) h.1 h'.1 k.1 k'.1 in
      let out : u ≡ u' → A.add u v ≡ A.add u' v' → v ≡ v' = λ p s. cancel_left A laws u v v' h.0 k.0 k'.0 (s ∙ ap (λ (a : ℕ). A.add a v') (sym p)) in
      grind (arith, nat_tests)

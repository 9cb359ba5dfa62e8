-- Laws of the distance between words and of tolls. Assumes nothing.
use Rattle.std.proofs.Common.{◌≡◌, ℕ, ◌+◌, ◌*◌, ◌<◌, ◌≤◌, true, false, cond, eqb, ltb, ◌⊎◌, List, [], ◌∷◌, ◌++◌, length, sym, refl, ap, ◌∙◌, ap₂, inl, inr, ⊎_elim, arith}
use Rattle.std.specs.List.{AllByRecursion as All}
use Rattle.std.proofs.lemmas.Bool.Decides.{nat_tests}
use Rattle.std.proofs.lemmas.Bool.{eqb-true, eq-eqb, and_parts, and_from, cases_Bool, both_ways}
use Rattle.theory.specs.Words.{differ, toll}
use Rattle.theory.specs.Reach.{same}

-- what one place adds to a toll
abbrev pub cost : ℕ → ℕ → ℕ → ℕ
cost q x r = cond (ltb r q) (cond (eqb x r) 0 2) 1

pub toll_cons : (q x r : ℕ) (xs rs : List ℕ) → toll q (x ∷ xs) (r ∷ rs) ≡ cost q x r + toll q xs rs
toll_cons q x r xs rs = grind (arith, nat_tests)

-- a place where two words differ costs one of them at least two
place_triangle : (q x y r : ℕ) → 2 * cond (eqb x y) 0 1 ≤ cost q x r + cost q y r
place_triangle q x y r = grind (arith, nat_tests)

-- two words that differ in many places cannot both be near to what was received
pub differ_le_tolls : (q : ℕ) (xs ys rs : List ℕ) → length xs ≡ length rs → length ys ≡ length rs → 2 * differ xs ys ≤ toll q xs rs + toll q ys rs
differ_le_tolls q [] ys rs e f = omega arith
differ_le_tolls q (x ∷ xs) [] rs e f = omega arith
differ_le_tolls q (x ∷ xs) (y ∷ ys) [] e f = omega arith
differ_le_tolls q (x ∷ xs) (y ∷ ys) (r ∷ rs) e f =
    omega (arith, place_triangle q x y r, toll_cons q x r xs rs, toll_cons q y r ys rs, differ_le_tolls q xs ys rs (omega arith) (omega arith))

pub differ_self : (xs : List ℕ) → differ xs xs ≡ 0
differ_self [] = refl
differ_self (x ∷ xs) = let h = differ_self xs in grind (arith, nat_tests)

pub same_from_no_difference : (xs ys : List ℕ) → length xs ≡ length ys → differ xs ys ≡ 0 → xs ≡ ys
same_from_no_difference [] [] e z = refl
same_from_no_difference [] (y ∷ ys) e z = absurd (omega arith)
same_from_no_difference (x ∷ xs) [] e z = absurd (omega arith)
same_from_no_difference (x ∷ xs) (y ∷ ys) e z =
    let head : x ≡ y = grind (arith, nat_tests) in
    ap₂ (λ (a : ℕ) (rest : List ℕ). a ∷ rest) head (same_from_no_difference xs ys (omega arith) (omega arith))

pub differ_append : (xs ys us vs : List ℕ) → length xs ≡ length ys → differ (xs ++ us) (ys ++ vs) ≡ differ xs ys + differ us vs
differ_append [] [] us vs e = omega arith
differ_append [] (y ∷ ys) us vs e = absurd (omega arith)
differ_append (x ∷ xs) [] us vs e = absurd (omega arith)
differ_append (x ∷ xs) (y ∷ ys) us vs e = omega (arith, differ_append xs ys us vs (omega arith))

-- a received word that is the word itself costs nothing
pub toll_self : (q : ℕ) (xs : List ℕ) → All (λ x. x < q) xs → toll q xs xs ≡ 0
toll_self q [] h = refl
toll_self q (x ∷ xs) h =
    let place : cost q x x ≡ 0 = let l : x < q = h.0 in grind (arith, nat_tests) in
    omega (arith, place, toll_cons q x x xs xs, toll_self q xs h.1)

pub same_true : (xs ys : List ℕ) → same xs ys ≡ true → xs ≡ ys
same_true [] [] e = refl
same_true [] (y ∷ ys) e = absurd (both_ways false refl e)
same_true (x ∷ xs) [] e = absurd (both_ways false refl e)
same_true (x ∷ xs) (y ∷ ys) e =
    let p = and_parts (eqb x y) (same xs ys) e in
    ap₂ (λ (a : ℕ) (rest : List ℕ). a ∷ rest) (eqb-true x y p.0) (same_true xs ys p.1)

pub same_self : (xs : List ℕ) → same xs xs ≡ true
same_self [] = refl
same_self (x ∷ xs) = and_from (eqb x x) (same xs xs) (eq-eqb x x refl) (same_self xs)

-- two lists are equal or they are not
pub cases_same : (xs ys : List ℕ) → (xs ≡ ys) ⊎ (xs ≡ ys → ⊥)
cases_same xs ys =
    ⊎_elim (λ (e : same xs ys ≡ true). inl (same_true xs ys e)) (λ (e : same xs ys ≡ false). inr (λ p. both_ways (same xs ys) e (ap (λ (zs : List ℕ). same xs zs) (sym p) ∙ same_self xs))) (cases_Bool (same xs ys))

-- a word that costs nothing is what was received
pub same_from_no_toll : (q : ℕ) (xs rs : List ℕ) → length xs ≡ length rs → toll q xs rs ≡ 0 → xs ≡ rs
same_from_no_toll q [] [] e z = refl
same_from_no_toll q [] (r ∷ rs) e z = absurd (omega arith)
same_from_no_toll q (x ∷ xs) [] e z = absurd (omega arith)
same_from_no_toll q (x ∷ xs) (r ∷ rs) e z =
    let step = toll_cons q x r xs rs in
    let head : x ≡ r = grind (arith, nat_tests) in
    let tail : toll q xs rs ≡ 0 = omega arith in
    ap₂ (λ (a : ℕ) (rest : List ℕ). a ∷ rest) head (same_from_no_toll q xs rs (omega arith) tail)

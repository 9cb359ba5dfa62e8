-- How the counts of marks and of wrong places grow by one place. Assumes nothing.
use Rattle.std.proofs.Common.{◌≡◌, ℕ, zero, suc, ◌+◌, ◌<◌, ◌≤◌, min, cond, eqb, ltb, List, [], ◌∷◌, length, get_or, take, replicate, sym, refl, ap, ◌∙◌, ⊎_elim, arith, length-take}
use lib.ListN.{length-replicate}
use Rattle.std.proofs.lemmas.List.{take_more, take_all, replicate_more}
use Rattle.std.proofs.lemmas.Bool.{cases_lt}
use Rattle.std.proofs.lemmas.Bool.Decides.{nat_tests}
use Rattle.theory.specs.Words.{marked, wrong}
use Rattle.theory.proofs.Counts.{marked_append, wrong_append}

-- the first i + 1 places count as the first i and one more
pub marked_more : (q : ℕ) (rs : List ℕ) (i r : ℕ) → i < length rs → r ≡ get_or rs i 0 → marked q (take (i + 1) rs) ≡ marked q (take i rs) + cond (ltb r q) 0 1
marked_more q rs i r h e =
    rw (take_more rs i 0 h, ← e) (marked_append q (take i rs) (r ∷ []) ∙ omega arith)

pub wrong_more : (q : ℕ) (xs rs : List ℕ) (i x r : ℕ) → i < length xs → i < length rs → x ≡ get_or xs i 0 → r ≡ get_or rs i 0 → wrong q (take (i + 1) xs) (take (i + 1) rs) ≡ wrong q (take i xs) (take i rs) + cond (ltb r q) (cond (eqb x r) 0 1) 0
wrong_more q xs rs i x r h l d e =
    rw (take_more xs i 0 h, take_more rs i 0 l, ← d, ← e) (wrong_append q (take i xs) (x ∷ []) (take i rs) (r ∷ []) (simp length-take (omega arith)) ∙ omega arith)

pub marked_le : (q : ℕ) (rs : List ℕ) → marked q rs ≤ length rs
marked_le q [] = omega arith
marked_le q (r ∷ rs) = let h = marked_le q rs in grind (arith, nat_tests)

pub wrong_le : (q : ℕ) (xs rs : List ℕ) → wrong q xs rs ≤ length rs
wrong_le q [] rs = omega arith
wrong_le q (x ∷ xs) [] = omega arith
wrong_le q (x ∷ xs) (r ∷ rs) = let h = wrong_le q xs rs in grind (arith, nat_tests)

-- only the places that both have count
pub wrong_common : (q : ℕ) (xs rs : List ℕ) (i : ℕ) → min (length xs) (length rs) ≤ i → wrong q (take i xs) (take i rs) ≡ wrong q xs rs
wrong_common q [] rs zero h = refl
wrong_common q [] rs (suc i) h = refl
wrong_common q (x ∷ xs) [] zero h = refl
wrong_common q (x ∷ xs) [] (suc i) h = refl
wrong_common q (x ∷ xs) (r ∷ rs) zero h = absurd (omega arith)
wrong_common q (x ∷ xs) (r ∷ rs) (suc i) h =
    ap (λ (n : ℕ). cond (ltb r q) (cond (eqb x r) 0 1) 0 + n) (wrong_common q xs rs i (omega arith))

pub take_common : (xs rs : List ℕ) (i : ℕ) → i ≤ min (length xs) (length rs) → min (length xs) (length rs) ≤ i → take i rs ≡ take (length xs) rs
take_common xs rs i l h =
    ⊎_elim (λ (s : length rs < length xs). take_all i rs (omega arith) ∙ sym (take_all (length xs) rs (omega arith)))
    (λ (s : length xs ≤ length rs). ap (λ (n : ℕ). take n rs) (omega arith)) (cases_lt (length rs) (length xs))

pub wrong_copies_more : (q x : ℕ) (rs : List ℕ) (i r : ℕ) → i < length rs → r ≡ get_or rs i 0 → wrong q (replicate (i + 1) x) (take (i + 1) rs) ≡ wrong q (replicate i x) (take i rs) + cond (ltb r q) (cond (eqb x r) 0 1) 0
wrong_copies_more q x rs i r h e =
    rw (← replicate_more i x, take_more rs i 0 h, ← e) (wrong_append q (replicate i x) (x ∷ []) (take i rs) (r ∷ []) (simp (length-take, length-replicate) (omega arith)) ∙ omega arith)

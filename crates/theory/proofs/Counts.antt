-- The counts of marks and of wrong places. Assumes nothing.
use Rattle.std.proofs.Common.{◌≡◌, ℕ, ◌+◌, ◌<◌, ◌≤◌, List, [], ◌∷◌, ◌++◌, length, arith}
use Rattle.std.specs.List.{AllByRecursion as All}
use Rattle.std.proofs.lemmas.Bool.Decides.{nat_tests}
use Rattle.theory.specs.Words.{marked, wrong}

pub marked_append : (q : ℕ) (rs ss : List ℕ) → marked q (rs ++ ss) ≡ marked q rs + marked q ss
marked_append q [] ss = omega arith
marked_append q (r ∷ rs) ss = omega (arith, marked_append q rs ss)

pub wrong_append : (q : ℕ) (xs ys rs ss : List ℕ) → length xs ≡ length rs → wrong q (xs ++ ys) (rs ++ ss) ≡ wrong q xs rs + wrong q ys ss
wrong_append q [] ys [] ss e = omega arith
wrong_append q [] ys (r ∷ rs) ss e = absurd (omega arith)
wrong_append q (x ∷ xs) ys [] ss e = absurd (omega arith)
wrong_append q (x ∷ xs) ys (r ∷ rs) ss e = omega (arith, wrong_append q xs ys rs ss (omega arith))

-- no marks: all symbols
pub symbols_from_unmarked : (q : ℕ) (rs : List ℕ) → marked q rs ≡ 0 → All (λ x. x < q) rs
symbols_from_unmarked q [] e = tt
symbols_from_unmarked q (r ∷ rs) e = (grind (arith, nat_tests), symbols_from_unmarked q rs (grind (arith, nat_tests)))

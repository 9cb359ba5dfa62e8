-- The counts of words in the words of lists. Assumes nothing.
use Rattle.std.proofs.Common.{◌≡◌, ℕ, suc, Bool, cond, nat_le, List, [], ◌∷◌, refl, ap, Some, arith}
use Rattle.std.specs.List.{position}
use Rattle.std.specs.Option.{option_map}
use Rattle.std.proofs.lemmas.Bool.Decides.{nat_tests}
use Rattle.theory.specs.Calls.{first_mark}

-- the first place that passes, one element on
position_more : (p : ℕ → Bool) (x : ℕ) (xs : List ℕ) → position p (x ∷ xs) ≡ cond (p x) (Some 0) (option_map suc (position p xs))
position_more p x xs = grind (arith, nat_tests)

pub first_mark_is : (q : ℕ) (xs : List ℕ) → first_mark q xs ≡ position (λ x. nat_le q x) xs
first_mark_is q [] = refl
first_mark_is q (x ∷ xs) =
    let here = position_more (λ x. nat_le q x) x xs in
    let there = ap (option_map suc) (first_mark_is q xs) in
    grind (arith, nat_tests)

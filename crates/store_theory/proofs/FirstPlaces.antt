-- The place of the first element that passes a test. Assumes nothing.
use Rattle.std.proofs.Common.{◌≡◌, ℕ, zero, suc, ◌<◌, Bool, true, false, List, [], ◌∷◌, length, get_or, take, Some, None, refl, ap, ◌∙◌, arith}
use Rattle.std.specs.Option.{option_map}
use Rattle.std.specs.List.{AllByRecursion as All}
use Rattle.std.proofs.lemmas.Bool.{cond-true, cond-false}
use Rattle.store_theory.specs.Calls.{first_place}

-- there is none if every element fails
pub none_passes : {X : Type 0} (test : X → Bool) (xs : List X) → All (λ x. test x ≡ false) xs → first_place test xs ≡ None
none_passes test [] h = refl
none_passes test (x ∷ xs) h =
    cond-false (test x) (Some 0) (option_map suc (first_place test xs)) h.0 ∙ ap (option_map suc) (none_passes test xs h.1)

-- it is this one if all before it fail
pub first_place_at : {X : Type 0} (test : X → Bool) (xs : List X) (i : ℕ) (d : X) → i < length xs → All (λ x. test x ≡ false) (take i xs) → test (get_or xs i d) ≡ true → first_place test xs ≡ Some i
first_place_at test [] i d l h t = absurd (omega arith)
first_place_at test (x ∷ xs) zero d l h t = cond-true (test x) (Some 0) (option_map suc (first_place test xs)) t
first_place_at test (x ∷ xs) (suc i) d l h t =
    cond-false (test x) (Some 0) (option_map suc (first_place test xs)) h.0 ∙ ap (option_map suc) (first_place_at test xs i d (omega arith) h.1 t)

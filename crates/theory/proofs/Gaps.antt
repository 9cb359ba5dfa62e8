-- Lists with a place put in or taken out: their symbols, differences, tolls and carriers. Assumes nothing.
use Rattle.std.proofs.Common.{◌≡◌, ℕ, zero, suc, ◌+◌, ◌-◌, ◌<◌, ◌≤◌, Bool, true, false, cond, eqb, ltb, List, [], ◌∷◌, length, get_or, take, drop, Some, None, Option, refl, ap, ◌∙◌, ⊎_elim, arith}
use Rattle.std.specs.List.{insert, remove}
use Rattle.std.proofs.lemmas.List.Edits.{length-insert, length-remove, get_or-insert_below, get_or-insert_above, get_or-remove_below, get_or-remove_above}
use Rattle.std.proofs.ByRecursion.{All-append, All-take, All-drop}
use Rattle.std.proofs.lemmas.Bool.{ltb-true, ltb-false, eqb-false, lt-ltb, le-ltb, cond-true, cond-false, cases_lt}
use Rattle.std.proofs.lemmas.Bool.Decides.{nat_tests}
use Rattle.theory.specs.Joins.{carrier_without}
use Rattle.theory.specs.Words.{Symbols, differ, toll}
use Rattle.theory.proofs.Words.{cost, toll_cons}

-- a received place more costs what that place costs
pub toll_inserted : (q p y : ℕ) (xs rs : List ℕ) → p < length xs → length xs ≡ suc (length rs) → toll q xs (insert rs p y) ≡ toll q (remove xs p) rs + cost q (get_or xs p 0) y
toll_inserted q p y [] rs h e = absurd (omega arith)
toll_inserted q zero y (x ∷ xs) rs h e = omega (arith, toll_cons q x y xs rs)
toll_inserted q (suc p) y (x ∷ xs) [] h e = absurd (omega arith)
toll_inserted q (suc p) y (x ∷ xs) (r ∷ rs) h e =
    omega (arith, toll_cons q x r xs (insert rs p y), toll_cons q x r (remove xs p) rs, toll_inserted q p y xs rs (omega arith) (omega arith))

-- a place less loses the difference at that place
pub differ_removed : (p : ℕ) (xs ys : List ℕ) → p < length xs → length xs ≡ length ys → differ xs ys ≡ differ (remove xs p) (remove ys p) + cond (eqb (get_or xs p 0) (get_or ys p 0)) 0 1
differ_removed p [] ys h e = absurd (omega arith)
differ_removed p (x ∷ xs) [] h e = absurd (omega arith)
differ_removed zero (x ∷ xs) (y ∷ ys) h e = omega arith
differ_removed (suc p) (x ∷ xs) (y ∷ ys) h e = omega (arith, differ_removed p xs ys (omega arith) (omega arith))

-- so at most one, and none where the two agree
pub differ_removed_most : (p : ℕ) (xs ys : List ℕ) → p < length xs → length xs ≡ length ys → differ xs ys ≤ differ (remove xs p) (remove ys p) + 1
differ_removed_most p xs ys h e = let one = differ_removed p xs ys h e in grind (arith, nat_tests)

pub differ_removed_same : (p : ℕ) (xs ys : List ℕ) → p < length xs → length xs ≡ length ys → get_or xs p 0 ≡ get_or ys p 0 → differ xs ys ≡ differ (remove xs p) (remove ys p)
differ_removed_same p xs ys h e same = let one = differ_removed p xs ys h e in grind (arith, nat_tests)

-- with a place less, or with a symbol more, a list of symbols is one still
pub removed_symbols : (q n p : ℕ) (xs : List ℕ) → p < n → Symbols q n xs → Symbols q (n - 1) (remove xs p)
removed_symbols q n p xs l h =
    record {
      long = omega (arith, h.long, length-remove xs p (omega (arith, h.long)));
      each = All-append (λ x. x < q) (take p xs) (drop (suc p) xs) (All-take (λ x. x < q) p xs h.each) (All-drop (λ x. x < q) (suc p) xs h.each);
    }

pub inserted_symbols : (q n p y : ℕ) (xs : List ℕ) → p < n → y < q → Symbols q (n - 1) xs → Symbols q n (insert xs p y)
inserted_symbols q n p y xs l s h =
    record {
      long = omega (arith, h.long, length-insert xs p y (omega (arith, h.long)));
      each = All-append (λ x. x < q) (take p xs) (y ∷ drop p xs) (All-take (λ x. x < q) p xs h.each) (s, All-drop (λ x. x < q) p xs h.each);
    }

-- what is put in can be taken out again, and the other way round
pub removed_inserted : (xs : List ℕ) (p y : ℕ) → p ≤ length xs → remove (insert xs p y) p ≡ xs
removed_inserted xs zero y h = refl
removed_inserted [] (suc p) y h = absurd (omega arith)
removed_inserted (x ∷ xs) (suc p) y h = ap (λ (rest : List ℕ). x ∷ rest) (removed_inserted xs p y (omega arith))

pub inserted_removed : (xs : List ℕ) (p : ℕ) → p < length xs → insert (remove xs p) p (get_or xs p 0) ≡ xs
inserted_removed [] p h = absurd (omega arith)
inserted_removed (x ∷ xs) zero h = refl
inserted_removed (x ∷ xs) (suc p) h = ap (λ (rest : List ℕ). x ∷ rest) (inserted_removed xs p (omega arith))

-- place i is read where it stands once a place has been put in at p
pub get_or_inserted : (xs : List ℕ) (p y i : ℕ) → p ≤ length xs → get_or (insert xs p y) (cond (ltb i p) i (suc i)) 0 ≡ get_or xs i 0
get_or_inserted xs p y i h =
    ⊎_elim
    (λ (l : i < p). ap (λ (k : ℕ). get_or (insert xs p y) k 0) (cond-true (ltb i p) i (suc i) (lt-ltb i p l)) ∙ get_or-insert_below xs p y 0 i l h)
    (λ (l : p ≤ i). ap (λ (k : ℕ). get_or (insert xs p y) k 0) (cond-false (ltb i p) i (suc i) (le-ltb i p l) ∙ omega arith) ∙ get_or-insert_above xs p y 0 i l h)
    (cases_lt i p)

-- place t of what is left of n places was place u before place p was taken out
pub record Stood (n p t u : ℕ) : Type 0 where
  pub within : u < n → t < n - 1
  pub reads : (xs : List ℕ) → p < length xs → get_or (remove xs p) t 0 ≡ get_or xs u 0

-- a carrier that is left was one before
pub carrier_left : (n p t : ℕ) (before : Option ℕ) → p < n → carrier_without p before ≡ Some t → (u : ℕ) × (before ≡ Some u) × Stood n p t u
carrier_left n p t None l e = absurd (let z : ◌≡◌ {A = ℕ} 0 1 = cc in omega arith)
carrier_left n p t (Some u) l e = (u, refl, go (ltb u p) refl (eqb u p) refl e)
  where
    go : (below : Bool) → ltb u p ≡ below → (at : Bool) → eqb u p ≡ at → cond below (Some u) (cond at None (Some (u - 1))) ≡ Some t → Stood n p t u
    go true b at a f =
        let same : u ≡ t = cc in
        let lt : t < p = omega (arith, ltb-true u p b) in
        record { within = omega arith; reads = λ xs h. get_or-remove_below xs p 0 t lt h ∙ ap (λ (k : ℕ). get_or xs k 0) (omega arith) }
    go false b true a f = absurd (let z : ◌≡◌ {A = ℕ} 0 1 = cc in omega arith)
    go false b false a f =
        let same : u - 1 ≡ t = cc in
        let gt : p < u = omega (arith, ltb-false u p b, eqb-false u p a) in
        record { within = omega arith; reads = λ xs h. get_or-remove_above xs p 0 t (omega arith) h ∙ ap (λ (k : ℕ). get_or xs k 0) (omega arith) }

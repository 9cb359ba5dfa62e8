-- Two words compared piece by piece, without a place of one. Assumes nothing.
use Rattle.std.proofs.Common.{◌≡◌, ℕ, ◌+◌, ◌-◌, ◌<◌, ◌≤◌, Bool, true, false, ◌&&◌, eqb, List, [], ◌∷◌, ◌++◌, length, take, drop, Decides, sym, refl, ap, ◌∙◌, ap₂, arith, length-drop, length-take}
use Rattle.std.specs.List.{remove}
use Rattle.std.proofs.lemmas.List.{take-append-drop}
use Rattle.std.proofs.lemmas.Bool.{and_left, both_ways}
use Rattle.theory.specs.Memory.{part}
use Rattle.theory.specs.Reach.{same}
use Rattle.theory.proofs.GapWrites.{take_part, drop_part, removed_part}
use Rattle.theory.proofs.Memory.{front_is}
use Rattle.theory.proofs.Words.{same_true, same_self}

and_assoc : (a b c : Bool) → ((a && b) && c) ≡ (a && (b && c))
and_assoc true b c = refl
and_assoc false b c = refl

same_append : (xs ys us vs : List ℕ) → length xs ≡ length ys → same (xs ++ us) (ys ++ vs) ≡ (same xs ys && same us vs)
same_append [] [] us vs e = refl
same_append [] (y ∷ ys) us vs e = absurd (omega arith)
same_append (x ∷ xs) [] us vs e = absurd (omega arith)
same_append (x ∷ xs) (y ∷ ys) us vs e =
    ap (λ (b : Bool). eqb x y && b) (same_append xs ys us vs (omega arith)) ∙ sym (and_assoc (eqb x y) (same xs ys) (same us vs))

-- a test that decides whether two lists are equal
decided : (xs ys : List ℕ) (r : Bool) → Decides r (xs ≡ ys) → r ≡ same xs ys
decided xs ys true d = sym (ap (λ (z : List ℕ). same z ys) (d.0 refl) ∙ same_self ys)
decided xs ys false d = go (same xs ys) refl
  where
    go : (b : Bool) → same xs ys ≡ b → false ≡ same xs ys
    go true e = absurd (both_ways false refl (d.1 (same_true xs ys e)))
    go false e = sym e

-- the word of n bytes behind the first n without place p, and the n − 1 bytes in front, in the pieces that are compared
module _ (xs : List ℕ) (n p : ℕ) (place : p < n) (room : n + n ≤ length xs) where
  abbrev lower : List ℕ
  lower = take (n + p - n) (drop n xs)

  abbrev front : List ℕ
  front = take (p - 0) xs

  abbrev upper : List ℕ
  upper = take (n + n - (n + p + 1)) (drop (n + p + 1) xs)

  abbrev rest : List ℕ
  rest = take (n - 1 - p) (drop p xs)

  pieces : same (remove (part xs n n) p) (part xs 0 (n - 1)) ≡ (same lower front && same upper rest)
  pieces =
      let below : p ≡ n + p - n = omega arith in
      let above : n - p - 1 ≡ n + n - (n + p + 1) = omega arith in
      let whole : remove (part xs n n) p ≡ lower ++ upper =
      removed_part xs n n p place ∙ ap₂ (λ (i j : ℕ). take i (drop n xs) ++ take j (drop (n + p + 1) xs)) below above in
      let received : part xs 0 (n - 1) ≡ front ++ rest =
      sym (take-append-drop p (take (n - 1) xs))
      ∙ ap₂ (λ (a b : List ℕ). a ++ b) (take_part xs 0 (n - 1) p (omega arith) ∙ sym (front_is p xs)) (drop_part xs 0 (n - 1) p (omega arith) ∙ ap (λ (i : ℕ). take (n - 1 - p) (drop i xs)) zero) in
      let long : length lower ≡ length front =
      length-take (n + p - n) (drop n xs) ∙ omega (arith, length-drop n xs) ∙ sym (length-take (p - 0) xs) in
      ap₂ same whole received ∙ same_append lower front upper rest long
    where
      zero : 0 + p ≡ p
      zero = omega arith

  pub compared_both : (r r' : Bool) → Decides r (lower ≡ front) → r ≡ true → Decides r' (upper ≡ rest) → r' ≡ same (remove (part xs n n) p) (part xs 0 (n - 1))
  compared_both r r' d t d' =
      decided upper rest r' d' ∙ ap (λ (b : Bool). b && same upper rest) (sym t ∙ decided lower front r d) ∙ sym pieces

  pub compared_first : (r : Bool) → Decides r (lower ≡ front) → r ≡ false → r ≡ same (remove (part xs n n) p) (part xs 0 (n - 1))
  compared_first r d t = t ∙ sym (and_left (same lower front) (same upper rest) (sym (decided lower front r d) ∙ t)) ∙ sym pieces

-- Putting two words in memory together, one place at a time. Assumes nothing.
use Rattle.std.proofs.Common.{◌≡◌, ℕ, zero, suc, ◌+◌, ◌<◌, ◌≤◌, Bool, true, false, ◌&&◌, leb, ◌⊎◌, List, [], ◌∷◌, ◌++◌, length, get_or, take, drop, set, sym, refl, ap, ◌∙◌, ap₂, inl, inr, ⊎_elim, append_assoc, add-zero, arith, length-append, length-take, rules}
use Rattle.std.proofs.lemmas.List.{places, length_push, length-take-le, drop_more, set_at, take_more, take_all, take-append-drop, get_or-take, get_or-drop}
use Rattle.std.proofs.lemmas.Bool.{cond-true, cond-false, leb-true, le-leb, and_parts, and_from, or_cases, or_left, or_right}
use Rattle.theory.specs.Combining.{readable, combinable, combined}
use Rattle.theory.specs.Joins.{zipped}
use Rattle.theory.specs.Memory.{over, part}
use Rattle.theory.proofs.Overs.{length_part}
use Rattle.theory.proofs.Pointwise.{length_zipped}

pub get_or_zipped : (f : ℕ → ℕ → ℕ) (xs ys : List ℕ) (i : ℕ) → i < length xs → length xs ≡ length ys → get_or (zipped f xs ys) i 0 ≡ f (get_or xs i 0) (get_or ys i 0)
get_or_zipped f [] ys i h e = absurd (omega arith)
get_or_zipped f (x ∷ xs) [] i h e = absurd (omega arith)
get_or_zipped f (x ∷ xs) (y ∷ ys) zero h e = refl
get_or_zipped f (x ∷ xs) (y ∷ ys) (suc i) h e = get_or_zipped f xs ys i (omega arith) (omega arith)

module _ (xs : List ℕ) (a : ℕ) (ys : List ℕ) (fits : a + length ys ≤ length xs) where
  -- outside of what was written
  pub get_or_over_outside : (j : ℕ) → (j < a) ⊎ (a + length ys ≤ j) → get_or (over xs a ys) j 0 ≡ get_or xs j 0
  get_or_over_outside j out = ⊎_elim (λ (h : j < a). search (rules, places)) (λ (h : a + length ys ≤ j). search (rules, places)) out

  -- one more written behind it
  pub set_over_next : (v : ℕ) → a + length ys < length xs → set (over xs a ys) (a + length ys) v ≡ over xs a (ys ++ (v ∷ []))
  set_over_next v h =
      let n = a + length ys in
      let front : length (take a xs ++ ys) ≡ n = simp (length-append, length-take) (omega arith) in
      let next : n + 1 ≡ a + length (ys ++ (v ∷ [])) = omega (arith, length_push ys v) in
      ap (λ (z : List ℕ). set z n v) (ap (λ (z : List ℕ). take a xs ++ (ys ++ z)) (drop_more xs n 0 h) ∙ sym (append_assoc (take a xs) ys (get_or xs n 0 ∷ drop (n + 1) xs)))
      ∙ set_at (take a xs ++ ys) (get_or xs n 0) (drop (n + 1) xs) v n front
      ∙ append_assoc (take a xs) ys (v ∷ drop (n + 1) xs)
      ∙ ap (λ (z : List ℕ). take a xs ++ z) (sym (append_assoc ys (v ∷ []) (drop (n + 1) xs)) ∙ ap (λ (j : ℕ). (ys ++ (v ∷ [])) ++ drop j xs) next)

-- nothing written yet
pub over_none : (xs : List ℕ) (a : ℕ) (ys : List ℕ) → xs ≡ over xs a (take 0 ys)
over_none xs a ys = sym (ap (λ (j : ℕ). take a xs ++ drop j xs) (add-zero a) ∙ take-append-drop a xs)

-- five tests that all passed
all_five : (a b c d e : Bool) → (a && (b && (c && (d && e)))) ≡ true → (a ≡ true) × (b ≡ true) × (c ≡ true) × (d ≡ true) × (e ≡ true)
all_five a b c d e h =
    let one = and_parts a (b && (c && (d && e))) h in
    let two = and_parts b (c && (d && e)) one.1 in
    let three = and_parts c (d && e) two.1 in
    let four = and_parts d e three.1 in
    (one.0, two.0, three.0, four.0, four.1)

module _ (f : ℕ → ℕ → ℕ) (xs : List ℕ) (left right count to : ℕ) where
  pub combined_there : combinable (length xs) left right count to ≡ true → combined f xs left right count to ≡ over xs to (zipped f (part xs left count) (part xs right count))
  unfolding combined
  combined_there e = cond-true (combinable (length xs) left right count to) _ xs e

  pub combined_not : combinable (length xs) left right count to ≡ false → combined f xs left right count to ≡ xs
  unfolding combined
  combined_not e = cond-false (combinable (length xs) left right count to) _ xs e

  -- where a range is wholly below the target, or not below it, it can be read
  pub combined_is : left + count ≤ length xs → right + count ≤ length xs → to + count ≤ length xs → (to ≤ left) ⊎ (left + count ≤ to) → (to ≤ right) ⊎ (right + count ≤ to) → combined f xs left right count to ≡ over xs to (zipped f (part xs left count) (part xs right count))
  combined_is l r t reads-l reads-r =
      combined_there (and_from _ _ (le-leb (left + count) (length xs) l) (and_from _ _ (le-leb (right + count) (length xs) r) (and_from _ _ (le-leb (to + count) (length xs) t) (and_from _ _ (can_read left reads-l) (can_read right reads-r)))))
    where
      can_read : (from : ℕ) → (to ≤ from) ⊎ (from + count ≤ to) → readable from count to ≡ true
      can_read from way =
          ⊎_elim (λ (h : to ≤ from). or_left (leb to from) (leb (from + count) to) (le-leb to from h)) (λ (h : from + count ≤ to). or_right (leb to from) (leb (from + count) to) (le-leb (from + count) to h)) way

  -- one place more, read from what stands after the places before it
  module _ (can : combinable (length xs) left right count to ≡ true) where
    passed : (leb (left + count) (length xs) ≡ true) × (leb (right + count) (length xs) ≡ true) × (leb (to + count) (length xs) ≡ true) × (readable left count to ≡ true) × (readable right count to ≡ true)
    passed = all_five (leb (left + count) (length xs)) (leb (right + count) (length xs)) (leb (to + count) (length xs)) (readable left count to) (readable right count to) can

    left_in : left + count ≤ length xs
    left_in = leb-true (left + count) (length xs) passed.0

    right_in : right + count ≤ length xs
    right_in = leb-true (right + count) (length xs) passed.1

    to_in : to + count ≤ length xs
    to_in = leb-true (to + count) (length xs) passed.2

    apart : (from i : ℕ) → i < count → readable from count to ≡ true → (from + i < to) ⊎ (to + i ≤ from + i)
    apart from i h e =
        ⊎_elim (λ (t : leb to from ≡ true). inr (omega (arith, leb-true to from t))) (λ (t : leb (from + count) to ≡ true). inl (omega (arith, leb-true (from + count) to t))) (or_cases (leb to from) (leb (from + count) to) e)

    abbrev together : List ℕ
    together = zipped f (part xs left count) (part xs right count)

    pub combine_step : (ys : List ℕ) (i : ℕ) → i < count → ys ≡ over xs to (take i together) → set ys (to + i) (f (get_or ys (left + i) 0) (get_or ys (right + i) 0)) ≡ over xs to (take (i + 1) together)
    combine_step ys i h e =
        let all : length together ≡ count = length_zipped f (part xs left count) (part xs right count) (length_part xs left count left_in ∙ sym (length_part xs right count right_in)) ∙ length_part xs left count left_in in
        let done : length (take i together) ≡ i = length-take-le i together (omega (arith, all)) in
        let fits : to + length (take i together) ≤ length xs = omega (arith, done, to_in) in
        let of_left : get_or ys (left + i) 0 ≡ get_or (part xs left count) i 0 =
        ap (λ (z : List ℕ). get_or z (left + i) 0) e
        ∙ get_or_over_outside xs to (take i together) fits (left + i) (⊎_elim (λ (l : left + i < to). inl l) (λ (l : to + i ≤ left + i). inr (omega (arith, done))) (apart left i h passed.3))
        ∙ sym (get_or-take count (drop left xs) i 0 h ∙ get_or-drop left xs i 0) in
        let of_right : get_or ys (right + i) 0 ≡ get_or (part xs right count) i 0 =
        ap (λ (z : List ℕ). get_or z (right + i) 0) e
        ∙ get_or_over_outside xs to (take i together) fits (right + i) (⊎_elim (λ (l : right + i < to). inl l) (λ (l : to + i ≤ right + i). inr (omega (arith, done))) (apart right i h passed.4))
        ∙ sym (get_or-take count (drop right xs) i 0 h ∙ get_or-drop right xs i 0) in
        let value : f (get_or ys (left + i) 0) (get_or ys (right + i) 0) ≡ get_or together i 0 =
        ap₂ f of_left of_right
        ∙ sym (get_or_zipped f (part xs left count) (part xs right count) i (omega (arith, length_part xs left count left_in)) (length_part xs left count left_in ∙ sym (length_part xs right count right_in))) in
        ap₂ (λ (z : List ℕ) (j : ℕ). set z j (f (get_or ys (left + i) 0) (get_or ys (right + i) 0))) e (ap (λ (j : ℕ). to + j) (sym done))
        ∙ set_over_next xs to (take i together) fits (f (get_or ys (left + i) 0) (get_or ys (right + i) 0)) (omega (arith, done, to_in))
        ∙ ap (λ (v : ℕ). over xs to (take i together ++ (v ∷ []))) value
        ∙ ap (over xs to) (sym (take_more together i 0 (omega (arith, all))))

    pub combine_all : (ys : List ℕ) (i : ℕ) → count ≤ i → ys ≡ over xs to (take i together) → ys ≡ combined f xs left right count to
    combine_all ys i h e =
        e ∙ ap (over xs to) (take_all i together (omega (arith, length_zipped f (part xs left count) (part xs right count) (length_part xs left count left_in ∙ sym (length_part xs right count right_in)), length_part xs left count left_in))) ∙ sym (combined_there can)

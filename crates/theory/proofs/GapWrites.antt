-- Bytes written elsewhere with a place more or less, piece by piece. Assumes nothing.
use Rattle.std.proofs.Common.{◌≡◌, ℕ, suc, ◌+◌, ◌-◌, ◌<◌, ◌≤◌, true, false, ◌&&◌, ltb, leb, List, [], ◌∷◌, ◌++◌, length, take, drop, set, sym, ap, ◌∙◌, ap₂, append_assoc, arith, length-append, length-take}
use Rattle.std.specs.List.{insert, remove}
use Rattle.std.proofs.lemmas.List.{take_at, take-take, drop-take, drop-drop, set_split}
use Rattle.std.proofs.lemmas.Bool.{cond-true, cond-false, and_from, and_left, and_right, and_parts, le-leb, lt-leb, lt-ltb, le-ltb, leb-true, ltb-true}
use Rattle.theory.specs.Gaps.{widens, widened, narrows, narrowed, narrowed_to_front}
use Rattle.theory.specs.Memory.{over, part, moved, cleared}
use Rattle.theory.proofs.Memory.{moved_there}
use Rattle.theory.proofs.Overs.{length_part, length_over, take_over_below, drop_over, drop_over_above, part_above, part_below}

-- two writes that meet are one, whichever is first
module _ (xs : List ℕ) (a : ℕ) (ys zs : List ℕ) (fits : a + length ys + length zs ≤ length xs) where
  both_long : a + length ys + length zs ≡ a + length (ys ++ zs)
  both_long = omega (arith, length-append ys zs)

  both : take a xs ++ (ys ++ (zs ++ drop (a + length ys + length zs) xs)) ≡ over xs a (ys ++ zs)
  both =
      ap (λ (r : List ℕ). take a xs ++ r) (sym (append_assoc ys zs (drop (a + length ys + length zs) xs)))
      ∙ ap (λ (k : ℕ). take a xs ++ ((ys ++ zs) ++ drop k xs)) both_long

  pub over_before : over (over xs (a + length ys) zs) a ys ≡ over xs a (ys ++ zs)
  over_before =
      ap₂ (λ (f r : List ℕ). f ++ (ys ++ r)) (take_over_below xs (a + length ys) zs fits a (omega arith)) (drop_over xs (a + length ys) zs fits) ∙ both

  front_long : length (take a xs ++ ys) ≡ a + length ys
  front_long = simp (length-append, length-take) (omega arith)

  front : take (a + length ys) (over xs a ys) ≡ take a xs ++ ys
  front =
      ap (take (a + length ys)) (sym (append_assoc (take a xs) ys (drop (a + length ys) xs)))
      ∙ take_at (take a xs ++ ys) (drop (a + length ys) xs) (a + length ys) front_long

  pub over_after : over (over xs a ys) (a + length ys) zs ≡ over xs a (ys ++ zs)
  over_after =
      ap₂ (λ (f r : List ℕ). f ++ (zs ++ r)) front (drop_over_above xs a ys (omega arith) (a + length ys + length zs) (omega arith))
      ∙ append_assoc (take a xs) ys (zs ++ drop (a + length ys + length zs) xs) ∙ both

-- the pieces of a part below and from a place of it on
pub take_part : (xs : List ℕ) (from count i : ℕ) → i ≤ count → take i (part xs from count) ≡ part xs from i
take_part xs from count i h = take-take i count (drop from xs) h

pub drop_part : (xs : List ℕ) (from count i : ℕ) → i ≤ count → drop i (part xs from count) ≡ part xs (from + i) (count - i)
drop_part xs from count i h =
    let split : count ≡ i + (count - i) = omega arith in
    ap (λ (k : ℕ). drop i (take k (drop from xs))) split ∙ drop-take i (count - i) (drop from xs) ∙ ap (take (count - i)) (drop-drop i from xs)

-- a part without a place is its two pieces
pub removed_part : (xs : List ℕ) (from count place : ℕ) → place < count → remove (part xs from count) place ≡ part xs from place ++ part xs (from + place + 1) (count - place - 1)
removed_part xs from count place p =
    let i : from + suc place ≡ from + place + 1 = omega arith in
    let k : count - suc place ≡ count - place - 1 = omega arith in
    ap₂ (λ (a b : List ℕ). a ++ b) (take_part xs from count place (omega arith)) (drop_part xs from count (suc place) (omega arith) ∙ ap₂ (λ (a b : ℕ). take b (drop a xs)) i k)

-- a byte written is a write of one byte
set_over : (xs : List ℕ) (i v : ℕ) → i < length xs → set xs i v ≡ over xs i (v ∷ [])
set_over xs i v h = let next : suc i ≡ i + 1 = omega arith in set_split xs i v h ∙ ap (λ (k : ℕ). take i xs ++ (v ∷ drop k xs)) next

module _ (xs : List ℕ) (from count place value to : ℕ) where
  -- where there is room, and where there is none
  pub widened_there : place ≤ count → from ≤ to → to + count + 1 ≤ length xs → widened xs from count place value to ≡ over xs to (insert (part xs from count) place value)
  unfolding widened
  widened_there p f t =
      cond-true (widens (length xs) from count place to) (over xs to (insert (part xs from count) place value)) xs (and_from (leb place count) _ (le-leb place count p) (and_from (leb from to) _ (le-leb from to f) (le-leb (to + count + 1) (length xs) t)))

  pub widened_not : widens (length xs) from count place to ≡ false → widened xs from count place value to ≡ xs
  unfolding widened
  widened_not e = cond-false (widens (length xs) from count place to) (over xs to (insert (part xs from count) place value)) xs e

  -- the upper piece first, then the value, then the lower piece: nothing is overwritten that is still wanted
  module _ (p : place ≤ count) (f : from ≤ to) (t : to + count + 1 ≤ length xs) where
    abbrev upper : List ℕ
    upper = part xs (from + place) (count - place)

    upper_long : length upper ≡ count - place
    upper_long = length_part xs (from + place) (count - place) (omega arith)

    one : set (moved xs (from + place) (count - place) (to + place + 1)) (to + place) value ≡ over xs (to + place) (value ∷ upper)
    one =
        ap (λ (z : List ℕ). set z (to + place) value) (moved_there xs (from + place) (count - place) (to + place + 1) (le-leb (from + place + (count - place)) (length xs) (omega arith)) (le-leb (to + place + 1 + (count - place)) (length xs) (omega arith)))
        ∙ set_over (over xs (to + place + 1) upper) (to + place) value (omega (arith, upper_long, length_over xs (to + place + 1) upper (omega (arith, upper_long))))
        ∙ over_before xs (to + place) (value ∷ []) upper (omega (arith, upper_long))

    upper_in : to + place + length (value ∷ upper) ≤ length xs
    upper_in = omega (arith, upper_long)

    abbrev lower : List ℕ
    lower = part xs from place

    lower_long : length lower ≡ place
    lower_long = length_part xs from place (omega arith)

    two : moved (over xs (to + place) (value ∷ upper)) from place to ≡ over xs to (lower ++ (value ∷ upper))
    two =
        let same = length_over xs (to + place) (value ∷ upper) upper_in in
        moved_there (over xs (to + place) (value ∷ upper)) from place to (le-leb (from + place) (length (over xs (to + place) (value ∷ upper))) (omega (arith, same))) (le-leb (to + place) (length (over xs (to + place) (value ∷ upper))) (omega (arith, same)))
        ∙ ap (over (over xs (to + place) (value ∷ upper)) to) (part_below xs (to + place) (value ∷ upper) upper_in from place (omega arith))
        ∙ ap (λ (k : ℕ). over (over xs (to + k) (value ∷ upper)) to lower) (sym lower_long)
        ∙ over_before xs to lower (value ∷ upper) (omega (arith, lower_long, upper_long))

    pieces : lower ++ (value ∷ upper) ≡ insert (part xs from count) place value
    pieces =
        ap₂ (λ (a b : List ℕ). a ++ (value ∷ b)) (sym (take_part xs from count place p)) (sym (drop_part xs from count place p))

  pub widened_by_pieces : widens (length xs) from count place to ≡ true → moved (set (moved xs (from + place) (count - place) (to + place + 1)) (to + place) value) from place to ≡ widened xs from count place value to
  widened_by_pieces e =
      let a = and_parts (leb place count) (leb from to && leb (to + count + 1) (length xs)) e in
      let b = and_parts (leb from to) (leb (to + count + 1) (length xs)) a.1 in
      let p = leb-true place count a.0 in
      let f = leb-true from to b.0 in
      let t = leb-true (to + count + 1) (length xs) b.1 in
      ap (λ (z : List ℕ). moved z from place to) (one p f t) ∙ two p f t ∙ ap (over xs to) (pieces p f t) ∙ sym (widened_there p f t)

module _ (xs : List ℕ) (from count place to : ℕ) where
  pub narrowed_there : place < count → to ≤ from → from + count ≤ length xs → narrowed xs from count place to ≡ over xs to (remove (part xs from count) place)
  unfolding narrowed
  narrowed_there p f t =
      cond-true (narrows (length xs) from count place to) (over xs to (remove (part xs from count) place)) xs (and_from (ltb place count) _ (lt-ltb place count p) (and_from (leb to from) _ (le-leb to from f) (le-leb (from + count) (length xs) t)))

  pub narrowed_not : narrows (length xs) from count place to ≡ false → narrowed xs from count place to ≡ xs
  unfolding narrowed
  narrowed_not e = cond-false (narrows (length xs) from count place to) (over xs to (remove (part xs from count) place)) xs e

  -- the lower piece first, then the upper one
  module _ (p : place < count) (f : to ≤ from) (t : from + count ≤ length xs) where
    abbrev below : List ℕ
    below = part xs from place

    below_long : length below ≡ place
    below_long = length_part xs from place (omega arith)

    abbrev above : List ℕ
    above = part xs (from + place + 1) (count - place - 1)

    above_long : length above ≡ count - place - 1
    above_long = length_part xs (from + place + 1) (count - place - 1) (omega arith)

    below_in : to + length below ≤ length xs
    below_in = omega (arith, below_long)

    upper_moved : moved (over xs to below) (from + place + 1) (count - place - 1) (to + place) ≡ over xs to (below ++ above)
    upper_moved =
        let same = length_over xs to below below_in in
        moved_there (over xs to below) (from + place + 1) (count - place - 1) (to + place) (le-leb (from + place + 1 + (count - place - 1)) (length (over xs to below)) (omega (arith, same))) (le-leb (to + place + (count - place - 1)) (length (over xs to below)) (omega (arith, same)))
        ∙ ap (over (over xs to below) (to + place)) (part_above xs to below below_in (from + place + 1) (count - place - 1) (omega (arith, below_long)))
        ∙ ap (λ (k : ℕ). over (over xs to below) (to + k) above) (sym below_long)
        ∙ over_after xs to below above (omega (arith, below_long, above_long))

  pub narrowed_by_pieces : narrows (length xs) from count place to ≡ true → moved (moved xs from place to) (from + place + 1) (count - place - 1) (to + place) ≡ narrowed xs from count place to
  narrowed_by_pieces e =
      let a = and_parts (ltb place count) (leb to from && leb (from + count) (length xs)) e in
      let b = and_parts (leb to from) (leb (from + count) (length xs)) a.1 in
      let p = ltb-true place count a.0 in
      let f = leb-true to from b.0 in
      let t = leb-true (from + count) (length xs) b.1 in
      ap (λ (z : List ℕ). moved z (from + place + 1) (count - place - 1) (to + place)) (moved_there xs from place to (le-leb (from + place) (length xs) (omega arith)) (le-leb (to + place) (length xs) (omega arith)))
      ∙ upper_moved p f t ∙ ap (over xs to) (sym (removed_part xs from count place p)) ∙ sym (narrowed_there p f t)

-- to the front
module _ (xs : List ℕ) (from count place end : ℕ) where
  pub narrowed_to_front_lem : place < count → count ≤ end → cleared (narrowed xs from count place 0) (count - 1) (end - (count - 1)) ≡ narrowed_to_front xs from count place end
  unfolding narrowed_to_front
  narrowed_to_front_lem p e =
      sym (cond-true (ltb place count && leb count end) (cleared (narrowed xs from count place 0) (count - 1) (end - (count - 1))) xs (and_from (ltb place count) (leb count end) (lt-ltb place count p) (le-leb count end e)))

  pub narrowed_no_place : count ≤ place → xs ≡ narrowed_to_front xs from count place end
  unfolding narrowed_to_front
  narrowed_no_place p = sym (cond-false (ltb place count && leb count end) _ xs (and_left (ltb place count) (leb count end) (le-ltb place count p)))

  pub narrowed_too_long : end < count → xs ≡ narrowed_to_front xs from count place end
  unfolding narrowed_to_front
  narrowed_too_long e = sym (cond-false (ltb place count && leb count end) _ xs (and_right (ltb place count) (leb count end) (lt-leb count end e)))

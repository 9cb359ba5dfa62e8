-- A pair that a part has shown, moved apart and filled up with zeros. Assumes nothing.
use Rattle.std.proofs.Common.{◌≡◌, ℕ, ◌+◌, ◌-◌, ◌*◌, ◌/◌, ◌<◌, ◌≤◌, Bool, true, false, ◌&&◌, leb, List, [], ◌++◌, length, take, drop, replicate, sym, ap, ◌∙◌, subst, ap₂, ⊎_elim, append_assoc, arith, lit<, length-append}
use native.Mathlib.Nat.{mul-div-le, mul-div_cancel_left}
use borrow.Rule.Slice.PartMut.{post_of}
use lib.ListN.{length-replicate}
use Rattle.std.proofs.lemmas.List.{take_at, drop_at, take_all, length-take-le, replicate-append-replicate, take-append-drop, take-take, drop-take, append-nil}
use Rattle.std.proofs.lemmas.Bool.{le-leb, lt-leb, leb-true, and_parts, and_from, and_left, and_right, cond-true, cond-false, cases_lt}
use Rattle.theory.specs.Calls.{Outcome, Answer, accepted, refused, shown}
use Rattle.theory.specs.Meanings.{Meaning}
use Rattle.theory.specs.Memory.{over, part, settled, moved, cleared}
use Rattle.theory.specs.Padding.{padded, shown_padded}
use Rattle.theory.specs.Piles.{Pair, pair_of_parts}
use Rattle.theory.proofs.Calls.{paired, shown_pair, shown_short}
use Rattle.theory.proofs.Memory.{moved_there, cleared_there, settled_over, put_mid_over, front_is}
use Rattle.theory.proofs.Overs.{length_over, part_over, part_above, part_below, drop_over_above, settled_part}

-- what was written, with all that lies below it
pub take_over : (xs : List ℕ) (a : ℕ) (ys : List ℕ) → a + length ys ≤ length xs → take (a + length ys) (over xs a ys) ≡ take a xs ++ ys
take_over xs a ys fits =
    let front : length (take a xs ++ ys) ≡ a + length ys = length-append (take a xs) ys ∙ ap (λ (k : ℕ). k + length ys) (length-take-le a xs (omega arith)) in
    ap (take (a + length ys)) (sym (append_assoc (take a xs) ys (drop (a + length ys) xs))) ∙ take_at (take a xs ++ ys) (drop (a + length ys) xs) (a + length ys) front

-- a front and what follows it
pub take_more_part : (xs : List ℕ) (a k : ℕ) → a + k ≤ length xs → take (a + k) xs ≡ take a xs ++ part xs a k
take_more_part xs a k h =
    sym (take-append-drop a (take (a + k) xs)) ∙ ap₂ (λ (p r : List ℕ). p ++ r) (take-take a (a + k) xs (omega arith)) (drop-take a k xs)

module _ (s t xs : List ℕ) (before k after end : ℕ) (long-s : length s ≡ k) (long-t : length t ≡ k) (is-s : take k xs ≡ s) (is-t : part xs k k ≡ t) (fits : 2 * (before + (k + after)) ≤ end) (room : end ≤ length xs) where
  -- where the second message goes, and where it ends
  abbrev second : ℕ
  second = before + (k + after) + before

  zeros : (n : ℕ) → length (replicate {A = ℕ} n 0) ≡ n
  zeros n = length-replicate {A = ℕ} n 0

  abbrev one : List ℕ
  one = over xs second t

  long_one : length one ≡ length xs
  long_one = length_over xs second t (omega arith)

  first_there : part one 0 k ≡ s
  first_there = part_below xs second t (omega arith) 0 k (omega arith) ∙ is-s

  abbrev two : List ℕ
  two = over one before s

  long_two : length two ≡ length xs
  long_two = length_over one before s (omega (arith, long_one)) ∙ long_one

  abbrev three : List ℕ
  three = over two 0 (replicate before 0)

  long_three : length three ≡ length xs
  long_three = length_over two 0 (replicate before 0) (omega (arith, long_two, zeros before)) ∙ long_two

  abbrev four : List ℕ
  four = over three (before + k) (replicate (after + before) 0)

  long_four : length four ≡ length xs
  long_four = length_over three (before + k) (replicate (after + before) 0) (omega (arith, long_three, zeros (after + before))) ∙ long_three

  -- the front once the first message stands, and zeros behind it
  front_three : take (before + k) three ≡ replicate before 0 ++ s
  front_three =
      take_more_part three before k (omega (arith, long_three))
      ∙ ap₂ (λ (p r : List ℕ). p ++ r) (take_at (replicate before 0) (drop (0 + length (replicate {A = ℕ} before 0)) two) before (zeros before)) (part_above two 0 (replicate before 0) (omega (arith, long_two, zeros before)) before k (omega (arith, zeros before)) ∙ part_over one before s (omega (arith, long_one)) k (omega arith) ∙ take_all k s (omega arith))

  front_four : take second four ≡ (replicate before 0 ++ s) ++ replicate (after + before) 0
  front_four =
      let there : before + k + length (replicate {A = ℕ} (after + before) 0) ≡ second = omega (arith, zeros (after + before)) in
      ap (λ (j : ℕ). take j four) (sym there)
      ∙ take_over three (before + k) (replicate (after + before) 0) (omega (arith, long_three, zeros (after + before)))
      ∙ ap (λ (p : List ℕ). p ++ replicate (after + before) 0) front_three

  second_there : part four second k ≡ t
  second_there =
      part_above three (before + k) (replicate (after + before) 0) (omega (arith, long_three, zeros (after + before))) second k (omega (arith, zeros (after + before)))
      ∙ part_above two 0 (replicate before 0) (omega (arith, long_two, zeros before)) second k (omega (arith, zeros before))
      ∙ part_above one before s (omega (arith, long_one)) second k (omega arith) ∙ part_over xs second t (omega arith) k (omega arith) ∙ take_all k t (omega arith)

  beyond : drop end four ≡ drop end xs
  beyond =
      drop_over_above three (before + k) (replicate (after + before) 0) (omega (arith, long_three, zeros (after + before))) end (omega (arith, zeros (after + before)))
      ∙ drop_over_above two 0 (replicate before 0) (omega (arith, long_two, zeros before)) end (omega (arith, zeros before))
      ∙ drop_over_above one before s (omega (arith, long_one)) end (omega arith) ∙ drop_over_above xs second t (omega arith) end (omega arith)

  -- the zeros between the messages, and those behind the second, are those of both
  abbrev both : List ℕ
  both = padded before after s ++ padded before after t

  regrouped : (((replicate before 0 ++ s) ++ (replicate after 0 ++ replicate before 0)) ++ t) ++ replicate after 0 ≡ both
  regrouped = simp append_assoc

  long_padded : (m : List ℕ) → length m ≡ k → length (padded before after m) ≡ before + (k + after)
  long_padded m e = simp (length-append, length-replicate) (omega arith)

  long_both : length both ≡ 2 * (before + (k + after))
  long_both = length-append (padded before after s) (padded before after t) ∙ omega (arith, long_padded s long-s, long_padded t long-t)

  pub pair_padded : over four (second + k) (replicate (end - (second + k)) 0) ≡ settled end both xs
  pair_padded =
      let front = take_more_part four second k (omega (arith, long_four)) ∙ ap₂ (λ (p r : List ℕ). p ++ r) front_four second_there in
      let kept = length-take-le (second + k) four (omega (arith, long_four)) in
      let rest : end - (second + k) ≡ after + (end - length both) = omega (arith, long_both) in
      settled_over end (second + k) four (omega arith) (omega (arith, long_four))
      ∙ ap₂ (λ (j : ℕ) (z : List ℕ). take (second + k) four ++ (replicate (end - j) 0 ++ z)) kept beyond
      ∙ ap₂ (λ (p : List ℕ) (j : ℕ). p ++ (replicate j 0 ++ drop end xs)) (front ∙ ap (λ (z : List ℕ). ((replicate before 0 ++ s) ++ z) ++ t) (sym (replicate-append-replicate after before 0))) rest
      ∙ ap (λ (z : List ℕ). (((replicate before 0 ++ s) ++ (replicate after 0 ++ replicate before 0)) ++ t) ++ (z ++ drop end xs)) (sym (replicate-append-replicate after (end - length both) 0))
      ∙ ap (λ (z : List ℕ). (((replicate before 0 ++ s) ++ (replicate after 0 ++ replicate before 0)) ++ t) ++ z) (append_assoc (replicate after 0) (replicate (end - length both) 0) (drop end xs))
      ∙ sym (append_assoc (((replicate before 0 ++ s) ++ (replicate after 0 ++ replicate before 0)) ++ t) (replicate after 0) (replicate (end - length both) 0 ++ drop end xs))
      ∙ ap (λ (p : List ℕ). p ++ (replicate (end - length both) 0 ++ drop end xs)) regrouped

  -- the same by the calls that move and clear
  pub moved_apart : cleared (cleared (cleared (moved (moved xs k k second) 0 k before) 0 before) (before + k) (after + before)) (second + k) (end - (second + k)) ≡ settled end both xs
  moved_apart =
      let to_one : moved xs k k second ≡ one = moved_there xs k k second (le-leb (k + k) (length xs) (omega arith)) (le-leb (second + k) (length xs) (omega arith)) ∙ ap (over xs second) is-t in
      let to-two : moved one 0 k before ≡ two = moved_there one 0 k before (le-leb (0 + k) (length one) (omega (arith, long_one))) (le-leb (before + k) (length one) (omega (arith, long_one))) ∙ ap (over one before) first_there in
      let to-three : cleared two 0 before ≡ three = cleared_there two 0 before (le-leb (0 + before) (length two) (omega (arith, long_two))) in
      let to-four : cleared three (before + k) (after + before) ≡ four = cleared_there three (before + k) (after + before) (le-leb (before + k + (after + before)) (length three) (omega (arith, long_three))) in
      let to-five = cleared_there four (second + k) (end - (second + k)) (le-leb (second + k + (end - (second + k))) (length four) (omega (arith, long_four))) in
      ap (λ (z : List ℕ). cleared (cleared (cleared (moved z 0 k before) 0 before) (before + k) (after + before)) (second + k) (end - (second + k))) to_one
      ∙ ap (λ (z : List ℕ). cleared (cleared (cleared z 0 before) (before + k) (after + before)) (second + k) (end - (second + k))) to-two
      ∙ ap (λ (z : List ℕ). cleared (cleared z (before + k) (after + before)) (second + k) (end - (second + k))) to-three
      ∙ ap (λ (z : List ℕ). cleared z (second + k) (end - (second + k))) to-four
      ∙ to-five ∙ pair_padded

-- what showing in the first 2W bytes and moving the messages apart come to
abbrev pub ShowsPadded : Meaning → List ℕ → List ℕ → ℕ → ℕ → Type 0
ShowsPadded m s t k w =
    (before after end : ℕ) (xs : List ℕ) → end ≤ length xs → (leb (before + (k + after)) (end / 2) && leb w (end / 2)) ≡ true → (o : Outcome) (last : List ℕ) → length last ≡ length (take (2 * w - 0) xs) → paired o last ≡ shown m s t (take (2 * w - 0) xs)
    → (o ≡ accepted) × (paired accepted (cleared (cleared (cleared (moved (moved (last ++ post_of 0 (2 * w - 0) xs) k k (before + (k + after) + before)) 0 k before) 0 before) (before + k) (after + before)) (before + (k + after) + before + k) (end - (before + (k + after) + before + k))) ≡ shown_padded m s t before after end xs)

module _ (m : Meaning) (s t : List ℕ) where
  pub padded_no_memory : (before after end : ℕ) (xs : List ℕ) → length xs < end → paired (refused 1 []) xs ≡ shown_padded m s t before after end xs
  unfolding shown_padded
  padded_no_memory before after end xs h =
      sym (cond-false (leb end (length xs) && (leb (before + (m.k + after)) (end / 2) && leb m.w (end / 2))) (accepted, settled end (padded before after s ++ padded before after t) xs) (refused 1 [], xs) (and_left (leb end (length xs)) _ (lt-leb end (length xs) h)))

  pub padded_no_room : (before after end : ℕ) (xs : List ℕ) → (leb (before + (m.k + after)) (end / 2) && leb m.w (end / 2)) ≡ false → paired (refused 1 []) xs ≡ shown_padded m s t before after end xs
  unfolding shown_padded
  padded_no_room before after end xs h =
      sym (cond-false (leb end (length xs) && (leb (before + (m.k + after)) (end / 2) && leb m.w (end / 2))) (accepted, settled end (padded before after s ++ padded before after t) xs) (refused 1 [], xs) (and_right (leb end (length xs)) _ h))

  padded_there : (before after end : ℕ) (xs : List ℕ) → end ≤ length xs → (leb (before + (m.k + after)) (end / 2) && leb m.w (end / 2)) ≡ true → shown_padded m s t before after end xs ≡ paired accepted (settled end (padded before after s ++ padded before after t) xs)
  unfolding shown_padded
  padded_there before after end xs h r =
      cond-true (leb end (length xs) && (leb (before + (m.k + after)) (end / 2) && leb m.w (end / 2))) (accepted, settled end (padded before after s ++ padded before after t) xs) (refused 1 [], xs) (and_from (leb end (length xs)) _ (le-leb end (length xs) h) r)

  pub padded_shown : length s ≡ m.k → length t ≡ m.k → m.k ≤ m.w → ShowsPadded m s t m.k m.w
  padded_shown long-s long-t within before after end xs room fits o last long call =
      let tests = and_parts (leb (before + (m.k + after)) (end / 2)) (leb m.w (end / 2)) fits in
      let half = mul-div-le end 2 in
      let w_fits : 2 * m.w ≤ end = omega (arith, half, leb-true m.w (end / 2) tests.1) in
      let k-fits : 2 * (before + (m.k + after)) ≤ end = omega (arith, half, leb-true (before + (m.k + after)) (end / 2) tests.0) in
      let front : take (2 * m.w - 0) xs ≡ take (2 * m.w) xs = front_is (2 * m.w) xs in
      let whole : length (take (2 * m.w) xs) ≡ 2 * m.w = length-take-le (2 * m.w) xs (omega arith) in
      let pair : length (s ++ t) ≡ m.k + m.k = length-append s t ∙ omega arith in
      let answer : paired o last ≡ paired accepted ((s ++ t) ++ replicate (2 * m.w - (m.k + m.k)) 0) =
      call ∙ ap (shown m s t) front ∙ shown_pair m s t (take (2 * m.w) xs) (omega (arith, whole)) ∙ ap (paired accepted) (settled_part (2 * m.w) (m.k + m.k) (s ++ t) (take (2 * m.w) xs) whole pair) in
      let is : last ≡ (s ++ t) ++ replicate (2 * m.w - (m.k + m.k)) 0 = ap (λ (a : Answer). a.1) answer in
      let long-last : length last ≡ 2 * m.w = long ∙ ap length front ∙ whole in
      let ys = last ++ post_of 0 (2 * m.w - 0) xs in
      let now : ys ≡ over xs 0 last = put_mid_over 0 (2 * m.w - 0) xs last (omega (arith, long-last)) in
      let in-xs : 0 + length last ≤ length xs = omega (arith, long-last) in
      let long-ys : length ys ≡ length xs = ap length now ∙ length_over xs 0 last in-xs in
      let front-ys : take (2 * m.w) ys ≡ last = ap (take (2 * m.w)) now ∙ take_at last (drop (0 + length last) xs) (2 * m.w) long-last in
      let rest-ys : drop end ys ≡ drop end xs = ap (drop end) now ∙ drop_over_above xs 0 last in-xs end (omega (arith, long-last)) in
      let is-s : take m.k ys ≡ s = sym (take-take m.k (2 * m.w) ys (omega arith)) ∙ ap (take m.k) (front-ys ∙ is ∙ append_assoc s t (replicate (2 * m.w - (m.k + m.k)) 0)) ∙ take_at s (t ++ replicate (2 * m.w - (m.k + m.k)) 0) m.k long-s in
      let is-t : part ys m.k m.k ≡ t =
      sym (drop-take m.k m.k ys) ∙ ap (drop m.k) (sym (take-take (m.k + m.k) (2 * m.w) ys (omega arith)) ∙ ap (take (m.k + m.k)) (front-ys ∙ is) ∙ take_at (s ++ t) (replicate (2 * m.w - (m.k + m.k)) 0) (m.k + m.k) pair)
      ∙ drop_at s t m.k long-s in (
        ap (λ (a : Answer). a.0) answer,
        ap (paired accepted) (moved_apart s t ys before m.k after end long-s long-t is-s is-t k-fits (omega (arith, long-ys)))
            ∙ ap (λ (z : List ℕ). paired accepted ((padded before after s ++ padded before after t) ++ (replicate (end - length (padded before after s ++ padded before after t)) 0 ++ z))) rest-ys
            ∙ sym (padded_there before after end xs room fits),
      )

  -- the same at numbers that are the code's
  pub padded_shown_at : (k w : ℕ) → k ≡ m.k → w ≡ m.w → length s ≡ m.k → length t ≡ m.k → m.k ≤ m.w → ShowsPadded m s t k w
  padded_shown_at k w e f long-s long-t within =
      subst (λ (j : ℕ). ShowsPadded m s t j w) (sym e) (subst (ShowsPadded m s t m.k) (sym f) (padded_shown long-s long-t within))

-- a part's pair with zeros around its messages is what the whole shows
pub padded_is_shown : (m whole : Meaning) (s t s' t' : List ℕ) (before after end : ℕ) (xs : List ℕ) → end ≡ 2 * whole.w → before + (m.k + after) ≤ whole.w → m.w ≤ whole.w → padded before after s ≡ s' → padded before after t ≡ t' → shown_padded m s t before after end xs ≡ shown whole s' t' xs
padded_is_shown m whole s t s' t' before after end xs e k-fits w_fits f g =
    ap (λ (j : ℕ). shown_padded m s t before after j xs) e
    ∙ ⊎_elim short long (cases_lt (length xs) (2 * whole.w))
  where
    half : 2 * whole.w / 2 ≡ whole.w
    half = mul-div_cancel_left whole.w (lit< tt)

    fits : (leb (before + (m.k + after)) (2 * whole.w / 2) && leb m.w (2 * whole.w / 2)) ≡ true
    fits = ap (λ (j : ℕ). leb (before + (m.k + after)) j && leb m.w j) half ∙ and_from _ _ (le-leb (before + (m.k + after)) whole.w k-fits) (le-leb m.w whole.w w_fits)

    short : length xs < 2 * whole.w → shown_padded m s t before after (2 * whole.w) xs ≡ shown whole s' t' xs
    short h = sym (padded_no_memory m s t before after (2 * whole.w) xs h) ∙ sym (shown_short whole s' t' xs h)

    long : 2 * whole.w ≤ length xs → shown_padded m s t before after (2 * whole.w) xs ≡ shown whole s' t' xs
    long h =
        padded_there m s t before after (2 * whole.w) xs h fits
        ∙ ap₂ (λ (a b : List ℕ). paired accepted (settled (2 * whole.w) (a ++ b) xs)) f g ∙ sym (shown_pair whole s' t' xs h)

-- the pair of a join of two parts, shown by the part whose pair it is
module _ (u v whole : Meaning) (of_u of_v : Pair) (xs : List ℕ) (end k : ℕ) (room : end ≡ 2 * whole.w) (messages : u.k + v.k ≤ whole.w) where
  pub shown_by_left : u.w ≤ whole.w → k ≡ v.k → (left : Bool) → left ≡ true → shown_padded u of_u.0 of_u.1 0 k end xs ≡ shown whole (pair_of_parts left u v of_u of_v).0 (pair_of_parts left u v of_u of_v).1 xs
  shown_by_left fits e left is =
      ap (λ (j : ℕ). shown_padded u of_u.0 of_u.1 0 j end xs) e
      ∙ padded_is_shown u whole of_u.0 of_u.1 (pair_of_parts left u v of_u of_v).0 (pair_of_parts left u v of_u of_v).1 0 v.k end xs room (omega arith) fits (ap (λ (b : Bool). (pair_of_parts b u v of_u of_v).0) (sym is)) (ap (λ (b : Bool). (pair_of_parts b u v of_u of_v).1) (sym is))

  pub shown_by_right : v.w ≤ whole.w → k ≡ u.k → (left : Bool) → left ≡ false → shown_padded v of_v.0 of_v.1 k 0 end xs ≡ shown whole (pair_of_parts left u v of_u of_v).0 (pair_of_parts left u v of_u of_v).1 xs
  shown_by_right fits e left is =
      let none = λ (s : List ℕ). ap (λ (z : List ℕ). replicate u.k 0 ++ z) (append-nil s) in
      ap (λ (j : ℕ). shown_padded v of_v.0 of_v.1 j 0 end xs) e
      ∙ padded_is_shown v whole of_v.0 of_v.1 (pair_of_parts left u v of_u of_v).0 (pair_of_parts left u v of_u of_v).1 u.k 0 end xs room (omega arith) fits (none of_v.0 ∙ ap (λ (b : Bool). (pair_of_parts b u v of_u of_v).0) (sym is)) (none of_v.1 ∙ ap (λ (b : Bool). (pair_of_parts b u v of_u of_v).1) (sym is))

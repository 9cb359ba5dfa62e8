-- Mend of a Plotkin join, way by way: v from the difference of the halves, then u from the left half or from the right half
-- less v, each find tested by the toll of the whole word. Assumes nothing.
use Rattle.std.proofs.Common.{◌≡◌, ℕ, ◌+◌, ◌-◌, ◌*◌, ◌≤◌, Bool, true, false, List, [], ◌++◌, length, take, drop, replicate, Some, Option, sym, ap, ◌∙◌, subst, ap₂, ⊎_elim, arith}
use Rattle.std.proofs.lemmas.List.{take_all, take_at, drop_at, take-take, drop-take, take-append-drop}
use Rattle.theory.specs.Alphabets.{Arithmetic, Lawful}
use Rattle.theory.specs.Calls.{Outcome, Answer, accepted, refused, mended}
use Rattle.theory.specs.Combining.{combined}
use Rattle.theory.specs.Halves.{Halves, word_end, left_part, right_part, work_end, byte_less, sought}
use Rattle.theory.specs.Joins.{sums, less, plotkin}
use Rattle.theory.specs.Meanings.{Meaning, Keeps}
use Rattle.theory.specs.Memory.{settled, cleared, gathered}
use Rattle.theory.specs.Parts.{call_in_part}
use Rattle.theory.specs.Reach.{InReach, message_in_reach}
use Rattle.theory.specs.Words.{Symbols, toll}
use Rattle.theory.proofs.Blocks.{cleared_blocks, gathered_second_first}
use Rattle.theory.proofs.Calls.{paired, mended_none, mended_reach}
use Rattle.theory.proofs.HalfCalls.{halves_of, half_a, half_b, long_a, long_b, long_front, held, difference, long_difference, differences_held, old_l, long_old_l, right_result, long_right, right_mended}
use Rattle.theory.proofs.PartCalls.{fresh, length_fresh, mend_result, mend_outcome, mend_found}
use Rattle.theory.proofs.Pointwise.{length_zipped}
use Rattle.theory.proofs.Reach.{found_in_reach, in_reach_found}
use Rattle.theory.proofs.Reaches.{toll_append, plotkin_reaches_right, plotkin_reaches_left}
use Rattle.theory.proofs.Seeking.{answered, right_part_lem, long_right_part, right_half, whole_cost, Hit, Far, Kept, right_less, SeekWays, seek}
use Rattle.theory.proofs.TwoCalls.{take_fresh}
use Rattle.theory.proofs.Symbols.{symbols_take, symbols_append}

module _ (A : Arithmetic) (u v : Meaning) where
  -- the ways of a mend once V has answered
  pub record MendWays (h : Halves) (xs : List ℕ) (o : Outcome) (ys : List ℕ) : Type 0 where
    pub no_v : (o ≡ accepted → ⊥) → paired (refused 3 []) (cleared ys (word_end h) (work_end h - word_end h)) ≡ mended A (plotkin A u v) xs
    pub found : o ≡ accepted → (zs : List ℕ) → answered true zs ≡ sought A u h ys → paired accepted (gathered zs (left_part h) h.n (word_end h) h.n (work_end h)) ≡ mended A (plotkin A u v) xs
    pub no_u : o ≡ accepted → (zs : List ℕ) → answered false zs ≡ sought A u h ys → paired (refused 3 []) (cleared zs (word_end h) (work_end h - word_end h)) ≡ mended A (plotkin A u v) xs

  abbrev pub Mends : Halves → Type 0
  Mends h =
      (xs : List ℕ) → work_end h ≤ length xs → (ds : List ℕ) → ds ≡ combined (byte_less A) xs h.n 0 h.n (word_end h)
      → (o : Outcome) (ys : List ℕ) → paired o ys ≡ call_in_part (mended A v) (word_end h) h.n (right_part h) h.wv ds → MendWays h xs o ys

module _ (A : Arithmetic) (laws : Lawful A) (u v : Meaning) (keeps-u : Keeps A u) (keeps-v : Keeps A v) (same : u.n ≡ v.n) (xs : List ℕ) (room : 3 * u.n + u.w + v.w ≤ length xs) where
  -- the received word is its two halves
  pub received_halves : take (2 * u.n) xs ≡ half_a A u v xs room ++ half_b A u v xs room
  received_halves =
      let twice : 2 * u.n ≡ u.n + u.n = omega arith in
      ap (λ (k : ℕ). take k xs) twice
      ∙ sym (take-append-drop u.n (take (u.n + u.n) xs))
      ∙ ap₂ (λ (a b : List ℕ). a ++ b) (take-take u.n (u.n + u.n) xs (omega arith)) (drop-take u.n u.n xs)

  -- cleared away behind the received word
  pub cleared_held : (e l r : List ℕ) → length e ≡ u.n → length l ≡ u.w → length r ≡ v.w → cleared (held A u v xs room e l r) (2 * u.n) (3 * u.n + u.w + v.w - 2 * u.n) ≡ settled (3 * u.n + u.w + v.w) (take (2 * u.n) xs) xs
  cleared_held e l r he hl hr =
      cleared_blocks (take (2 * u.n) xs) e l r (drop (3 * u.n + u.w + v.w) xs) (2 * u.n) (3 * u.n) (3 * u.n + u.w) (3 * u.n + u.w + v.w) (long_front A u v xs room) (omega arith) (omega arith) (omega arith)
      ∙ ap (λ (k : ℕ). take (2 * u.n) xs ++ (replicate (3 * u.n + u.w + v.w - k) 0 ++ drop (3 * u.n + u.w + v.w) xs)) (sym (long_front A u v xs room))

  -- u's word and the right half gathered in front
  pub gathered_held : (s right r : List ℕ) → length (u.word s) ≡ u.n → length right ≡ u.n → length r ≡ v.w → gathered (held A u v xs room right (fresh u.w (u.word s)) r) (3 * u.n) u.n (2 * u.n) u.n (3 * u.n + u.w + v.w) ≡ settled (3 * u.n + u.w + v.w) (u.word s ++ right) xs
  gathered_held s right r hs hr hv =
      let long = length_fresh u.w (u.word s) (omega (arith, keeps-u.room_for_word)) in
      gathered_second_first (take (2 * u.n) xs) right (fresh u.w (u.word s)) r (drop (3 * u.n + u.w + v.w) xs) (2 * u.n) (3 * u.n) (3 * u.n + u.w) (3 * u.n + u.w + v.w) (long_front A u v xs room) (omega arith) (omega arith) (omega arith) u.n u.n (omega (arith, keeps-u.room_for_word)) (omega arith) (omega arith)
      ∙ ap₂ (λ (a b : List ℕ). settled (3 * u.n + u.w + v.w) (a ++ b) xs) (take_fresh u.w u.n (u.word s) hs) (take_all u.n right (omega arith))

  -- the word of a pair of messages
  pub word_of_pair : (s t : List ℕ) → length s ≡ u.k → (plotkin A u v).word (s ++ t) ≡ u.word s ++ sums A (u.word s) (v.word t)
  word_of_pair s t e =
      ap₂ (λ (a b : List ℕ). u.word a ++ sums A (u.word a) (v.word b)) (take_at s t u.k e) (drop_at s t u.k e)

  -- what the word of s costs in its two halves
  halves_cost : (s : List ℕ) → Symbols A.q (u.k + v.k) s → toll A.q ((plotkin A u v).word s) (take (2 * u.n) xs) ≡ toll A.q (u.word (take u.k s)) (half_a A u v xs room) + toll A.q (sums A (u.word (take u.k s)) (v.word (drop u.k s))) (half_b A u v xs room)
  halves_cost s h =
      ap (toll A.q ((plotkin A u v).word s)) received_halves
      ∙ toll_append A.q (u.word (take u.k s)) (sums A (u.word (take u.k s)) (v.word (drop u.k s))) (half_a A u v xs room) (half_b A u v xs room) ((keeps-u.words (take u.k s) (symbols_take A.q u.k v.k s h)).long ∙ sym (long_a A u v xs room))

  module _ (s : List ℕ) (reached : InReach A (plotkin A u v) (take (2 * u.n) xs) s) where
    in_halves : InReach A (plotkin A u v) (half_a A u v xs room ++ half_b A u v xs room) s
    in_halves = subst (λ (rs : List ℕ). InReach A (plotkin A u v) rs s) received_halves reached

    -- V finds the right part of a message in reach
    right_found : message_in_reach A v (difference A laws u v keeps-u keeps-v same xs room) ≡ Some (drop u.k s)
    right_found =
        in_reach_found A v keeps-v (difference A laws u v keeps-u keeps-v same xs room) (drop u.k s) (long_difference A laws u v keeps-u keeps-v same xs room ∙ same)
        (plotkin_reaches_right A laws u v keeps-u keeps-v same (half_a A u v xs room) (half_b A u v xs room) s (long_a A u v xs room) (long_b A u v xs room) in_halves)

    -- and U its left part, in one of the two halves; so it is not far in both
    near_somewhere : (t : List ℕ) (ht : Symbols A.q v.k t) → message_in_reach A v (difference A laws u v keeps-u keeps-v same xs room) ≡ Some t → Far A laws u v keeps-u keeps-v same xs room t ht (half_a A u v xs room) → Far A laws u v keeps-u keeps-v same xs room t ht (right_less A laws u v keeps-u keeps-v same xs room t ht) → ⊥
    near_somewhere t ht f far-a far-b =
        let is : t ≡ drop u.k s = some_same (sym f ∙ right_found) in
        let cost : whole_cost A laws u v keeps-u keeps-v same xs room t ht (take u.k s) ≡ toll A.q ((plotkin A u v).word s) (take (2 * u.n) xs) =
        ap (λ (x : List ℕ). toll A.q (u.word (take u.k s)) (half_a A u v xs room) + toll A.q (sums A (u.word (take u.k s)) (v.word x)) (half_b A u v xs room)) is ∙ sym (halves_cost s reached.message) in
        let near = reached.near in
        ⊎_elim
        (λ (h : InReach A u (half_a A u v xs room) (take u.k s)). let far = far-a (take u.k s) (in_reach_found A u keeps-u (half_a A u v xs room) (take u.k s) (long_a A u v xs room) h) in omega (arith, far, cost, near))
        (λ (h : InReach A u (less A (half_b A u v xs room) (v.word (drop u.k s))) (take u.k s)).
        let there : InReach A u (right_less A laws u v keeps-u keeps-v same xs room t ht) (take u.k s) = subst (λ (x : List ℕ). InReach A u (less A (half_b A u v xs room) (v.word x)) (take u.k s)) (sym is) h in
        let long = length_zipped (byte_less A) (half_b A u v xs room) (v.word t) (long_b A u v xs room ∙ same ∙ sym (keeps-v.words t ht).long) ∙ long_b A u v xs room in
        let far = far-b (take u.k s) (in_reach_found A u keeps-u (right_less A laws u v keeps-u keeps-v same xs room t ht) (take u.k s) long there) in
        omega (arith, far, cost, near))
        (plotkin_reaches_left A laws u v keeps-u keeps-v same (half_a A u v xs room) (half_b A u v xs room) s (long_a A u v xs room) (long_b A u v xs room) in_halves)
      where
        some_same : {x y : List ℕ} → Some x ≡ Some y → x ≡ y
        some_same e = cc

  -- a hit is a message in reach, and its word stands ready
  hit_mends : Keeps A (plotkin A u v) → (t : List ℕ) (ht : Symbols A.q v.k t) (rs zs : List ℕ) → Hit A laws u v keeps-u keeps-v same xs room t ht rs zs → paired accepted (gathered zs (3 * u.n) u.n (2 * u.n) u.n (3 * u.n + u.w + v.w)) ≡ mended A (plotkin A u v) xs
  hit_mends keeps t ht rs zs hit =
      let s = hit.s in
      let hs = (found_in_reach A u rs s hit.found).message in
      let wu = (keeps-u.words s hs).long in
      let wv = (keeps-v.words t ht).long in
      let right = right_half A laws u v keeps-u keeps-v same xs room t ht s in
      let long_right_half : length (sums A (u.word s) (v.word t)) ≡ u.n = length_zipped A.add (u.word s) (v.word t) (wu ∙ same ∙ sym wv) ∙ wu in
      let word = word_of_pair s t hs.long in
      let cost = ap₂ (toll A.q) word received_halves ∙ toll_append A.q (u.word s) (sums A (u.word s) (v.word t)) (half_a A u v xs room) (half_b A u v xs room) (wu ∙ sym (long_a A u v xs room)) in
      let reached : InReach A (plotkin A u v) (take (2 * u.n) xs) (s ++ t) =
      record { message = symbols_append A.q u.k v.k s t hs ht; near = omega (arith, hit.near, cost) } in
      ap (λ (z : List ℕ). paired accepted (gathered z (3 * u.n) u.n (2 * u.n) u.n (3 * u.n + u.w + v.w))) hit.ready
      ∙ ap (paired accepted) (gathered_held s (sums A (u.word s) (v.word t)) (right_part_lem A laws u v keeps-u keeps-v same xs room t ht) wu long_right_half (long_right_part A laws u v keeps-u keeps-v same xs room t ht))
      ∙ ap (λ (z : List ℕ). paired accepted (settled (3 * u.n + u.w + v.w) z xs)) (sym word)
      ∙ sym (mended_reach A (plotkin A u v) xs keeps room (s ++ t) reached)

  -- V has answered by its reach
  right_answers : (ds : List ℕ) → ds ≡ combined (byte_less A) xs u.n 0 u.n (2 * u.n) → (o : Outcome) (ys : List ℕ) → paired o ys ≡ call_in_part (mended A v) (2 * u.n) u.n (3 * u.n + u.w) v.w ds → paired o ys ≡ paired (mend_outcome (message_in_reach A v (difference A laws u v keeps-u keeps-v same xs room))) (held A u v xs room (difference A laws u v keeps-u keeps-v same xs room) (old_l A laws u v keeps-u keeps-v same xs room) (fresh v.w (right_result A laws u v keeps-u keeps-v same xs room)))
  right_answers ds e o ys call =
      call ∙ ap (call_in_part (mended A v) (2 * u.n) u.n (3 * u.n + u.w) v.w) (e ∙ differences_held A laws u v keeps-u keeps-v same xs room) ∙ right_mended A laws u v keeps-u keeps-v same xs room

  -- what has to hold of what was sought
  abbrev Settles : Bool → List ℕ → Type 0
  Settles true zs = paired accepted (gathered zs (3 * u.n) u.n (2 * u.n) u.n (3 * u.n + u.w + v.w)) ≡ mended A (plotkin A u v) xs
  Settles false zs = paired (refused 3 []) (cleared zs (2 * u.n) (3 * u.n + u.w + v.w - 2 * u.n)) ≡ mended A (plotkin A u v) xs

  pub plotkin_mends : Keeps A (plotkin A u v) → (ds : List ℕ) → ds ≡ combined (byte_less A) xs u.n 0 u.n (2 * u.n) → (o : Outcome) (ys : List ℕ) → paired o ys ≡ call_in_part (mended A v) (2 * u.n) u.n (3 * u.n + u.w) v.w ds → MendWays A u v (halves_of u v) xs o ys
  plotkin_mends keeps ds e o ys call =
      record {
        no_v = λ refusal.
            ap (λ (z : List ℕ). paired (refused 3 []) (cleared z (2 * u.n) (3 * u.n + u.w + v.w - 2 * u.n))) memory
            ∙ ap (paired (refused 3 [])) (cleared_held (difference A laws u v keeps-u keeps-v same xs room) (old_l A laws u v keeps-u keeps-v same xs room) (fresh v.w (right_result A laws u v keeps-u keeps-v same xs room)) (long_difference A laws u v keeps-u keeps-v same xs room) (long_old_l A laws u v keeps-u keeps-v same xs room) (long_right A laws u v keeps-u keeps-v same xs room))
            ∙ sym (mended_none A (plotkin A u v) xs room (λ s reached. refusal (outcome_is ∙ ap mend_outcome (right_found s reached))));
        found = λ ok zs is. seeking ok zs true is;
        no_u = λ ok zs is. seeking ok zs false is;
      }
    where
      outcome_is : o ≡ mend_outcome (message_in_reach A v (difference A laws u v keeps-u keeps-v same xs room))
      outcome_is = ap (λ (p : Answer). p.0) (right_answers ds e o ys call)

      memory : ys ≡ held A u v xs room (difference A laws u v keeps-u keeps-v same xs room) (old_l A laws u v keeps-u keeps-v same xs room) (fresh v.w (right_result A laws u v keeps-u keeps-v same xs room))
      memory = ap (λ (p : Answer). p.1) (right_answers ds e o ys call)

      by_ways : (t : List ℕ) (ht : Symbols A.q v.k t) → message_in_reach A v (difference A laws u v keeps-u keeps-v same xs room) ≡ Some t → (answer : Bool × List ℕ) → SeekWays A laws u v keeps-u keeps-v same xs room t ht answer → Settles answer.0 answer.1
      by_ways t ht f answer ways =
          ⊎_elim
          (λ (w : (zs : List ℕ) × (answer ≡ answered true zs) × ((rs : List ℕ) × Hit A laws u v keeps-u keeps-v same xs room t ht rs zs)). subst (λ (p : Bool × List ℕ). Settles p.0 p.1) (sym w.1) (hit_mends keeps t ht w.2.0 w.0 w.2.1))
          (λ (w : (zs : List ℕ) × (answer ≡ answered false zs) × Far A laws u v keeps-u keeps-v same xs room t ht (half_a A u v xs room) × Far A laws u v keeps-u keeps-v same xs room t ht (right_less A laws u v keeps-u keeps-v same xs room t ht) × Kept A laws u v keeps-u keeps-v same xs room t ht zs).
          let kept = w.4 in
          subst (λ (p : Bool × List ℕ). Settles p.0 p.1) (sym w.1)
          (ap (λ (z : List ℕ). paired (refused 3 []) (cleared z (2 * u.n) (3 * u.n + u.w + v.w - 2 * u.n))) kept.is
          ∙ ap (paired (refused 3 [])) (cleared_held kept.e kept.l (right_part_lem A laws u v keeps-u keeps-v same xs room t ht) kept.long_e kept.long_l (long_right_part A laws u v keeps-u keeps-v same xs room t ht))
          ∙ sym (mended_none A (plotkin A u v) xs room (λ s reached. near_somewhere s reached t ht f w.2 w.3))))
          ways

      seeking : o ≡ accepted → (zs : List ℕ) (b : Bool) → answered b zs ≡ sought A u (halves_of u v) ys → Settles b zs
      seeking ok zs b is =
          let hit = mend_found (message_in_reach A v (difference A laws u v keeps-u keeps-v same xs room)) (sym outcome_is ∙ ok) in
          let t = hit.0 in
          let ht = (found_in_reach A v (difference A laws u v keeps-u keeps-v same xs room) t hit.1).message in
          let there : ys ≡ held A u v xs room (difference A laws u v keeps-u keeps-v same xs room) (old_l A laws u v keeps-u keeps-v same xs room) (right_part_lem A laws u v keeps-u keeps-v same xs room t ht) =
          memory ∙ ap (λ (x : Option (List ℕ)). held A u v xs room (difference A laws u v keeps-u keeps-v same xs room) (old_l A laws u v keeps-u keeps-v same xs room) (fresh v.w (mend_result v (difference A laws u v keeps-u keeps-v same xs room) x))) hit.1 in
          subst (λ (p : Bool × List ℕ). Settles p.0 p.1) (sym (is ∙ ap (sought A u (halves_of u v)) there))
          (by_ways t ht hit.1 (sought A u (halves_of u v) (held A u v xs room (difference A laws u v keeps-u keeps-v same xs room) (old_l A laws u v keeps-u keeps-v same xs room) (right_part_lem A laws u v keeps-u keeps-v same xs room t ht))) (seek A laws u v keeps-u keeps-v same xs room t ht (difference A laws u v keeps-u keeps-v same xs room) (old_l A laws u v keeps-u keeps-v same xs room) (long_difference A laws u v keeps-u keeps-v same xs room) (long_old_l A laws u v keeps-u keeps-v same xs room)))

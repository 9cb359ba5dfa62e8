-- The calls of a direct sum, way by way. Its parts work behind the word, U's working
-- memory first; V's part is called first, since U's working memory may lie over V's message. Assumes nothing.
use Rattle.std.proofs.Common.{◌≡◌, ℕ, ◌+◌, ◌-◌, ◌<◌, ◌≤◌, min, List, [], ◌++◌, length, take, drop, Some, None, Option, sym, ap, ◌∙◌, subst, ap₂, arith}
use Rattle.std.proofs.lemmas.List.{take-take, drop-take, take_at, drop_at, take-append-drop}
use Rattle.theory.specs.Alphabets.{Arithmetic, Lawful}
use Rattle.theory.specs.Calls.{Outcome, Answer, accepted, refused, first_mark, sent, mended}
use Rattle.theory.specs.Joins.{direct_sum}
use Rattle.theory.specs.Meanings.{Meaning, Keeps}
use Rattle.theory.specs.Memory.{over, part, settled, cleared, gathered}
use Rattle.theory.specs.Parts.{call_in_part}
use Rattle.theory.specs.Reach.{InReach, message_in_reach}
use Rattle.theory.specs.Words.{toll}
use Rattle.theory.proofs.Calls.{paired, sent_by_lem, mended_none, mended_reach}
use Rattle.theory.proofs.Overs.{length_part}
use Rattle.theory.proofs.PartCalls.{fresh, length_fresh, mend_result, mend_outcome, mend_result_long, mend_found, mended_result}
use Rattle.theory.proofs.Reach.{found_in_reach, in_reach_found}
use Rattle.theory.proofs.Reaches.{toll_append, sum_reaches_parts}
use Rattle.theory.proofs.Symbols.{symbols_take, symbols_append}
use Rattle.theory.proofs.TwoCalls.{take_fresh, of_u, of_v, sent_u, sent_v, long_sent_u, long_sent_v, parts_sent}
use Rattle.theory.proofs.TwoParts.{length_one, part_one, left_stands, right_stands, part_two, cleared_two, gathered_two}

module _ (A : Arithmetic) (laws : Lawful A) (u v : Meaning) (keeps-u : Keeps A u) (keeps-v : Keeps A v) (xs : List ℕ) (room : u.n + v.n + u.w + v.w ≤ length xs) where
  -- both parts accept, and their words gathered are what the sum sends
  pub sum_sends : first_mark A.q (take (u.k + v.k) xs) ≡ None → (o o' : Outcome) (ys zs : List ℕ) → paired o ys ≡ call_in_part (sent A v) u.k v.k (u.n + v.n + u.w) v.w xs → paired o' zs ≡ call_in_part (sent A u) 0 u.k (u.n + v.n) u.w ys → (o ≡ accepted) × (o' ≡ accepted) × (paired accepted (gathered zs (u.n + v.n) u.n (u.n + v.n + u.w) v.n (u.n + v.n + u.w + v.w)) ≡ sent A (direct_sum u v) xs)
  sum_sends none o o' ys zs right-call left-call =
      let both = parts_sent A u v keeps-u keeps-v (u.n + v.n) xs room none o o' ys zs right-call left-call in
      let hu = of_u A u v keeps-u keeps-v (u.n + v.n) xs room none in
      let hv = of_v A u v keeps-u keeps-v (u.n + v.n) xs room none in
      let left = sent_u A u v keeps-u keeps-v (u.n + v.n) xs room none in
      let right = sent_v A u v keeps-u keeps-v (u.n + v.n) xs room none in (
        both.0,
        both.1,
        ap (λ (z : List ℕ). paired accepted (gathered z (u.n + v.n) u.n (u.n + v.n + u.w) v.n (u.n + v.n + u.w + v.w))) both.2
            ∙ ap (paired accepted) (gathered_two xs (u.n + v.n) u.w v.w left right (long_sent_u A u v keeps-u keeps-v (u.n + v.n) xs room none) (long_sent_v A u v keeps-u keeps-v (u.n + v.n) xs room none) room u.n v.n keeps-u.room_for_word keeps-v.room_for_word)
            ∙ ap₂ (λ (a b : List ℕ). paired accepted (settled (u.n + v.n + u.w + v.w) (a ++ b) xs)) (take_fresh u.w u.n (u.word (part xs 0 u.k)) (keeps-u.words (part xs 0 u.k) hu).long) (take_fresh v.w v.n (v.word (part xs u.k v.k)) (keeps-v.words (part xs u.k v.k) hv).long)
            ∙ ap₂ (λ (a b : List ℕ). paired accepted (settled (u.n + v.n + u.w + v.w) (u.word a ++ v.word b) xs)) (sym (take-take u.k (u.k + v.k) xs (omega arith))) (sym (drop-take u.k v.k xs))
            ∙ sym (sent_by_lem A (direct_sum u v) xs room None none),
      )

  -- the received word in its two parts
  abbrev pub received_u : List ℕ
  received_u = part xs 0 u.n

  abbrev pub received_v : List ℕ
  received_v = part xs u.n v.n

  abbrev result_u : List ℕ
  result_u = mend_result u received_u (message_in_reach A u received_u)

  abbrev result_v : List ℕ
  result_v = mend_result v received_v (message_in_reach A v received_v)

  length_u : length received_u ≡ u.n
  length_u = length_part xs 0 u.n (omega arith)

  length_v : length received_v ≡ v.n
  length_v = length_part xs u.n v.n (omega arith)

  fresh_u : length (fresh u.w result_u) ≡ u.w
  fresh_u = length_fresh u.w result_u (omega (arith, mend_result_long A u keeps-u received_u length_u, keeps-u.room_for_word))

  fresh_v : length (fresh v.w result_v) ≡ v.w
  fresh_v = length_fresh v.w result_v (omega (arith, mend_result_long A v keeps-v received_v length_v, keeps-v.room_for_word))

  -- the memory after V's mend, and after both
  abbrev right_mended : List ℕ
  right_mended = over xs (u.n + v.n + u.w) (fresh v.w result_v)

  abbrev pub both_mended : List ℕ
  both_mended = over right_mended (u.n + v.n) (fresh u.w result_u)

  still_there : part right_mended 0 u.n ≡ received_u
  still_there = part_one xs (u.n + v.n) u.w v.w (fresh u.w result_u) (fresh v.w result_v) fresh_u fresh_v room 0 u.n (omega arith)

  as_long : length right_mended ≡ length xs
  as_long = length_one xs (u.n + v.n) u.w v.w (fresh u.w result_u) (fresh v.w result_v) fresh_u fresh_v room

  left_mends : call_in_part (mended A u) 0 u.n (u.n + v.n) u.w right_mended ≡ paired (mend_outcome (message_in_reach A u received_u)) both_mended
  left_mends =
      mended_result A u keeps-u 0 (u.n + v.n) right_mended (omega (arith, as_long)) (omega (arith, as_long))
      ∙ ap (λ (rs : List ℕ). paired (mend_outcome (message_in_reach A u rs)) (over right_mended (u.n + v.n) (fresh u.w (mend_result u rs (message_in_reach A u rs))))) still_there

  -- each part answers by its own reach, and their results stand behind the word
  pub sum_mends_parts : (o o' : Outcome) (ys zs : List ℕ) → paired o ys ≡ call_in_part (mended A v) u.n v.n (u.n + v.n + u.w) v.w xs → paired o' zs ≡ call_in_part (mended A u) 0 u.n (u.n + v.n) u.w ys → (o ≡ mend_outcome (message_in_reach A v received_v)) × (o' ≡ mend_outcome (message_in_reach A u received_u)) × (zs ≡ both_mended)
  sum_mends_parts o o' ys zs right-call left-call =
      let r = right-call ∙ mended_result A v keeps-v u.n (u.n + v.n + u.w) xs (omega arith) (omega arith) in
      let l = left-call ∙ ap (call_in_part (mended A u) 0 u.n (u.n + v.n) u.w) (ap (λ (p : Answer). p.1) r) ∙ left_mends in
      (ap (λ (p : Answer). p.0) r, ap (λ (p : Answer). p.0) l, ap (λ (p : Answer). p.1) l)

  halves : take (u.n + v.n) xs ≡ received_u ++ received_v
  halves =
      sym (take-append-drop u.n (take (u.n + v.n) xs))
      ∙ ap₂ (λ (a b : List ℕ). a ++ b) (take-take u.n (u.n + v.n) xs (omega arith)) (drop-take u.n v.n xs)

  -- of a message in reach both parts are found
  found_parts : (s : List ℕ) → InReach A (direct_sum u v) (take (u.n + v.n) xs) s → (message_in_reach A u received_u ≡ Some (take u.k s)) × (message_in_reach A v received_v ≡ Some (drop u.k s))
  found_parts s h =
      let p = sum_reaches_parts A laws u v keeps-u keeps-v received_u received_v s length_u (subst (λ (rs : List ℕ). InReach A (direct_sum u v) rs s) halves h) in
      (in_reach_found A u keeps-u received_u (take u.k s) length_u p.0, in_reach_found A v keeps-v received_v (drop u.k s) length_v p.1)

  -- where a part is refused, or the whole costs too much, no message is in reach
  pub none_by_left : (mend_outcome (message_in_reach A u received_u) ≡ accepted → ⊥) → (s : List ℕ) → InReach A (direct_sum u v) (take (u.n + v.n) xs) s → ⊥
  none_by_left refusal s h = refusal (ap mend_outcome (found_parts s h).0)

  pub none_by_right : (mend_outcome (message_in_reach A v received_v) ≡ accepted → ⊥) → (s : List ℕ) → InReach A (direct_sum u v) (take (u.n + v.n) xs) s → ⊥
  none_by_right refusal s h = refusal (ap mend_outcome (found_parts s h).1)

  pub none_by_toll : min u.d v.d ≤ toll A.q result_u received_u + toll A.q result_v received_v → (s : List ℕ) → InReach A (direct_sum u v) (take (u.n + v.n) xs) s → ⊥
  none_by_toll far s h =
      let f = found_parts s h in
      let hu = symbols_take A.q u.k v.k s h.message in
      let cost-u = ap (λ (o : Option (List ℕ)). toll A.q (mend_result u received_u o) received_u) f.0 in
      let cost-v = ap (λ (o : Option (List ℕ)). toll A.q (mend_result v received_v o) received_v) f.1 in
      let whole = ap (toll A.q (u.word (take u.k s) ++ v.word (drop u.k s))) halves ∙ toll_append A.q (u.word (take u.k s)) (v.word (drop u.k s)) received_u received_v ((keeps-u.words (take u.k s) hu).long ∙ sym length_u) in
      omega (arith, far, cost-u, cost-v, whole, h.near)

  -- refused: the received word stays, and the working memory is cleared
  pub sum_refuses : ((s : List ℕ) → InReach A (direct_sum u v) (take (u.n + v.n) xs) s → ⊥) → paired (refused 3 []) (cleared both_mended (u.n + v.n) (u.n + v.n + u.w + v.w - (u.n + v.n))) ≡ mended A (direct_sum u v) xs
  sum_refuses none =
      ap (paired (refused 3 [])) (cleared_two xs (u.n + v.n) u.w v.w (fresh u.w result_u) (fresh v.w result_v) fresh_u fresh_v room)
      ∙ sym (mended_none A (direct_sum u v) xs room none)

  -- accepted: the words of both parts, gathered
  pub sum_mends : Keeps A (direct_sum u v) → mend_outcome (message_in_reach A u received_u) ≡ accepted → mend_outcome (message_in_reach A v received_v) ≡ accepted → toll A.q result_u received_u + toll A.q result_v received_v < min u.d v.d → paired accepted (gathered both_mended (u.n + v.n) u.n (u.n + v.n + u.w) v.n (u.n + v.n + u.w + v.w)) ≡ mended A (direct_sum u v) xs
  sum_mends keeps accepted-u accepted-v near =
      go (mend_found (message_in_reach A u received_u) accepted-u) (mend_found (message_in_reach A v received_v) accepted-v)
    where
      go : (s : List ℕ) × (message_in_reach A u received_u ≡ Some s) → (t : List ℕ) × (message_in_reach A v received_v ≡ Some t) → paired accepted (gathered both_mended (u.n + v.n) u.n (u.n + v.n + u.w) v.n (u.n + v.n + u.w + v.w)) ≡ mended A (direct_sum u v) xs
      go f g =
          let s = f.0 in
          let t = g.0 in
          let hs = (found_in_reach A u received_u s f.1).message in
          let ht = (found_in_reach A v received_v t g.1).message in
          let word : (direct_sum u v).word (s ++ t) ≡ u.word s ++ v.word t =
          ap₂ (λ (a b : List ℕ). u.word a ++ v.word b) (take_at s t u.k hs.long) (drop_at s t u.k hs.long) in
          let is-u : result_u ≡ u.word s = ap (mend_result u received_u) f.1 in
          let is-v : result_v ≡ v.word t = ap (mend_result v received_v) g.1 in
          let cost = ap₂ (λ (w rs : List ℕ). toll A.q w rs) word halves ∙ toll_append A.q (u.word s) (v.word t) received_u received_v ((keeps-u.words s hs).long ∙ sym length_u) in
          let reached : InReach A (direct_sum u v) (take (u.n + v.n) xs) (s ++ t) =
          record { message = symbols_append A.q u.k v.k s t hs ht; near = omega (arith, near, cost, ap (λ (w : List ℕ). toll A.q w received_u) is-u, ap (λ (w : List ℕ). toll A.q w received_v) is-v) } in
          ap (paired accepted) (gathered_two xs (u.n + v.n) u.w v.w (fresh u.w result_u) (fresh v.w result_v) fresh_u fresh_v room u.n v.n keeps-u.room_for_word keeps-v.room_for_word)
          ∙ ap₂ (λ (a b : List ℕ). paired accepted (settled (u.n + v.n + u.w + v.w) (a ++ b) xs)) (take_fresh u.w u.n result_u (mend_result_long A u keeps-u received_u length_u) ∙ is-u) (take_fresh v.w v.n result_v (mend_result_long A v keeps-v received_v length_v) ∙ is-v)
          ∙ ap (λ (z : List ℕ). paired accepted (settled (u.n + v.n + u.w + v.w) z xs)) (sym word)
          ∙ sym (mended_reach A (direct_sum u v) xs keeps room (s ++ t) reached)

  -- what the tolls of both parts are counted on, where the results stand
  pub tolls_stand : toll A.q (part both_mended (u.n + v.n) u.n) (part both_mended 0 u.n) + toll A.q (part both_mended (u.n + v.n + u.w) v.n) (part both_mended u.n v.n) ≡ toll A.q result_u received_u + toll A.q result_v received_v
  tolls_stand =
      ap₂ (λ (a b : ℕ). a + b)
      (ap₂ (toll A.q) (left_stands xs (u.n + v.n) u.w v.w (fresh u.w result_u) (fresh v.w result_v) fresh_u fresh_v room u.n keeps-u.room_for_word ∙ take_fresh u.w u.n result_u (mend_result_long A u keeps-u received_u length_u)) (part_two xs (u.n + v.n) u.w v.w (fresh u.w result_u) (fresh v.w result_v) fresh_u fresh_v room 0 u.n (omega arith)))
      (ap₂ (toll A.q) (right_stands xs (u.n + v.n) u.w v.w (fresh u.w result_u) (fresh v.w result_v) fresh_u fresh_v room v.n keeps-v.room_for_word ∙ take_fresh v.w v.n result_v (mend_result_long A v keeps-v received_v length_v)) (part_two xs (u.n + v.n) u.w v.w (fresh u.w result_u) (fresh v.w result_v) fresh_u fresh_v room u.n v.n (omega arith)))

-- Two codes that work behind the first p bytes, U's working memory first; V is called first, since U's working memory may
-- lie over V's message. What both sends leave, and what both reads leave. Assumes nothing.
use Rattle.std.proofs.Common.{◌≡◌, ℕ, ◌+◌, ◌-◌, ◌<◌, ◌≤◌, List, length, take, replicate, None, sym, ap, ◌∙◌, subst, arith}
use Rattle.std.specs.List.{AllByRecursion as All}
use Rattle.std.proofs.ByRecursion.{All-take, All-drop}
use Rattle.std.proofs.lemmas.List.{take-take, drop-take, take_at}
use Rattle.theory.specs.Alphabets.{Arithmetic}
use Rattle.theory.specs.Calls.{Outcome, Answer, accepted, first_mark, sent, read_back}
use Rattle.theory.specs.Meanings.{Meaning, Keeps}
use Rattle.theory.specs.Memory.{over, part}
use Rattle.theory.specs.Parts.{call_in_part}
use Rattle.theory.specs.Reach.{message_of_word}
use Rattle.theory.specs.Words.{Symbols}
use Rattle.theory.proofs.Calls.{paired, symbols_from_no_mark}
use Rattle.theory.proofs.Overs.{length_part}
use Rattle.theory.proofs.PartCalls.{fresh, length_fresh, sent_in_part, read_result_of, read_outcome, read_result_fits, read_result}
use Rattle.theory.proofs.TwoParts.{length_one, part_one}

-- the first bytes of a fresh part are its result
pub take_fresh : (w n : ℕ) (result : List ℕ) → length result ≡ n → take n (fresh w result) ≡ result
take_fresh w n result e = take_at result (replicate (w - length result) 0) n e

module _ (A : Arithmetic) (u v : Meaning) (keeps-u : Keeps A u) (keeps-v : Keeps A v) (p : ℕ) (xs : List ℕ) (room : p + u.w + v.w ≤ length xs) where
  module _ (none : first_mark A.q (take (u.k + v.k) xs) ≡ None) where
    symbols : All (λ x. x < A.q) (take (u.k + v.k) xs)
    symbols = symbols_from_no_mark A.q (take (u.k + v.k) xs) none

    -- U's message and V's
    pub of_u : Symbols A.q u.k (part xs 0 u.k)
    of_u =
        record {
          long = length_part xs 0 u.k (omega (arith, keeps-u.room_for_message));
          each = subst (All (λ x. x < A.q)) (take-take u.k (u.k + v.k) xs (omega arith)) (All-take (λ x. x < A.q) u.k (take (u.k + v.k) xs) symbols);
        }

    pub of_v : Symbols A.q v.k (part xs u.k v.k)
    of_v =
        record {
          long = length_part xs u.k v.k (omega (arith, keeps-u.room_for_message, keeps-v.room_for_message));
          each = subst (All (λ x. x < A.q)) (drop-take u.k v.k xs) (All-drop (λ x. x < A.q) u.k (take (u.k + v.k) xs) symbols);
        }

    -- their words in their parts
    abbrev pub sent_u : List ℕ
    sent_u = fresh u.w (u.word (part xs 0 u.k))

    abbrev pub sent_v : List ℕ
    sent_v = fresh v.w (v.word (part xs u.k v.k))

    pub long_sent_u : length sent_u ≡ u.w
    long_sent_u = length_fresh u.w (u.word (part xs 0 u.k)) (omega (arith, (keeps-u.words (part xs 0 u.k) of_u).long, keeps-u.room_for_word))

    pub long_sent_v : length sent_v ≡ v.w
    long_sent_v = length_fresh v.w (v.word (part xs u.k v.k)) (omega (arith, (keeps-v.words (part xs u.k v.k) of_v).long, keeps-v.room_for_word))

    pub parts_sent : (o o' : Outcome) (ys zs : List ℕ) → paired o ys ≡ call_in_part (sent A v) u.k v.k (p + u.w) v.w xs → paired o' zs ≡ call_in_part (sent A u) 0 u.k p u.w ys → (o ≡ accepted) × (o' ≡ accepted) × (zs ≡ over (over xs (p + u.w) sent_v) p sent_u)
    parts_sent o o' ys zs right-call left-call =
        let r = right-call ∙ sent_in_part A v keeps-v u.k (p + u.w) xs (omega arith) (omega (arith, keeps-u.room_for_message, keeps-v.room_for_message)) of_v.each in
        let l = left-call ∙ ap (call_in_part (sent A u) 0 u.k p u.w) (ap (λ (a : Answer). a.1) r) ∙ left_answer in
        (ap (λ (a : Answer). a.0) r, ap (λ (a : Answer). a.0) l, ap (λ (a : Answer). a.1) l)
      where
        -- U's message is still there
        message_left : part (over xs (p + u.w) sent_v) 0 u.k ≡ part xs 0 u.k
        message_left = part_one xs p u.w v.w sent_u sent_v long_sent_u long_sent_v room 0 u.k (omega (arith, keeps-u.room_for_message))

        same_length : length (over xs (p + u.w) sent_v) ≡ length xs
        same_length = length_one xs p u.w v.w sent_u sent_v long_sent_u long_sent_v room

        left_answer : call_in_part (sent A u) 0 u.k p u.w (over xs (p + u.w) sent_v) ≡ paired accepted (over (over xs (p + u.w) sent_v) p sent_u)
        left_answer =
            sent_in_part A u keeps-u 0 p (over xs (p + u.w) sent_v) (omega (arith, same_length)) (omega (arith, same_length, keeps-u.room_for_message)) (subst (All (λ x. x < A.q)) (sym message_left) of_u.each)
            ∙ ap (λ (m : List ℕ). paired accepted (over (over xs (p + u.w) sent_v) p (fresh u.w (u.word m)))) message_left

  -- both read words that stand in the first p bytes
  module _ (from-u from-v : ℕ) (in_u : from-u + u.n ≤ p) (in_v : from-v + v.n ≤ p) where
    abbrev pub read_u : List ℕ
    read_u = fresh u.w (read_result_of (part xs from-u u.n) (message_of_word A u (part xs from-u u.n)))

    abbrev pub read_v : List ℕ
    read_v = fresh v.w (read_result_of (part xs from-v v.n) (message_of_word A v (part xs from-v v.n)))

    pub long_read_u : length read_u ≡ u.w
    long_read_u = length_fresh u.w (read_result_of (part xs from-u u.n) (message_of_word A u (part xs from-u u.n))) (read_result_fits A u keeps-u (part xs from-u u.n) (length_part xs from-u u.n (omega arith)))

    pub long_read_v : length read_v ≡ v.w
    long_read_v = length_fresh v.w (read_result_of (part xs from-v v.n) (message_of_word A v (part xs from-v v.n))) (read_result_fits A v keeps-v (part xs from-v v.n) (length_part xs from-v v.n (omega arith)))

    pub parts_read : (o o' : Outcome) (ys zs : List ℕ) → paired o ys ≡ call_in_part (read_back A v) from-v v.n (p + u.w) v.w xs → paired o' zs ≡ call_in_part (read_back A u) from-u u.n p u.w ys → (o ≡ read_outcome (message_of_word A v (part xs from-v v.n))) × (o' ≡ read_outcome (message_of_word A u (part xs from-u u.n))) × (zs ≡ over (over xs (p + u.w) read_v) p read_u)
    parts_read o o' ys zs right-call left-call =
        let r = right-call ∙ read_result A v keeps-v from-v (p + u.w) xs (omega arith) (omega arith) in
        let l = left-call ∙ ap (call_in_part (read_back A u) from-u u.n p u.w) (ap (λ (a : Answer). a.1) r) ∙ left_reads in
        (ap (λ (a : Answer). a.0) r, ap (λ (a : Answer). a.0) l, ap (λ (a : Answer). a.1) l)
      where
        as_long : length (over xs (p + u.w) read_v) ≡ length xs
        as_long = length_one xs p u.w v.w read_u read_v long_read_u long_read_v room

        still_there : part (over xs (p + u.w) read_v) from-u u.n ≡ part xs from-u u.n
        still_there = part_one xs p u.w v.w read_u read_v long_read_u long_read_v room from-u u.n (omega arith)

        left_reads : call_in_part (read_back A u) from-u u.n p u.w (over xs (p + u.w) read_v) ≡ paired (read_outcome (message_of_word A u (part xs from-u u.n))) (over (over xs (p + u.w) read_v) p read_u)
        left_reads =
            read_result A u keeps-u from-u p (over xs (p + u.w) read_v) (omega (arith, as_long)) (omega (arith, as_long))
            ∙ ap (λ (rs : List ℕ). paired (read_outcome (message_of_word A u rs)) (over (over xs (p + u.w) read_v) p (fresh u.w (read_result_of rs (message_of_word A u rs))))) still_there

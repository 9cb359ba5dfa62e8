-- A code that works in the w bytes behind the first n, given bytes of the front with a place put in; its result goes to the
-- front again, with a place less or whole, and zeros go behind it. Assumes nothing.
use Rattle.std.proofs.Common.{◌≡◌, ℕ, ◌+◌, ◌-◌, ◌<◌, ◌≤◌, List, [], ◌++◌, length, take, drop, replicate, Some, None, Option, sym, refl, ap, ◌∙◌, subst, ap₂, arith}
use Rattle.std.specs.List.{insert, remove, AllByRecursion as All}
use Rattle.std.proofs.lemmas.List.Edits.{length-insert, length-remove}
use Rattle.std.proofs.lemmas.List.{take_at, take_all, length-take-le}
use Rattle.std.proofs.lemmas.Bool.{le-leb}
use Rattle.theory.specs.Alphabets.{Arithmetic}
use Rattle.theory.specs.Calls.{Outcome, Answer, accepted, sent, mended, read_back}
use Rattle.theory.specs.Gaps.{widened, narrowed_to_front}
use Rattle.theory.specs.Meanings.{Meaning, Keeps}
use Rattle.theory.specs.Memory.{over, part, settled, cleared, moved}
use Rattle.theory.specs.Parts.{call_in_part}
use Rattle.theory.specs.Reach.{message_in_reach, message_of_word}
use Rattle.theory.specs.Words.{Symbols}
use Rattle.theory.proofs.Calls.{paired}
use Rattle.theory.proofs.GapWrites.{widened_there, narrowed_there, narrowed_to_front_lem}
use Rattle.theory.proofs.Memory.{moved_there, cleared_there, settled_over}
use Rattle.theory.proofs.Overs.{length_over, take_over_below, drop_over_above, part_over, part_below, over_again}
use Rattle.theory.proofs.PartCalls.{fresh, length_fresh, sent_in_part, mend_result, mend_outcome, mend_result_long, mended_result, read_result_of, read_outcome, read_result_fits, read_result}
use Rattle.theory.proofs.Reach.{own_word_found}
use Rattle.theory.proofs.Sizes.{Sizes, sizes_of}
use Rattle.theory.proofs.TwoCalls.{take_fresh}
use Rattle.theory.proofs.Trips.{not_accepted}

-- what is left in memory: the received word of a place less, or the word below without a place
abbrev pub left_found : Sizes → List ℕ → List ℕ
left_found z ys = cleared ys (z.n - 1) (z.w + z.n - (z.n - 1))

abbrev pub left_word : Sizes → ℕ → List ℕ → List ℕ
left_word z p ys = narrowed_to_front ys z.n z.n p (z.w + z.n)

-- zeros behind what was written in front settle it
front_settled : (xs r : List ℕ) (end : ℕ) → length r ≤ end → end ≤ length xs → cleared (over xs 0 r) (length r) (end - length r) ≡ settled end r xs
front_settled xs r end small room =
    let same : length (over xs 0 r) ≡ length xs = length_over xs 0 r (omega arith) in
    cleared_there (over xs 0 r) (length r) (end - length r) (le-leb (length r + (end - length r)) (length (over xs 0 r)) (omega arith))
    ∙ settled_over end (length r) (over xs 0 r) small (omega arith)
    ∙ ap₂ (λ (f z : List ℕ). f ++ (replicate (end - length f) 0 ++ z)) (take_at r (drop (0 + length r) xs) (length r) refl) (drop_over_above xs 0 r (omega arith) end (omega arith))

-- a result in front of the part behind the first n bytes
module _ (n w : ℕ) (xs : List ℕ) (room : w + n ≤ length xs) (result : List ℕ) (fits : length result ≤ w) where
  abbrev behind : List ℕ
  behind = over xs n (fresh w result)

  inside : n + length (fresh w result) ≤ length xs
  inside = omega (arith, length_fresh w result fits)

  length_behind : length behind ≡ length xs
  length_behind = length_over xs n (fresh w result) inside

  beyond : drop (w + n) behind ≡ drop (w + n) xs
  beyond = drop_over_above xs n (fresh w result) inside (w + n) (omega (arith, length_fresh w result fits))

  result_stands : (c : ℕ) → length result ≡ c → part behind n c ≡ result
  result_stands c e =
      part_over xs n (fresh w result) inside c (omega (arith, length_fresh w result fits)) ∙ take_fresh w c result e

  front_stands : (c : ℕ) → c ≤ n → part behind 0 c ≡ take c xs
  front_stands c h = part_below xs n (fresh w result) inside 0 c (omega arith)

  to_front : (r : List ℕ) (c : ℕ) → length r ≡ c → c ≤ w → cleared (over behind 0 r) c (w + n - c) ≡ settled (w + n) r xs
  to_front r c e small =
      ap (λ (k : ℕ). cleared (over behind 0 r) k (w + n - k)) (sym e)
      ∙ front_settled behind r (w + n) (omega arith) (omega (arith, length_behind))
      ∙ ap (λ (z : List ℕ). r ++ (replicate (w + n - length r) 0 ++ z)) beyond

  -- without a place
  narrowed_settled : (c p : ℕ) → length result ≡ c → p < c → narrowed_to_front behind n c p (w + n) ≡ settled (w + n) (remove result p) xs
  narrowed_settled c p e l =
      sym (narrowed_to_front_lem behind n c p (w + n) l (omega arith))
      ∙ ap (λ (z : List ℕ). cleared z (c - 1) (w + n - (c - 1))) (narrowed_there behind n c p 0 l (omega arith) (omega (arith, length_behind)) ∙ ap (λ (z : List ℕ). over behind 0 (remove z p)) (result_stands c e))
      ∙ to_front (remove result p) (c - 1) (omega (arith, length-remove result p (omega arith))) (omega arith)

  -- whole
  moved_settled : (c : ℕ) → length result ≡ c → cleared (moved behind n c 0) c (w + n - c) ≡ settled (w + n) result xs
  moved_settled c e =
      ap (λ (z : List ℕ). cleared z c (w + n - c)) (moved_there behind n c 0 (le-leb (n + c) (length behind) (omega (arith, length_behind))) (le-leb (0 + c) (length behind) (omega (arith, length_behind))) ∙ ap (over behind 0) (result_stands c e))
      ∙ to_front result c e (omega arith)

  -- or not at all: what was found stays in front
  found_settled : (c : ℕ) → c ≤ n → cleared behind c (w + n - c) ≡ settled (w + n) (take c xs) xs
  found_settled c h =
      cleared_there behind c (w + n - c) (le-leb (c + (w + n - c)) (length behind) (omega (arith, length_behind)))
      ∙ settled_over (w + n) c behind (omega arith) (omega (arith, length_behind))
      ∙ ap₂ (λ (f z : List ℕ). f ++ (replicate (w + n - length f) 0 ++ z)) (take_over_below xs n (fresh w result) inside c h) beyond

-- c bytes in front of the part behind the first n: those of the front with a value put in
module _ (n w : ℕ) (xs : List ℕ) (room : w + n ≤ length xs) (c p v : ℕ) (place : p < c) (small : c ≤ w) where
  abbrev put : List ℕ
  put = insert (take (c - 1) xs) p v

  put_long : length put ≡ c
  put_long =
      let front = length-take-le (c - 1) xs (omega arith) in
      omega (arith, front, length-insert (take (c - 1) xs) p v (omega (arith, front)))

  written_is : widened xs 0 (c - 1) p v n ≡ over xs n put
  written_is = widened_there xs 0 (c - 1) p v n (omega arith) (omega arith) (omega arith)

  put_in : n + length put ≤ length xs
  put_in = omega (arith, put_long)

  length_written : length (widened xs 0 (c - 1) p v n) ≡ length xs
  length_written = ap length written_is ∙ length_over xs n put put_in

  put_stands : part (widened xs 0 (c - 1) p v n) n c ≡ put
  put_stands =
      ap (λ (z : List ℕ). part z n c) written_is ∙ part_over xs n put put_in c (omega (arith, put_long)) ∙ take_all c put (omega (arith, put_long))

  written_again : (zs : List ℕ) → length zs ≡ w → over (widened xs 0 (c - 1) p v n) n zs ≡ over xs n zs
  written_again zs e = ap (λ (z : List ℕ). over z n zs) written_is ∙ over_again xs n put zs (omega arith) (omega (arith, put_long))

module _ (A : Arithmetic) (m : Meaning) (keeps : Keeps A m) (xs : List ℕ) (room : m.w + m.n ≤ length xs) (p v : ℕ) where
  -- mend and read of the received word with a value put in
  module _ (place : p < m.n) where
    abbrev word_put : List ℕ
    word_put = insert (take (m.n - 1) xs) p v

    pub word_put_long : length word_put ≡ m.n
    word_put_long = put_long m.n m.w xs room m.n p v place keeps.room_for_word

    word_written : length (widened xs 0 (m.n - 1) p v m.n) ≡ length xs
    word_written = length_written m.n m.w xs room m.n p v place keeps.room_for_word

    mended_behind : call_in_part (mended A m) m.n m.n m.n m.w (widened xs 0 (m.n - 1) p v m.n) ≡ paired (mend_outcome (message_in_reach A m word_put)) (over xs m.n (fresh m.w (mend_result m word_put (message_in_reach A m word_put))))
    mended_behind =
        mended_result A m keeps m.n m.n (widened xs 0 (m.n - 1) p v m.n) (omega (arith, word_written)) (omega (arith, word_written, keeps.room_for_word))
        ∙ ap (λ (rs : List ℕ). paired (mend_outcome (message_in_reach A m rs)) (over (widened xs 0 (m.n - 1) p v m.n) m.n (fresh m.w (mend_result m rs (message_in_reach A m rs))))) (put_stands m.n m.w xs room m.n p v place keeps.room_for_word)
        ∙ ap (paired (mend_outcome (message_in_reach A m word_put))) (written_again m.n m.w xs room m.n p v place keeps.room_for_word (fresh m.w (mend_result m word_put (message_in_reach A m word_put))) (length_fresh m.w (mend_result m word_put (message_in_reach A m word_put)) (omega (arith, mend_result_long A m keeps word_put word_put_long, keeps.room_for_word))))

    read_behind : call_in_part (read_back A m) m.n m.n m.n m.w (widened xs 0 (m.n - 1) p v m.n) ≡ paired (read_outcome (message_of_word A m word_put)) (over xs m.n (fresh m.w (read_result_of word_put (message_of_word A m word_put))))
    read_behind =
        read_result A m keeps m.n m.n (widened xs 0 (m.n - 1) p v m.n) (omega (arith, word_written)) (omega (arith, word_written, keeps.room_for_word))
        ∙ ap (λ (rs : List ℕ). paired (read_outcome (message_of_word A m rs)) (over (widened xs 0 (m.n - 1) p v m.n) m.n (fresh m.w (read_result_of rs (message_of_word A m rs))))) (put_stands m.n m.w xs room m.n p v place keeps.room_for_word)
        ∙ ap (paired (read_outcome (message_of_word A m word_put))) (written_again m.n m.w xs room m.n p v place keeps.room_for_word (fresh m.w (read_result_of word_put (message_of_word A m word_put))) (length_fresh m.w (read_result_of word_put (message_of_word A m word_put)) (read_result_fits A m keeps word_put word_put_long)))

    -- the mend below: whether a message was found, and what stands behind
    module _ (o : Outcome) (ys : List ℕ) (call : paired o ys ≡ call_in_part (mended A m) m.n m.n m.n m.w (widened xs 0 (m.n - 1) p v m.n)) where
      mend_is : o ≡ mend_outcome (message_in_reach A m word_put)
      mend_is = ap (λ (a : Answer). a.0) (call ∙ mended_behind)

      mended_memory : ys ≡ over xs m.n (fresh m.w (mend_result m word_put (message_in_reach A m word_put)))
      mended_memory = ap (λ (a : Answer). a.1) (call ∙ mended_behind)

      pub found_below : o ≡ accepted → (s : List ℕ) × (message_in_reach A m word_put ≡ Some s)
      found_below a = go (message_in_reach A m word_put) refl
        where
          go : (x : Option (List ℕ)) → message_in_reach A m word_put ≡ x → (s : List ℕ) × (message_in_reach A m word_put ≡ Some s)
          go None e = absurd (not_accepted 3 [] (sym (mend_is ∙ ap mend_outcome e) ∙ a))
          go (Some s) e = (s, e)

      pub none_below : (o ≡ accepted → ⊥) → message_in_reach A m word_put ≡ None
      none_below refusal = go (message_in_reach A m word_put) refl
        where
          go : (x : Option (List ℕ)) → message_in_reach A m word_put ≡ x → message_in_reach A m word_put ≡ None
          go None e = e
          go (Some s) e = absurd (refusal (mend_is ∙ ap mend_outcome e))

      pub memory_found : (s : List ℕ) → message_in_reach A m word_put ≡ Some s → ys ≡ over xs m.n (fresh m.w (m.word s))
      memory_found s e = mended_memory ∙ ap (λ (x : Option (List ℕ)). over xs m.n (fresh m.w (mend_result m word_put x))) e

      pub found_left : left_found (sizes_of m) ys ≡ settled (m.w + m.n) (take (m.n - 1) xs) xs
      found_left =
          ap (left_found (sizes_of m)) mended_memory
          ∙ found_settled m.n m.w xs room (mend_result m word_put (message_in_reach A m word_put)) (omega (arith, mend_result_long A m keeps word_put word_put_long, keeps.room_for_word)) (m.n - 1) (omega arith)

    -- the read below likewise
    module _ (o : Outcome) (ys : List ℕ) (call : paired o ys ≡ call_in_part (read_back A m) m.n m.n m.n m.w (widened xs 0 (m.n - 1) p v m.n)) where
      read_is : o ≡ read_outcome (message_of_word A m word_put)
      read_is = ap (λ (a : Answer). a.0) (call ∙ read_behind)

      read_memory : ys ≡ over xs m.n (fresh m.w (read_result_of word_put (message_of_word A m word_put)))
      read_memory = ap (λ (a : Answer). a.1) (call ∙ read_behind)

      pub read_below : o ≡ accepted → (s : List ℕ) × (message_of_word A m word_put ≡ Some s)
      read_below a = go (message_of_word A m word_put) refl
        where
          go : (x : Option (List ℕ)) → message_of_word A m word_put ≡ x → (s : List ℕ) × (message_of_word A m word_put ≡ Some s)
          go None e = absurd (not_accepted 4 [] (sym (read_is ∙ ap read_outcome e) ∙ a))
          go (Some s) e = (s, e)

      pub no_word_below : (o ≡ accepted → ⊥) → message_of_word A m word_put ≡ None
      no_word_below refusal = go (message_of_word A m word_put) refl
        where
          go : (x : Option (List ℕ)) → message_of_word A m word_put ≡ x → message_of_word A m word_put ≡ None
          go None e = e
          go (Some s) e = absurd (refusal (read_is ∙ ap read_outcome e))

      pub message_read : (s : List ℕ) → message_of_word A m word_put ≡ Some s → ys ≡ over xs m.n (fresh m.w s)
      message_read s e = read_memory ∙ ap (λ (x : Option (List ℕ)). over xs m.n (fresh m.w (read_result_of word_put x))) e

      pub unread_left : left_found (sizes_of m) ys ≡ settled (m.w + m.n) (take (m.n - 1) xs) xs
      unread_left =
          ap (left_found (sizes_of m)) read_memory
          ∙ found_settled m.n m.w xs room (read_result_of word_put (message_of_word A m word_put)) (read_result_fits A m keeps word_put word_put_long) (m.n - 1) (omega arith)

  -- send of the message with a value put in
  pub sent_behind : p < m.k → Symbols A.q m.k (insert (take (m.k - 1) xs) p v) → call_in_part (sent A m) m.n m.k m.n m.w (widened xs 0 (m.k - 1) p v m.n) ≡ paired accepted (over xs m.n (fresh m.w (m.word (insert (take (m.k - 1) xs) p v))))
  sent_behind place message =
      let message-put = insert (take (m.k - 1) xs) p v in
      let stands = put_stands m.n m.w xs room m.k p v place keeps.room_for_message in
      let written = length_written m.n m.w xs room m.k p v place keeps.room_for_message in
      sent_in_part A m keeps m.n m.n (widened xs 0 (m.k - 1) p v m.n) (omega (arith, written)) (omega (arith, written, keeps.room_for_message)) (subst (All (λ x. x < A.q)) (sym stands) message.each)
      ∙ ap (λ (s : List ℕ). paired accepted (over (widened xs 0 (m.k - 1) p v m.n) m.n (fresh m.w (m.word s)))) stands
      ∙ ap (paired accepted) (written_again m.n m.w xs room m.k p v place keeps.room_for_message (fresh m.w (m.word message-put)) (length_fresh m.w (m.word message-put) (omega (arith, (keeps.words message-put message).long, keeps.room_for_word))))

-- a word of the code below, behind the first n bytes
module _ (A : Arithmetic) (m : Meaning) (keeps : Keeps A m) (xs : List ℕ) (room : m.w + m.n ≤ length xs) (s : List ℕ) (symbols : Symbols A.q m.k s) where
  word_fits : length (m.word s) ≤ m.w
  word_fits = omega (arith, (keeps.words s symbols).long, keeps.room_for_word)

  pub word_stands : part (over xs m.n (fresh m.w (m.word s))) m.n m.n ≡ m.word s
  word_stands = result_stands m.n m.w xs room (m.word s) word_fits m.n (keeps.words s symbols).long

  pub received_stands : part (over xs m.n (fresh m.w (m.word s))) 0 (m.n - 1) ≡ take (m.n - 1) xs
  received_stands = front_stands m.n m.w xs room (m.word s) word_fits (m.n - 1) (omega arith)

  pub word_left : (p : ℕ) → p < m.n → left_word (sizes_of m) p (over xs m.n (fresh m.w (m.word s))) ≡ settled (m.w + m.n) (remove (m.word s) p) xs
  word_left p place = narrowed_settled m.n m.w xs room (m.word s) word_fits m.n p (keeps.words s symbols).long place

  message_fits : length s ≤ m.w
  message_fits = omega (arith, symbols.long, keeps.room_for_message)

  -- read again where it stands, its message is there in its place
  pub word_read : call_in_part (read_back A m) m.n m.n m.n m.w (over xs m.n (fresh m.w (m.word s))) ≡ paired accepted (over xs m.n (fresh m.w s))
  word_read =
      let memory = over xs m.n (fresh m.w (m.word s)) in
      let long = length_behind m.n m.w xs room (m.word s) word_fits in
      let length-word = length_fresh m.w (m.word s) word_fits in
      let length-message = length_fresh m.w s message_fits in
      read_result A m keeps m.n m.n memory (omega (arith, long)) (omega (arith, long, keeps.room_for_word))
      ∙ ap (λ (rs : List ℕ). paired (read_outcome (message_of_word A m rs)) (over memory m.n (fresh m.w (read_result_of rs (message_of_word A m rs))))) word_stands
      ∙ ap (λ (x : Option (List ℕ)). paired (read_outcome x) (over memory m.n (fresh m.w (read_result_of (m.word s) x)))) (own_word_found A m keeps s symbols)
      ∙ ap (paired accepted) (over_again xs m.n (fresh m.w (m.word s)) (fresh m.w s) (omega arith) (omega arith))

  -- the message goes to the front, whole or without a place
  pub message_left : cleared (moved (over xs m.n (fresh m.w s)) m.n m.k 0) m.k (m.w + m.n - m.k) ≡ settled (m.w + m.n) s xs
  message_left = moved_settled m.n m.w xs room s message_fits m.k symbols.long

  pub message_narrowed : (j : ℕ) → j < m.k → narrowed_to_front (over xs m.n (fresh m.w s)) m.n m.k j (m.w + m.n) ≡ settled (m.w + m.n) (remove s j) xs
  message_narrowed j place = narrowed_settled m.n m.w xs room s message_fits m.k j symbols.long place

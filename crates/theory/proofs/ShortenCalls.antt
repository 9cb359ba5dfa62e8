-- The calls of a shortened code, way by way. The code below works behind the first n bytes. Assumes nothing.
use Rattle.std.proofs.Common.{◌≡◌, ℕ, ◌+◌, ◌-◌, ◌<◌, ◌≤◌, List, [], length, get_or, take, drop, Some, None, sym, ap, ◌∙◌, subst, ap₂, arith}
use Rattle.std.specs.List.{insert, remove}
use Rattle.std.proofs.lemmas.List.Edits.{get_or-insert_at}
use Rattle.std.proofs.lemmas.List.{length-take-le, get_or-take, get_or-drop}
use Rattle.theory.specs.Alphabets.{Arithmetic, Lawful}
use Rattle.theory.specs.Calls.{Outcome, Answer, accepted, refused, first_mark, sent, mended, read_back}
use Rattle.theory.specs.Gaps.{widened, narrowed_to_front}
use Rattle.theory.specs.Joins.{shorten}
use Rattle.theory.specs.Meanings.{Meaning, Keeps}
use Rattle.theory.specs.Memory.{over, settled}
use Rattle.theory.specs.Parts.{call_in_part}
use Rattle.theory.specs.Reach.{InReach, message_in_reach, message_of_word}
use Rattle.theory.specs.Words.{Symbols}
use Rattle.theory.proofs.Calls.{paired, symbols_from_no_mark, sent_by_lem, mended_none, mended_reach, read_word, read_none}
use Rattle.theory.proofs.GapCalls.{left_found, left_word, word_put_long, found_below, none_below, memory_found, found_left, read_below, no_word_below, message_read, unread_left, sent_behind, word_stands, word_left, message_narrowed}
use Rattle.theory.proofs.Gaps.{removed_symbols, removed_inserted, inserted_removed}
use Rattle.theory.proofs.PartCalls.{fresh}
use Rattle.theory.proofs.Reach.{found_in_reach, none_in_reach, at_most_one_in_reach, read_is_word, none_has_word}
use Rattle.theory.proofs.Shorten.{whole, lost_within, lost_zero, shorten_reaches_below, below_reaches_shorten}
use Rattle.theory.proofs.Sizes.{Sizes, sizes_of}

-- the message below, without a place, is left in front
abbrev pub left_message : Sizes → ℕ → List ℕ → List ℕ
left_message z j ys = narrowed_to_front ys z.n z.k j (z.w + z.n)

module _ (A : Arithmetic) (j t : ℕ) (m : Meaning) where
  abbrev pub ShortenSends : Sizes → Type 0
  ShortenSends z =
      (xs : List ℕ) → z.w + z.n ≤ length xs → first_mark A.q (take (z.k - 1) xs) ≡ None → (o : Outcome) (ys : List ℕ)
      → paired o ys ≡ call_in_part (sent A m) z.n z.k z.n z.w (widened xs 0 (z.k - 1) j 0 z.n) → (o ≡ accepted) × (paired accepted (left_word z t ys) ≡ sent A (shorten j t m) xs)

  -- the ways of a mend once the code below was asked
  pub record ShortenMendWays (z : Sizes) (xs : List ℕ) (o : Outcome) (ys : List ℕ) : Type 0 where
    pub none : (o ≡ accepted → ⊥) → paired (refused 3 []) (left_found z ys) ≡ mended A (shorten j t m) xs
    pub other : o ≡ accepted → (get_or ys (z.n + t) 0 ≡ 0 → ⊥) → paired (refused 3 []) (left_found z ys) ≡ mended A (shorten j t m) xs
    pub found : o ≡ accepted → get_or ys (z.n + t) 0 ≡ 0 → paired accepted (left_word z t ys) ≡ mended A (shorten j t m) xs

  abbrev pub ShortenMends : Sizes → Type 0
  ShortenMends z =
      (xs : List ℕ) → z.w + z.n ≤ length xs → (o : Outcome) (ys : List ℕ)
      → paired o ys ≡ call_in_part (mended A m) z.n z.n z.n z.w (widened xs 0 (z.n - 1) t 0 z.n) → ShortenMendWays z xs o ys

  -- the ways of a read once the code below was asked
  pub record ShortenReadWays (z : Sizes) (xs : List ℕ) (o : Outcome) (ys : List ℕ) : Type 0 where
    pub none : (o ≡ accepted → ⊥) → paired (refused 4 []) (left_found z ys) ≡ read_back A (shorten j t m) xs
    pub word : o ≡ accepted → paired accepted (left_message z j ys) ≡ read_back A (shorten j t m) xs

  abbrev pub ShortenReads : Sizes → Type 0
  ShortenReads z =
      (xs : List ℕ) → z.w + z.n ≤ length xs → (o : Outcome) (ys : List ℕ)
      → paired o ys ≡ call_in_part (read_back A m) z.n z.n z.n z.w (widened xs 0 (z.n - 1) t 0 z.n) → ShortenReadWays z xs o ys

module _ (A : Arithmetic) (laws : Lawful A) (j t : ℕ) (m : Meaning) (keeps : Keeps A m) (place : j < m.k) (enough : 2 ≤ m.k) (carrier-is : m.carrier j ≡ Some t) (shortened : Keeps A (shorten j t m)) where
  lost : t < m.n
  lost = lost_within A laws j t m keeps place enough carrier-is

  -- a message with a 0 at j is one of the shortened code with that 0 put in
  module _ (s : List ℕ) (symbols : Symbols A.q m.k s) (zero : get_or s j 0 ≡ 0) where
    put_back : insert (remove s j) j 0 ≡ s
    put_back = ap (insert (remove s j) j) (sym zero) ∙ inserted_removed s j (omega (arith, symbols.long))

    word_is : (shorten j t m).word (remove s j) ≡ remove (m.word s) t
    word_is = ap (λ (x : List ℕ). remove (m.word x) t) put_back

  module _ (xs : List ℕ) (room : m.w + m.n ≤ length xs) where
    abbrev received : List ℕ
    received = take (m.n - 1) xs

    abbrev with_zero : List ℕ
    with_zero = insert received t 0

    received_long : length received ≡ m.n - 1
    received_long = length-take-le (m.n - 1) xs (omega arith)

    with_zero_long : length with_zero ≡ m.n
    with_zero_long = word_put_long A m keeps xs room t 0 lost

    module _ (none : first_mark A.q (take (m.k - 1) xs) ≡ None) where
      message : Symbols A.q m.k (insert (take (m.k - 1) xs) j 0)
      message =
          whole A laws j t m keeps place enough carrier-is (take (m.k - 1) xs)
          (record { long = length-take-le (m.k - 1) xs (omega (arith, keeps.room_for_message)); each = symbols_from_no_mark A.q (take (m.k - 1) xs) none })

      sends_at : (o : Outcome) (ys : List ℕ) → paired o ys ≡ call_in_part (sent A m) m.n m.k m.n m.w (widened xs 0 (m.k - 1) j 0 m.n) → (o ≡ accepted) × (paired accepted (left_word (sizes_of m) t ys) ≡ sent A (shorten j t m) xs)
      sends_at o ys call =
          let r = call ∙ sent_behind A m keeps xs room j 0 place message in
          (ap (λ (a : Answer). a.0) r, ap (λ (a : Answer). paired accepted (left_word (sizes_of m) t a.1)) r ∙ ap (paired accepted) (word_left A m keeps xs room (insert (take (m.k - 1) xs) j 0) message t lost) ∙ sym (sent_by_lem A (shorten j t m) xs room None none))

    -- mend
    module _ (o : Outcome) (ys : List ℕ) (call : paired o ys ≡ call_in_part (mended A m) m.n m.n m.n m.w (widened xs 0 (m.n - 1) t 0 m.n)) where
      mends_none : ((s : List ℕ) → InReach A (shorten j t m) received s → ⊥) → paired (refused 3 []) (left_found (sizes_of m) ys) ≡ mended A (shorten j t m) xs
      mends_none none =
          ap (paired (refused 3 [])) (found_left A m keeps xs room t 0 lost o ys call) ∙ sym (mended_none A (shorten j t m) xs room none)

      reached_below : (s : List ℕ) → InReach A (shorten j t m) received s → InReach A m with_zero (insert s j 0)
      reached_below s h = shorten_reaches_below A laws j t m keeps place enough carrier-is received s received_long h

      module _ (s : List ℕ) (found : message_in_reach A m with_zero ≡ Some s) where
        reach : InReach A m with_zero s
        reach = found_in_reach A m with_zero s found

        memory : ys ≡ over xs m.n (fresh m.w (m.word s))
        memory = memory_found A m keeps xs room t 0 lost o ys call s found

        -- the byte that is tested is the symbol at j
        tested : get_or ys (m.n + t) 0 ≡ get_or s j 0
        tested =
            ap (λ (z : List ℕ). get_or z (m.n + t) 0) memory
            ∙ sym (get_or-drop m.n (over xs m.n (fresh m.w (m.word s))) t 0) ∙ sym (get_or-take m.n (drop m.n (over xs m.n (fresh m.w (m.word s)))) t 0 lost)
            ∙ ap (λ (z : List ℕ). get_or z t 0) (word_stands A m keeps xs room s reach.message)
            ∙ keeps.carries j t carrier-is s reach.message

        -- with another symbol than 0 there no message is in reach, since none but this one is in reach below
        out_of_reach : (get_or s j 0 ≡ 0 → ⊥) → (u : List ℕ) → InReach A (shorten j t m) received u → ⊥
        out_of_reach other u h =
            let is = at_most_one_in_reach A m keeps with_zero s (insert u j 0) with_zero_long reach (reached_below u h) in
            other (ap (λ (x : List ℕ). get_or x j 0) is ∙ get_or-insert_at u j 0 0 (omega (arith, h.message.long)))

        mends_found : get_or s j 0 ≡ 0 → paired accepted (left_word (sizes_of m) t ys) ≡ mended A (shorten j t m) xs
        mends_found zero =
            ap (λ (z : List ℕ). paired accepted (left_word (sizes_of m) t z)) memory ∙ ap (paired accepted) (word_left A m keeps xs room s reach.message t lost)
            ∙ ap (λ (x : List ℕ). paired accepted (settled (m.w + m.n) x xs)) (sym (word_is s reach.message zero))
            ∙ sym (mended_reach A (shorten j t m) xs shortened room (remove s j) (below_reaches_shorten A laws j t m keeps place enough carrier-is received s received_long reach zero))

      one_reached : o ≡ accepted → (s : List ℕ) × (message_in_reach A m with_zero ≡ Some s)
      one_reached = found_below A m keeps xs room t 0 lost o ys call

      mends_at : ShortenMendWays A j t m (sizes_of m) xs o ys
      mends_at =
          record {
            none = λ h. mends_none (λ s r. none_in_reach A m with_zero (none_below A m keeps xs room t 0 lost o ys call h) (insert s j 0) (reached_below s r));
            other = λ a h. let f = one_reached a in mends_none (out_of_reach f.0 f.1 (λ e. h (tested f.0 f.1 ∙ e)));
            found = λ a h. let f = one_reached a in mends_found f.0 f.1 (sym (tested f.0 f.1) ∙ h);
          }

    -- read
    module _ (o : Outcome) (ys : List ℕ) (call : paired o ys ≡ call_in_part (read_back A m) m.n m.n m.n m.w (widened xs 0 (m.n - 1) t 0 m.n)) where
      -- a word of the shortened code is one of the code below with the 0 put in
      word_below : (s : List ℕ) → Symbols A.q (m.k - 1) s → (shorten j t m).word s ≡ received → m.word (insert s j 0) ≡ with_zero
      word_below s h e =
          let long = (keeps.words (insert s j 0) (whole A laws j t m keeps place enough carrier-is s h)).long in
          sym (inserted_removed (m.word (insert s j 0)) t (omega (arith, lost)))
          ∙ ap₂ (λ (x : List ℕ) (y : ℕ). insert x t y) e (lost_zero A laws j t m keeps place enough carrier-is s h)

      reads_word : (s : List ℕ) → message_of_word A m with_zero ≡ Some s → paired accepted (left_message (sizes_of m) j ys) ≡ read_back A (shorten j t m) xs
      reads_word s found =
          let is = read_is_word A m with_zero s found in
          let symbols = is.0 in
          let zero : get_or s j 0 ≡ 0 =
          sym (keeps.carries j t carrier-is s symbols) ∙ ap (λ (x : List ℕ). get_or x t 0) is.1 ∙ get_or-insert_at received t 0 0 (omega (arith, lost, received_long)) in
          let word : (shorten j t m).word (remove s j) ≡ received =
          word_is s symbols zero ∙ ap (λ (x : List ℕ). remove x t) is.1 ∙ removed_inserted received t 0 (omega (arith, lost, received_long)) in
          ap (λ (z : List ℕ). paired accepted (left_message (sizes_of m) j z)) (message_read A m keeps xs room t 0 lost o ys call s found)
          ∙ ap (paired accepted) (message_narrowed A m keeps xs room s symbols j place)
          ∙ sym (read_word A (shorten j t m) xs shortened room (remove s j) (removed_symbols A.q m.k j s place symbols) word)

      reads_at : ShortenReadWays A j t m (sizes_of m) xs o ys
      reads_at =
          record {
            none = λ h.
                ap (paired (refused 4 [])) (unread_left A m keeps xs room t 0 lost o ys call)
                ∙ sym (read_none A (shorten j t m) xs room (λ s hs e. none_has_word A m with_zero (no_word_below A m keeps xs room t 0 lost o ys call h) (insert s j 0) (whole A laws j t m keeps place enough carrier-is s hs) (word_below s hs e)));
            word = λ a. let f = read_below A m keeps xs room t 0 lost o ys call a in reads_word f.0 f.1;
          }

  -- at the numbers that the join keeps
  module _ (z : Sizes) (are : sizes_of m ≡ z) where
    pub shorten_sends : ShortenSends A j t m z
    shorten_sends = subst (ShortenSends A j t m) are (λ xs room none o ys call. sends_at xs room none o ys call)

    pub shorten_mends : ShortenMends A j t m z
    shorten_mends = subst (ShortenMends A j t m) are (λ xs room o ys call. mends_at xs room o ys call)

    pub shorten_reads : ShortenReads A j t m z
    shorten_reads = subst (ShortenReads A j t m) are (λ xs room o ys call. reads_at xs room o ys call)

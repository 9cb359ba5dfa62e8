-- The calls of a punctured code, way by way. The code below works behind the first n bytes. Assumes nothing.
use Rattle.std.proofs.Common.{◌≡◌, ℕ, ◌+◌, ◌-◌, ◌<◌, ◌≤◌, Bool, true, false, List, [], length, take, Some, None, Option, sym, refl, ap, ◌∙◌, subst, ap₂, arith}
use Rattle.std.specs.List.{insert, remove}
use Rattle.std.proofs.lemmas.List.{length-take-le}
use Rattle.std.proofs.lemmas.Bool.{both_ways}
use Rattle.theory.specs.Alphabets.{Arithmetic, Lawful}
use Rattle.theory.specs.Calls.{Outcome, Answer, accepted, refused, first_mark, sent, mended, read_back}
use Rattle.theory.specs.Gaps.{widened}
use Rattle.theory.specs.Joins.{puncture}
use Rattle.theory.specs.Meanings.{Meaning, Keeps}
use Rattle.theory.specs.Memory.{over, part, settled, cleared, moved}
use Rattle.theory.specs.Parts.{call_in_part}
use Rattle.theory.specs.Reach.{InReach, message_in_reach, same}
use Rattle.theory.specs.Words.{Symbols}
use Rattle.theory.proofs.Calls.{paired, symbols_from_no_mark, sent_by_lem, mended_by_lem, read_word, read_none}
use Rattle.theory.proofs.GapCalls.{left_found, left_word, word_put_long, found_below, none_below, memory_found, found_left, word_stands, received_stands, word_left, word_read, message_left}
use Rattle.theory.proofs.PartCalls.{fresh, sent_in_part}
use Rattle.theory.proofs.Puncture.{puncture_reaches_below, below_reaches_puncture}
use Rattle.theory.proofs.Reach.{found_in_reach, none_in_reach, in_reach_found, own_word_in_reach}
use Rattle.theory.proofs.Sizes.{Sizes, sizes_of}
use Rattle.theory.proofs.Words.{same_true, same_self}

module _ (A : Arithmetic) (p : ℕ) (m : Meaning) where
  abbrev pub PunctureSends : Sizes → Type 0
  PunctureSends z =
      (xs : List ℕ) → z.w + z.n ≤ length xs → first_mark A.q (take z.k xs) ≡ None → (o : Outcome) (ys : List ℕ)
      → paired o ys ≡ call_in_part (sent A m) 0 z.k z.n z.w xs → (o ≡ accepted) × (paired accepted (left_word z p ys) ≡ sent A (puncture p m) xs)

  -- the ways of a mend once the code below was asked
  pub record PunctureMendWays (z : Sizes) (xs : List ℕ) (o : Outcome) (ys : List ℕ) : Type 0 where
    pub none : (o ≡ accepted → ⊥) → paired (refused 3 []) (left_found z ys) ≡ mended A (puncture p m) xs
    pub found : o ≡ accepted → paired accepted (left_word z p ys) ≡ mended A (puncture p m) xs

  abbrev pub PunctureMends : Sizes → Type 0
  PunctureMends z =
      (xs : List ℕ) → z.w + z.n ≤ length xs → (o : Outcome) (ys : List ℕ)
      → paired o ys ≡ call_in_part (mended A m) z.n z.n z.n z.w (widened xs 0 (z.n - 1) p 255 z.n) → PunctureMendWays z xs o ys

  -- whether the mended word agrees with the received one at every place that is left
  abbrev pub agrees : Sizes → List ℕ → Bool
  agrees z ys = same (remove (part ys z.n z.n) p) (part ys 0 (z.n - 1))

  -- the ways of a read once the code below has mended
  pub record PunctureReadWays (z : Sizes) (xs : List ℕ) (o : Outcome) (ys : List ℕ) : Type 0 where
    pub none : (o ≡ accepted → ⊥) → paired (refused 4 []) (left_found z ys) ≡ read_back A (puncture p m) xs
    pub other : o ≡ accepted → agrees z ys ≡ false → paired (refused 4 []) (left_found z ys) ≡ read_back A (puncture p m) xs
    pub word : o ≡ accepted → agrees z ys ≡ true → (o' : Outcome) (zs : List ℕ) → paired o' zs ≡ call_in_part (read_back A m) z.n z.n z.n z.w ys → (o' ≡ accepted) × (paired accepted (cleared (moved zs z.n z.k 0) z.k (z.w + z.n - z.k)) ≡ read_back A (puncture p m) xs)

  abbrev pub PunctureReads : Sizes → Type 0
  PunctureReads z =
      (xs : List ℕ) → z.w + z.n ≤ length xs → (o : Outcome) (ys : List ℕ)
      → paired o ys ≡ call_in_part (mended A m) z.n z.n z.n z.w (widened xs 0 (z.n - 1) p 255 z.n) → PunctureReadWays z xs o ys

module _ (A : Arithmetic) (laws : Lawful A) (p : ℕ) (m : Meaning) (keeps : Keeps A m) (place : p < m.n) (enough : 2 ≤ m.d) (punctured : Keeps A (puncture p m)) where
  -- the message in reach is the one below, with the mark put in
  reach_below : (rs : List ℕ) → length rs ≡ m.n - 1 → message_in_reach A (puncture p m) rs ≡ message_in_reach A m (insert rs p 255)
  reach_below rs e = go (message_in_reach A m (insert rs p 255)) refl
    where
      none : message_in_reach A m (insert rs p 255) ≡ None → (o : Option (List ℕ)) → message_in_reach A (puncture p m) rs ≡ o → message_in_reach A (puncture p m) rs ≡ None
      none f None g = g
      none f (Some s) g = absurd (none_in_reach A m (insert rs p 255) f s (puncture_reaches_below A laws p m keeps place enough rs s e (found_in_reach A (puncture p m) rs s g)))

      go : (o : Option (List ℕ)) → message_in_reach A m (insert rs p 255) ≡ o → message_in_reach A (puncture p m) rs ≡ message_in_reach A m (insert rs p 255)
      go None f = none f (message_in_reach A (puncture p m) rs) refl ∙ sym f
      go (Some s) f =
          in_reach_found A (puncture p m) punctured rs s e (below_reaches_puncture A laws p m keeps place enough rs s e (found_in_reach A m (insert rs p 255) s f)) ∙ sym f

  module _ (xs : List ℕ) (room : m.w + m.n ≤ length xs) where
    abbrev received : List ℕ
    received = take (m.n - 1) xs

    abbrev with_mark_lem : List ℕ
    with_mark_lem = insert received p 255

    received_long : length received ≡ m.n - 1
    received_long = length-take-le (m.n - 1) xs (omega arith)

    with_mark_long : length with_mark_lem ≡ m.n
    with_mark_long = word_put_long A m keeps xs room p 255 place

    module _ (none : first_mark A.q (take m.k xs) ≡ None) where
      message : Symbols A.q m.k (take m.k xs)
      message =
          record { long = length-take-le m.k xs (omega (arith, keeps.room_for_message)); each = symbols_from_no_mark A.q (take m.k xs) none }

      sends_at : (o : Outcome) (ys : List ℕ) → paired o ys ≡ call_in_part (sent A m) 0 m.k m.n m.w xs → (o ≡ accepted) × (paired accepted (left_word (sizes_of m) p ys) ≡ sent A (puncture p m) xs)
      sends_at o ys call =
          let r = call ∙ sent_in_part A m keeps 0 m.n xs (omega arith) (omega (arith, keeps.room_for_message)) message.each in
          (ap (λ (a : Answer). a.0) r, ap (λ (a : Answer). paired accepted (left_word (sizes_of m) p a.1)) r ∙ ap (paired accepted) (word_left A m keeps xs room (take m.k xs) message p place) ∙ sym (sent_by_lem A (puncture p m) xs room None none))

    -- what the mend below finds
    abbrev reached : Option (List ℕ)
    reached = message_in_reach A m with_mark_lem

    -- a word of the punctured code is found below
    word_found : (t : List ℕ) → Symbols A.q m.k t → remove (m.word t) p ≡ received → reached ≡ Some t
    word_found t h e =
        in_reach_found A m keeps with_mark_lem t with_mark_long (puncture_reaches_below A laws p m keeps place enough received t received_long (subst (λ (rs : List ℕ). InReach A (puncture p m) rs t) e (own_word_in_reach A (puncture p m) punctured t h)))

    none_not_some : (t : List ℕ) → reached ≡ None → reached ≡ Some t → ⊥
    none_not_some t e f = let z : ◌≡◌ {A = ℕ} 0 1 = cc in omega arith

    same_found : (s t : List ℕ) → reached ≡ Some s → reached ≡ Some t → s ≡ t
    same_found s t e f = cc

    module _ (o : Outcome) (ys : List ℕ) (call : paired o ys ≡ call_in_part (mended A m) m.n m.n m.n m.w (widened xs 0 (m.n - 1) p 255 m.n)) where
      module _ (s : List ℕ) (found : reached ≡ Some s) where
        symbols : Symbols A.q m.k s
        symbols = (found_in_reach A m with_mark_lem s found).message

        memory : ys ≡ over xs m.n (fresh m.w (m.word s))
        memory = memory_found A m keeps xs room p 255 place o ys call s found

        mends_found : paired accepted (left_word (sizes_of m) p ys) ≡ mended A (puncture p m) xs
        mends_found =
            ap (λ (z : List ℕ). paired accepted (left_word (sizes_of m) p z)) memory ∙ ap (paired accepted) (word_left A m keeps xs room s symbols p place)
            ∙ sym (mended_by_lem A (puncture p m) xs room (Some s) (reach_below received received_long ∙ found))

        -- the places that are compared
        agrees_is : agrees A p m (sizes_of m) ys ≡ same (remove (m.word s) p) received
        agrees_is =
            ap (agrees A p m (sizes_of m)) memory
            ∙ ap₂ (λ (a b : List ℕ). same (remove a p) b) (word_stands A m keeps xs room s symbols) (received_stands A m keeps xs room s symbols)

        reads_found : remove (m.word s) p ≡ received → (o' : Outcome) (zs : List ℕ) → paired o' zs ≡ call_in_part (read_back A m) m.n m.n m.n m.w ys → (o' ≡ accepted) × (paired accepted (cleared (moved zs m.n m.k 0) m.k (m.w + m.n - m.k)) ≡ read_back A (puncture p m) xs)
        reads_found is o' zs again =
            let r = again ∙ ap (call_in_part (read_back A m) m.n m.n m.n m.w) memory ∙ word_read A m keeps xs room s symbols in
            (ap (λ (a : Answer). a.0) r, ap (λ (a : Answer). paired accepted (cleared (moved a.1 m.n m.k 0) m.k (m.w + m.n - m.k))) r ∙ ap (paired accepted) (message_left A m keeps xs room s symbols) ∙ sym (read_word A (puncture p m) xs punctured room s symbols is))

      none_reached : (o ≡ accepted → ⊥) → reached ≡ None
      none_reached = none_below A m keeps xs room p 255 place o ys call

      one_reached : o ≡ accepted → (s : List ℕ) × (reached ≡ Some s)
      one_reached = found_below A m keeps xs room p 255 place o ys call

      received_left : left_found (sizes_of m) ys ≡ settled (m.w + m.n) received xs
      received_left = found_left A m keeps xs room p 255 place o ys call

      mends_at : PunctureMendWays A p m (sizes_of m) xs o ys
      mends_at =
          record {
            none = λ h. ap (paired (refused 3 [])) received_left ∙ sym (mended_by_lem A (puncture p m) xs room None (reach_below received received_long ∙ none_reached h));
            found = λ a. let f = one_reached a in mends_found f.0 f.1;
          }

      reads_none : ((t : List ℕ) → Symbols A.q m.k t → remove (m.word t) p ≡ received → ⊥) → paired (refused 4 []) (left_found (sizes_of m) ys) ≡ read_back A (puncture p m) xs
      reads_none none = ap (paired (refused 4 [])) received_left ∙ sym (read_none A (puncture p m) xs room none)

      -- what was found is another word than the received one
      not_agreeing : (s : List ℕ) → reached ≡ Some s → agrees A p m (sizes_of m) ys ≡ false → (t : List ℕ) → Symbols A.q m.k t → remove (m.word t) p ≡ received → ⊥
      not_agreeing s f h t ht e =
          let is : remove (m.word s) p ≡ received = ap (λ (x : List ℕ). remove (m.word x) p) (same_found s t f (word_found t ht e)) ∙ e in
          both_ways (same (remove (m.word s) p) received) (sym (agrees_is s f) ∙ h) (ap (λ (x : List ℕ). same x received) is ∙ same_self received)

      reads_at : PunctureReadWays A p m (sizes_of m) xs o ys
      reads_at =
          record {
            none = λ h. reads_none (λ t ht e. none_not_some t (none_reached h) (word_found t ht e));
            other = λ a h. let f = one_reached a in reads_none (not_agreeing f.0 f.1 h);
            word = λ a h. let f = one_reached a in reads_found f.0 f.1 (same_true (remove (m.word f.0) p) received (sym (agrees_is f.0 f.1) ∙ h));
          }

  -- at the numbers that the join keeps
  module _ (z : Sizes) (are : sizes_of m ≡ z) where
    pub puncture_sends : PunctureSends A p m z
    puncture_sends = subst (PunctureSends A p m) are (λ xs room none o ys call. sends_at xs room none o ys call)

    pub puncture_mends : PunctureMends A p m z
    puncture_mends = subst (PunctureMends A p m) are (λ xs room o ys call. mends_at xs room o ys call)

    pub puncture_reads : PunctureReads A p m z
    puncture_reads = subst (PunctureReads A p m) are (λ xs room o ys call. reads_at xs room o ys call)

-- Send and read of a Plotkin join, way by way. Assumes nothing.
use Rattle.std.proofs.Common.{◌≡◌, ℕ, ◌+◌, ◌-◌, ◌*◌, ◌<◌, ◌≤◌, List, [], ◌++◌, length, take, drop, Some, None, Option, sym, ap, ◌∙◌, subst, ap₂, inl, arith}
use Rattle.std.specs.List.{AllByRecursion as All}
use Rattle.std.proofs.lemmas.List.{take_at, drop_at, take-take, drop-take}
use Rattle.theory.specs.Alphabets.{Arithmetic, Lawful, plus}
use Rattle.theory.specs.Calls.{Outcome, accepted, refused, first_mark, sent, read_back}
use Rattle.theory.specs.Combining.{combined}
use Rattle.theory.specs.Halves.{Halves, word_end, left_part, right_part, work_end, byte_less}
use Rattle.theory.specs.Joins.{sums, less, plotkin}
use Rattle.theory.specs.Meanings.{Meaning, Keeps}
use Rattle.theory.specs.Memory.{over, part, settled, cleared, gathered}
use Rattle.theory.specs.Parts.{call_in_part}
use Rattle.theory.specs.Reach.{message_of_word}
use Rattle.theory.specs.Words.{Symbols}
use Rattle.theory.proofs.Blocks.{gathered_second_third}
use Rattle.theory.proofs.Calls.{paired, sent_by_lem, read_word, read_none}
use Rattle.theory.proofs.Differences.{less_sums, sums_less}
use Rattle.theory.proofs.HalfCalls.{halves_of, plus_sums, half_a, half_b, long_a, long_b, long_front, held, held_long, held_a, held_e, held_l, held_r, put_l, put_r, put_together, first_held, difference, long_difference, differences_held, old_l, old_r, long_old_l, long_old_r, long_old_e}
use Rattle.theory.proofs.PartCalls.{fresh, read_result_of, read_outcome, read_found}
use Rattle.theory.proofs.PlotkinMends.{received_halves, cleared_held, gathered_held, word_of_pair}
use Rattle.theory.proofs.Pointwise.{length_zipped}
use Rattle.theory.proofs.Reach.{read_is_word, own_word_found}
use Rattle.theory.proofs.Symbols.{symbols_take, symbols_drop, symbols_append}
use Rattle.theory.proofs.TwoCalls.{take_fresh, of_u, of_v, sent_u, sent_v, long_sent_u, long_sent_v, parts_sent, read_u, read_v, long_read_u, long_read_v, parts_read}

module _ (A : Arithmetic) (u v : Meaning) where
  abbrev pub Sends : Halves → Type 0
  Sends h =
      (xs : List ℕ) → work_end h ≤ length xs → first_mark A.q (take (h.ku + h.kv) xs) ≡ None → (o o' : Outcome) (ys zs ws : List ℕ)
      → paired o ys ≡ call_in_part (sent A v) h.ku h.kv (right_part h) h.wv xs → paired o' zs ≡ call_in_part (sent A u) 0 h.ku (left_part h) h.wu ys
      → (o ≡ accepted) × (o' ≡ accepted) × (ws ≡ combined (plus A) zs (left_part h) (right_part h) h.n (word_end h) → paired accepted (gathered ws (left_part h) h.n (word_end h) h.n (work_end h)) ≡ sent A (plotkin A u v) xs)

  -- the ways of a read once both parts have answered
  pub record ReadWays (h : Halves) (xs : List ℕ) (o o' : Outcome) (zs : List ℕ) : Type 0 where
    pub no_v : (o ≡ accepted → ⊥) → paired (refused 4 []) (cleared zs (word_end h) (work_end h - word_end h)) ≡ read_back A (plotkin A u v) xs
    pub no_u : (o' ≡ accepted → ⊥) → paired (refused 4 []) (cleared zs (word_end h) (work_end h - word_end h)) ≡ read_back A (plotkin A u v) xs
    pub both : o ≡ accepted → o' ≡ accepted → paired accepted (gathered zs (left_part h) h.ku (right_part h) h.kv (work_end h)) ≡ read_back A (plotkin A u v) xs

  abbrev pub Reads : Halves → Type 0
  Reads h =
      (xs : List ℕ) → work_end h ≤ length xs → (ds : List ℕ) → ds ≡ combined (byte_less A) xs h.n 0 h.n (word_end h) → (o o' : Outcome) (ys zs : List ℕ)
      → paired o ys ≡ call_in_part (read_back A v) (word_end h) h.n (right_part h) h.wv ds → paired o' zs ≡ call_in_part (read_back A u) 0 h.n (left_part h) h.wu ys → ReadWays h xs o o' zs

module _ (A : Arithmetic) (laws : Lawful A) (u v : Meaning) (keeps-u : Keeps A u) (keeps-v : Keeps A v) (same : u.n ≡ v.n) (xs : List ℕ) (room : 3 * u.n + u.w + v.w ≤ length xs) where
  -- two parts written behind the word and one more half
  written : (e l r left right : List ℕ) → length e ≡ u.n → length l ≡ u.w → length r ≡ v.w → length left ≡ u.w → length right ≡ v.w → over (over (held A u v xs room e l r) (3 * u.n + u.w) right) (3 * u.n) left ≡ held A u v xs room e left right
  written e l r left right he hl hr hleft hright =
      ap (λ (z : List ℕ). over z (3 * u.n) left) (put_r A u v xs room e l r he hl hr right hright) ∙ put_l A u v xs room e l right he hl hright left hleft

  module _ (none : first_mark A.q (take (u.k + v.k) xs) ≡ None) where
    message_u : Symbols A.q u.k (part xs 0 u.k)
    message_u = of_u A u v keeps-u keeps-v (3 * u.n) xs room none

    message_v : Symbols A.q v.k (part xs u.k v.k)
    message_v = of_v A u v keeps-u keeps-v (3 * u.n) xs room none

    word_u : Symbols A.q u.n (u.word (part xs 0 u.k))
    word_u = keeps-u.words (part xs 0 u.k) message_u

    word_v : Symbols A.q v.n (v.word (part xs u.k v.k))
    word_v = keeps-v.words (part xs u.k v.k) message_v

    abbrev old_e : List ℕ
    old_e = part xs (2 * u.n) u.n

    abbrev left : List ℕ
    left = sent_u A u v keeps-u keeps-v (3 * u.n) xs room none

    abbrev right : List ℕ
    right = sent_v A u v keeps-u keeps-v (3 * u.n) xs room none

    long_left : length left ≡ u.w
    long_left = long_sent_u A u v keeps-u keeps-v (3 * u.n) xs room none

    long_right : length right ≡ v.w
    long_right = long_sent_v A u v keeps-u keeps-v (3 * u.n) xs room none

    -- both words stand in their parts, and their sum behind the word
    sums_held : (zs : List ℕ) → zs ≡ over (over xs (3 * u.n + u.w) right) (3 * u.n) left → combined (plus A) zs (3 * u.n) (3 * u.n + u.w) u.n (2 * u.n) ≡ held A u v xs room (sums A (u.word (part xs 0 u.k)) (v.word (part xs u.k v.k))) left right
    sums_held zs is =
        let long_e = long_old_e A laws u v keeps-u keeps-v same xs room in
        let now : zs ≡ held A u v xs room old_e left right =
        is ∙ ap (λ (z : List ℕ). over (over z (3 * u.n + u.w) right) (3 * u.n) left) (first_held A u v xs room)
        ∙ written old_e (part xs (3 * u.n) u.w) (part xs (3 * u.n + u.w) v.w) left right long_e (long_old_l A laws u v keeps-u keeps-v same xs room) (long_old_r A laws u v keeps-u keeps-v same xs room) long_left long_right in
        let stands-l = held_l A u v xs room old_e left right long_e long_left long_right u.n keeps-u.room_for_word ∙ take_fresh u.w u.n (u.word (part xs 0 u.k)) word_u.long in
        let stands-r = held_r A u v xs room old_e left right long_e long_left long_right u.n (omega (arith, same, keeps-v.room_for_word)) ∙ take_fresh v.w u.n (v.word (part xs u.k v.k)) (word_v.long ∙ sym same) in
        ap (λ (z : List ℕ). combined (plus A) z (3 * u.n) (3 * u.n + u.w) u.n (2 * u.n)) now
        ∙ put_together A laws u v keeps-u keeps-v same xs room (plus A) old_e left right long_e long_left long_right (3 * u.n) (3 * u.n + u.w) (u.word (part xs 0 u.k)) (v.word (part xs u.k v.k)) (omega (arith, keeps-u.room_for_word)) (omega (arith, same, keeps-v.room_for_word)) (inl (omega arith)) (inl (omega arith)) stands-l stands-r word_u.long (word_v.long ∙ sym same)
        ∙ ap (λ (z : List ℕ). held A u v xs room z left right) (plus_sums A laws (u.word (part xs 0 u.k)) (v.word (part xs u.k v.k)) word_u.each word_v.each)

    pub plotkin_sends : (o o' : Outcome) (ys zs ws : List ℕ) → paired o ys ≡ call_in_part (sent A v) u.k v.k (3 * u.n + u.w) v.w xs → paired o' zs ≡ call_in_part (sent A u) 0 u.k (3 * u.n) u.w ys → (o ≡ accepted) × (o' ≡ accepted) × (ws ≡ combined (plus A) zs (3 * u.n) (3 * u.n + u.w) u.n (2 * u.n) → paired accepted (gathered ws (3 * u.n) u.n (2 * u.n) u.n (3 * u.n + u.w + v.w)) ≡ sent A (plotkin A u v) xs)
    plotkin_sends o o' ys zs ws right-call left-call =
        let both = parts_sent A u v keeps-u keeps-v (3 * u.n) xs room none o o' ys zs right-call left-call in
        let long : length (sums A (u.word (part xs 0 u.k)) (v.word (part xs u.k v.k))) ≡ u.n = length_zipped A.add (u.word (part xs 0 u.k)) (v.word (part xs u.k v.k)) (word_u.long ∙ same ∙ sym word_v.long) ∙ word_u.long in (
          both.0,
          both.1,
          λ is.
              ap (λ (z : List ℕ). paired accepted (gathered z (3 * u.n) u.n (2 * u.n) u.n (3 * u.n + u.w + v.w))) (is ∙ sums_held zs both.2)
              ∙ ap (paired accepted) (gathered_held A laws u v keeps-u keeps-v same xs room (part xs 0 u.k) (sums A (u.word (part xs 0 u.k)) (v.word (part xs u.k v.k))) right word_u.long long long_right)
              ∙ ap₂ (λ (a b : List ℕ). paired accepted (settled (3 * u.n + u.w + v.w) (u.word a ++ sums A (u.word a) (v.word b)) xs)) (sym (take-take u.k (u.k + v.k) xs (omega arith))) (sym (drop-take u.k v.k xs))
              ∙ sym (sent_by_lem A (plotkin A u v) xs room None none),
        )

  -- the memory with the difference of the halves, which V reads
  abbrev diff : List ℕ
  diff = difference A laws u v keeps-u keeps-v same xs room

  abbrev lent : List ℕ
  lent = held A u v xs room diff (old_l A laws u v keeps-u keeps-v same xs room) (old_r A laws u v keeps-u keeps-v same xs room)

  lent_room : 3 * u.n + u.w + v.w ≤ length lent
  lent_room = held_long A u v xs room diff (old_l A laws u v keeps-u keeps-v same xs room) (old_r A laws u v keeps-u keeps-v same xs room) (long_difference A laws u v keeps-u keeps-v same xs room) (long_old_l A laws u v keeps-u keeps-v same xs room) (long_old_r A laws u v keeps-u keeps-v same xs room)

  lent_a : part lent 0 u.n ≡ half_a A u v xs room
  lent_a = held_a A u v xs room diff (old_l A laws u v keeps-u keeps-v same xs room) (old_r A laws u v keeps-u keeps-v same xs room) (long_difference A laws u v keeps-u keeps-v same xs room) (long_old_l A laws u v keeps-u keeps-v same xs room) (long_old_r A laws u v keeps-u keeps-v same xs room)

  lent_diff : part lent (2 * u.n) v.n ≡ diff
  lent_diff =
      ap (part lent (2 * u.n)) (sym same)
      ∙ held_e A u v xs room diff (old_l A laws u v keeps-u keeps-v same xs room) (old_r A laws u v keeps-u keeps-v same xs room) (long_difference A laws u v keeps-u keeps-v same xs room) (long_old_l A laws u v keeps-u keeps-v same xs room) (long_old_r A laws u v keeps-u keeps-v same xs room)

  in_u : 0 + u.n ≤ 3 * u.n
  in_u = omega arith

  in_v : 2 * u.n + v.n ≤ 3 * u.n
  in_v = omega (arith, same)

  abbrev left_read : List ℕ
  left_read = read_u A u v keeps-u keeps-v (3 * u.n) lent lent_room 0 (2 * u.n) in_u in_v

  abbrev right_read : List ℕ
  right_read = read_v A u v keeps-u keeps-v (3 * u.n) lent lent_room 0 (2 * u.n) in_u in_v

  long_left_read : length left_read ≡ u.w
  long_left_read = long_read_u A u v keeps-u keeps-v (3 * u.n) lent lent_room 0 (2 * u.n) in_u in_v

  long_right_read : length right_read ≡ v.w
  long_right_read = long_read_v A u v keeps-u keeps-v (3 * u.n) lent lent_room 0 (2 * u.n) in_u in_v

  -- both parts answer by their own words
  halves_read : (ds : List ℕ) → ds ≡ combined (byte_less A) xs u.n 0 u.n (2 * u.n) → (o o' : Outcome) (ys zs : List ℕ) → paired o ys ≡ call_in_part (read_back A v) (2 * u.n) u.n (3 * u.n + u.w) v.w ds → paired o' zs ≡ call_in_part (read_back A u) 0 u.n (3 * u.n) u.w ys → (o ≡ read_outcome (message_of_word A v diff)) × (o' ≡ read_outcome (message_of_word A u (half_a A u v xs room))) × (zs ≡ held A u v xs room diff left_read right_read)
  halves_read ds is o o' ys zs right-call left-call =
      let here : paired o ys ≡ call_in_part (read_back A v) (2 * u.n) v.n (3 * u.n + u.w) v.w lent =
      right-call ∙ ap₂ (λ (k : ℕ) (z : List ℕ). call_in_part (read_back A v) (2 * u.n) k (3 * u.n + u.w) v.w z) same (is ∙ differences_held A laws u v keeps-u keeps-v same xs room) in
      let both = parts_read A u v keeps-u keeps-v (3 * u.n) lent lent_room 0 (2 * u.n) in_u in_v o o' ys zs here left-call in
      (both.0 ∙ ap (λ (z : List ℕ). read_outcome (message_of_word A v z)) lent_diff, both.1 ∙ ap (λ (z : List ℕ). read_outcome (message_of_word A u z)) lent_a, both.2 ∙ written diff (old_l A laws u v keeps-u keeps-v same xs room) (old_r A laws u v keeps-u keeps-v same xs room) left_read right_read (long_difference A laws u v keeps-u keeps-v same xs room) (long_old_l A laws u v keeps-u keeps-v same xs room) (long_old_r A laws u v keeps-u keeps-v same xs room) long_left_read long_right_read)

  -- the left half of a word is one of U's, and the difference of its halves is one of V's
  halves_of_word : (s : List ℕ) → Symbols A.q (u.k + v.k) s → (plotkin A u v).word s ≡ take (2 * u.n) xs → (message_of_word A u (half_a A u v xs room) ≡ Some (take u.k s)) × (message_of_word A v diff ≡ Some (drop u.k s))
  halves_of_word s h e =
      let hu = symbols_take A.q u.k v.k s h in
      let hv = symbols_drop A.q u.k v.k s h in
      let wu = u.word (take u.k s) in
      let wv = v.word (drop u.k s) in
      let su = keeps-u.words (take u.k s) hu in
      let sv = keeps-v.words (drop u.k s) hv in
      let whole : wu ++ sums A wu wv ≡ half_a A u v xs room ++ half_b A u v xs room = e ∙ received_halves A laws u v keeps-u keeps-v same xs room in
      let is-a : half_a A u v xs room ≡ wu = sym (take_at (half_a A u v xs room) (half_b A u v xs room) u.n (long_a A u v xs room)) ∙ ap (take u.n) (sym whole) ∙ take_at wu (sums A wu wv) u.n su.long in
      let is_b : half_b A u v xs room ≡ sums A wu wv = sym (drop_at (half_a A u v xs room) (half_b A u v xs room) u.n (long_a A u v xs room)) ∙ ap (drop u.n) (sym whole) ∙ drop_at wu (sums A wu wv) u.n su.long in
      let is-diff : diff ≡ wv = ap₂ (less A) is_b is-a ∙ less_sums A laws wu wv (su.long ∙ same ∙ sym sv.long) su.each sv.each in
      (ap (message_of_word A u) is-a ∙ own_word_found A u keeps-u (take u.k s) hu, ap (message_of_word A v) is-diff ∙ own_word_found A v keeps-v (drop u.k s) hv)

  -- refused: the bytes stay, and the working memory is cleared
  no_word : (zs : List ℕ) → zs ≡ held A u v xs room diff left_read right_read → ((s : List ℕ) → Symbols A.q (u.k + v.k) s → (plotkin A u v).word s ≡ take (2 * u.n) xs → ⊥) → paired (refused 4 []) (cleared zs (2 * u.n) (3 * u.n + u.w + v.w - 2 * u.n)) ≡ read_back A (plotkin A u v) xs
  no_word zs is none =
      ap (λ (z : List ℕ). paired (refused 4 []) (cleared z (2 * u.n) (3 * u.n + u.w + v.w - 2 * u.n))) is
      ∙ ap (paired (refused 4 [])) (cleared_held A laws u v keeps-u keeps-v same xs room diff left_read right_read (long_difference A laws u v keeps-u keeps-v same xs room) long_left_read long_right_read)
      ∙ sym (read_none A (plotkin A u v) xs room none)

  -- accepted: the messages of both parts, gathered
  two_messages : Keeps A (plotkin A u v) → (zs : List ℕ) → zs ≡ held A u v xs room diff left_read right_read → (s t : List ℕ) → message_of_word A u (half_a A u v xs room) ≡ Some s → message_of_word A v diff ≡ Some t → paired accepted (gathered zs (3 * u.n) u.k (3 * u.n + u.w) v.k (3 * u.n + u.w + v.w)) ≡ read_back A (plotkin A u v) xs
  two_messages keeps zs is s t f g =
      let hs = read_is_word A u (half_a A u v xs room) s f in
      let ht = read_is_word A v diff t g in
      let su = keeps-u.words s hs.0 in
      let sv = keeps-v.words t ht.0 in
      let end = 3 * u.n + u.w + v.w in
      let right : sums A (half_a A u v xs room) diff ≡ half_b A u v xs room =
      sums_less A laws (half_a A u v xs room) (half_b A u v xs room) (long_b A u v xs room ∙ sym (long_a A u v xs room)) (subst (λ (z : List ℕ). All (λ x. x < A.q) z) hs.1 su.each) (subst (λ (z : List ℕ). All (λ x. x < A.q) z) ht.1 sv.each) in
      let word : (plotkin A u v).word (s ++ t) ≡ take (2 * u.n) xs =
      word_of_pair A laws u v keeps-u keeps-v same xs room s t hs.0.long
      ∙ ap₂ (λ (a b : List ℕ). a ++ sums A a b) hs.1 ht.1 ∙ ap (λ (b : List ℕ). half_a A u v xs room ++ b) right ∙ sym (received_halves A laws u v keeps-u keeps-v same xs room) in
      let is-left : take u.k left_read ≡ s = ap (λ (z : List ℕ). take u.k (fresh u.w (read_result_of z (message_of_word A u z)))) lent_a ∙ ap (λ (o : Option (List ℕ)). take u.k (fresh u.w (read_result_of (half_a A u v xs room) o))) f ∙ take_fresh u.w u.k s hs.0.long in
      let is_right : take v.k right_read ≡ t = ap (λ (z : List ℕ). take v.k (fresh v.w (read_result_of z (message_of_word A v z)))) lent_diff ∙ ap (λ (o : Option (List ℕ)). take v.k (fresh v.w (read_result_of diff o))) g ∙ take_fresh v.w v.k t ht.0.long in
      ap (λ (z : List ℕ). paired accepted (gathered z (3 * u.n) u.k (3 * u.n + u.w) v.k end)) is
      ∙ ap (paired accepted) (gathered_second_third (take (2 * u.n) xs) diff left_read right_read (drop end xs) (2 * u.n) (3 * u.n) (3 * u.n + u.w) end (long_front A u v xs room) (omega (arith, long_difference A laws u v keeps-u keeps-v same xs room)) (omega (arith, long_left_read)) (omega (arith, long_right_read)) u.k v.k (omega (arith, long_left_read, keeps-u.room_for_message)) (omega (arith, long_right_read, keeps-v.room_for_message)))
      ∙ ap₂ (λ (a b : List ℕ). paired accepted (settled end (a ++ b) xs)) is-left is_right
      ∙ sym (read_word A (plotkin A u v) xs keeps room (s ++ t) (symbols_append A.q u.k v.k s t hs.0 ht.0) word)

  pub plotkin_reads : Keeps A (plotkin A u v) → (ds : List ℕ) → ds ≡ combined (byte_less A) xs u.n 0 u.n (2 * u.n) → (o o' : Outcome) (ys zs : List ℕ) → paired o ys ≡ call_in_part (read_back A v) (2 * u.n) u.n (3 * u.n + u.w) v.w ds → paired o' zs ≡ call_in_part (read_back A u) 0 u.n (3 * u.n) u.w ys → ReadWays A u v (halves_of u v) xs o o' zs
  plotkin_reads keeps ds is o o' ys zs right-call left-call =
      let answers = halves_read ds is o o' ys zs right-call left-call in
      record {
        no_v = λ refusal. no_word zs answers.2 (λ s h e. refusal (answers.0 ∙ ap read_outcome (halves_of_word s h e).1));
        no_u = λ refusal. no_word zs answers.2 (λ s h e. refusal (answers.1 ∙ ap read_outcome (halves_of_word s h e).0));
        both = λ ok ok'.
            let t = read_found (message_of_word A v diff) (sym answers.0 ∙ ok) in
            let s = read_found (message_of_word A u (half_a A u v xs room)) (sym answers.1 ∙ ok') in
            two_messages keeps zs answers.2 s.0 t.0 s.1 t.1;
      }

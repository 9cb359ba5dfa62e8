-- Shortening keeps a meaning, and what is in reach of it is in reach of the whole code with zeros put in. Assumes nothing.
use Rattle.std.proofs.Common.{◌≡◌, ℕ, suc, ◌+◌, ◌-◌, ◌<◌, ◌≤◌, cond, ltb, List, length, get_or, Some, sym, ap, ◌∙◌, arith}
use Rattle.std.specs.List.{insert, remove}
use Rattle.std.proofs.lemmas.List.Edits.{get_or-insert_at}
use Rattle.std.proofs.lemmas.Bool.{le-ltb, cond-false}
use Rattle.std.proofs.lemmas.Bool.Decides.{nat_tests}
use Rattle.theory.specs.Alphabets.{Arithmetic, Lawful}
use Rattle.theory.specs.Joins.{carrier_without, shorten}
use Rattle.theory.specs.Meanings.{Meaning, Keeps}
use Rattle.theory.specs.Piles.{NoneNearer}
use Rattle.theory.specs.Reach.{InReach}
use Rattle.theory.specs.Words.{Symbols, toll}
use Rattle.theory.proofs.Distance.{distance_by}
use Rattle.theory.proofs.Gaps.{toll_inserted, differ_removed_same, removed_symbols, inserted_symbols, removed_inserted, inserted_removed, get_or_inserted, carrier_left}
use Rattle.theory.proofs.Groups.{zero_symbol}
use Rattle.theory.proofs.Words.{cost}

-- a 0 put in where the word has a 0 costs nothing
pub toll_with_zero : (q t : ℕ) (xs rs : List ℕ) → 0 < q → t < length xs → length xs ≡ suc (length rs) → get_or xs t 0 ≡ 0 → toll q xs (insert rs t 0) ≡ toll q (remove xs t) rs
toll_with_zero q t xs rs some h e z =
    let free : cost q (get_or xs t 0) 0 ≡ 0 = grind (arith, nat_tests) in
    omega (arith, free, toll_inserted q t 0 xs rs h e)

module _ (A : Arithmetic) (laws : Lawful A) (j t : ℕ) (m : Meaning) (keeps : Keeps A m) (place : j < m.k) (enough : 2 ≤ m.k) (carrier-is : m.carrier j ≡ Some t) where
  -- the message with the 0 put in is one of the whole code
  pub whole : (s : List ℕ) → Symbols A.q (m.k - 1) s → Symbols A.q m.k (insert s j 0)
  whole s h = inserted_symbols A.q m.k j 0 s place (zero_symbol A laws) h

  -- the word has the place to lose
  pub lost_within : t < m.n
  lost_within = keeps.carrier_within j t carrier-is

  -- words are of n − 1 symbols
  words_are : (s : List ℕ) → Symbols A.q (m.k - 1) s → Symbols A.q (m.n - 1) (remove (m.word (insert s j 0)) t)
  words_are s h = removed_symbols A.q m.n t (m.word (insert s j 0)) lost_within (keeps.words (insert s j 0) (whole s h))

  -- the place that a word loses has a 0
  pub lost_zero : (s : List ℕ) → Symbols A.q (m.k - 1) s → get_or (m.word (insert s j 0)) t 0 ≡ 0
  lost_zero s h = keeps.carries j t carrier-is (insert s j 0) (whole s h) ∙ get_or-insert_at s j 0 0 (omega (arith, h.long))

  -- and as far apart as in the whole code
  words_apart : NoneNearer A (shorten j t m)
  words_apart s u hs hu other =
      let ls = (keeps.words (insert s j 0) (whole s hs)).long in
      let lu = (keeps.words (insert u j 0) (whole u hu)).long in
      let back : insert s j 0 ≡ insert u j 0 → s ≡ u = λ e.
      sym (removed_inserted s j 0 (omega (arith, hs.long))) ∙ ap (λ (xs : List ℕ). remove xs j) e ∙ removed_inserted u j 0 (omega (arith, hu.long)) in
      omega (arith, keeps.apart (insert s j 0) (insert u j 0) (whole s hs) (whole u hu) (λ e. other (back e)), differ_removed_same t (m.word (insert s j 0)) (m.word (insert u j 0)) (omega (arith, lost_within)) (ls ∙ sym lu) (lost_zero s hs ∙ sym (lost_zero u hu)))

  -- a place is left, since the distance is at most what is left
  pub shorten_keeps : m.w + m.n ≤ 4096 → Keeps A (shorten j t m)
  shorten_keeps room =
      record {
        some_places = omega (arith, keeps.some_distance, distance_by A laws (shorten j t m) (omega arith) words_are words_apart);
        some_symbols = omega arith;
        some_distance = keeps.some_distance;
        room_for_word = omega arith;
        room_for_message = omega (arith, keeps.room_for_message);
        bounded = room;
        words = words_are;
        apart = words_apart;
        carrier_within = λ i u e. let c = carrier_left m.n t u (m.carrier (cond (ltb i j) i (suc i))) lost_within e in c.2.within (keeps.carrier_within (cond (ltb i j) i (suc i)) c.0 c.1);
        carries = λ i u e s h.
            let c = carrier_left m.n t u (m.carrier (cond (ltb i j) i (suc i))) lost_within e in
            c.2.reads (m.word (insert s j 0)) (omega (arith, lost_within, (keeps.words (insert s j 0) (whole s h)).long))
            ∙ keeps.carries (cond (ltb i j) i (suc i)) c.0 c.1 (insert s j 0) (whole s h) ∙ get_or_inserted s j 0 i (omega (arith, h.long));
        carrier_absent = λ i h.
            ap (carrier_without t) (ap m.carrier (cond-false (ltb i j) i (suc i) (le-ltb i j (omega arith))) ∙ keeps.carrier_absent (suc i) (omega arith));
      }

  -- the toll of a word against what was received with the 0 put in
  toll_below : (rs s : List ℕ) → length rs ≡ m.n - 1 → Symbols A.q m.k s → get_or s j 0 ≡ 0 → toll A.q (m.word s) (insert rs t 0) ≡ toll A.q (remove (m.word s) t) rs
  toll_below rs s e h z =
      let long = (keeps.words s h).long in
      toll_with_zero A.q t (m.word s) rs (zero_symbol A laws) (omega (arith, lost_within)) (omega (arith, lost_within)) (keeps.carries j t carrier-is s h ∙ z)

  -- in reach of the shortened code, in reach of the whole one
  pub shorten_reaches_below : (rs s : List ℕ) → length rs ≡ m.n - 1 → InReach A (shorten j t m) rs s → InReach A m (insert rs t 0) (insert s j 0)
  shorten_reaches_below rs s e h =
      let w = whole s h.message in
      record { message = w; near = omega (arith, h.near, toll_below rs (insert s j 0) e w (get_or-insert_at s j 0 0 (omega (arith, h.message.long)))) }

  -- and the other way round, if the message has a 0 to lose
  pub below_reaches_shorten : (rs s : List ℕ) → length rs ≡ m.n - 1 → InReach A m (insert rs t 0) s → get_or s j 0 ≡ 0 → InReach A (shorten j t m) rs (remove s j)
  below_reaches_shorten rs s e h z =
      let back : insert (remove s j) j 0 ≡ s = ap (insert (remove s j) j) (sym z) ∙ inserted_removed s j (omega (arith, h.message.long)) in
      record {
        message = removed_symbols A.q m.k j s place h.message;
        near = rw back (omega (arith, h.near, toll_below rs s e h.message z));
      }

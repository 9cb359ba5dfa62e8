-- What two calls in a row come to, for every code that keeps its meaning. Assumes nothing.
use Rattle.std.proofs.Common.{◌≡◌, ℕ, ◌<◌, ◌≤◌, ltb, List, [], ◌∷◌, length, take, Some, None, Option, sym, refl, ap, ◌∙◌, ⊎_elim, arith}
use Rattle.std.proofs.lemmas.List.{length-take-le}
use Rattle.std.proofs.lemmas.Bool.{lt-ltb, le-ltb, cond-true, cond-false, cases_lt}
use Rattle.theory.specs.Alphabets.{Arithmetic}
use Rattle.theory.specs.Calls.{Outcome, Answer, accepted, refused, first_mark, sent, mended, read_back}
use Rattle.theory.specs.Meanings.{Meaning, Keeps}
use Rattle.theory.specs.Memory.{settled}
use Rattle.theory.specs.Reach.{InReach, message_in_reach, message_of_word}
use Rattle.theory.specs.Trips.{message_returned_by, message_returned, word_returned_by, word_returned, MendsWhatIsInReach}
use Rattle.theory.specs.Words.{Symbols}
use Rattle.theory.proofs.Calls.{symbols_from_no_mark, sent_short, sent_by_lem, sent_message, mended_short, mended_by_lem, mended_none, mended_reach, read_short, read_by_lem, read_word}
use Rattle.theory.proofs.Memory.{length_settled, settled_settled, take_settled}
use Rattle.theory.proofs.Reach.{found_in_reach, own_word_in_reach, read_is_word}

-- a refusal is not an acceptance
pub not_accepted : (n : ℕ) (values : List ℕ) → refused n values ≡ accepted → ⊥
not_accepted n values e = let z : ◌≡◌ {A = ℕ} 0 1 = cc in omega arith

module _ (A : Arithmetic) (m : Meaning) (xs : List ℕ) where
  message_short : length xs < m.w → message_returned A m xs ≡ (refused 1 [], xs)
  unfolding message_returned
  message_short h = cond-true (ltb (length xs) m.w) (refused 1 [], xs) (message_returned_by m xs (first_mark A.q (take m.k xs))) (lt-ltb (length xs) m.w h)

  message_by : m.w ≤ length xs → (o : Option ℕ) → first_mark A.q (take m.k xs) ≡ o → message_returned A m xs ≡ message_returned_by m xs o
  unfolding message_returned
  message_by h o e = cond-false (ltb (length xs) m.w) (refused 1 [], xs) (message_returned_by m xs (first_mark A.q (take m.k xs))) (le-ltb (length xs) m.w h) ∙ ap (message_returned_by m xs) e

  word_short : length xs < m.w → word_returned A m xs ≡ (refused 1 [], xs)
  unfolding word_returned
  word_short h = cond-true (ltb (length xs) m.w) (refused 1 [], xs) (word_returned_by (message_of_word A m (take m.n xs)), settled m.w (take m.n xs) xs) (lt-ltb (length xs) m.w h)

  word_by : m.w ≤ length xs → (o : Option (List ℕ)) → message_of_word A m (take m.n xs) ≡ o → word_returned A m xs ≡ (word_returned_by o, settled m.w (take m.n xs) xs)
  unfolding word_returned
  word_by h o e =
      cond-false (ltb (length xs) m.w) (refused 1 [], xs) (word_returned_by (message_of_word A m (take m.n xs)), settled m.w (take m.n xs) xs) (le-ltb (length xs) m.w h)
      ∙ ap (λ (p : Option (List ℕ)). (word_returned_by p, settled m.w (take m.n xs) xs)) e

module _ (A : Arithmetic) (m : Meaning) (keeps : Keeps A m) (xs : List ℕ) where
  -- the message of a send that is not refused
  sent_symbols : m.w ≤ length xs → first_mark A.q (take m.k xs) ≡ None → Symbols A.q m.k (take m.k xs)
  sent_symbols h e =
      record { long = length-take-le m.k xs (omega (arith, keeps.room_for_message)); each = symbols_from_no_mark A.q (take m.k xs) e }

  -- a refused send is what the two calls come to
  pub send_refused : (n : ℕ) (values ys : List ℕ) → sent A m xs ≡ (refused n values, ys) → message_returned A m xs ≡ (refused n values, ys)
  send_refused n values ys e = ⊎_elim short long (cases_lt (length xs) m.w)
    where
      short : length xs < m.w → message_returned A m xs ≡ (refused n values, ys)
      short h = message_short A m xs h ∙ sym (sent_short A m xs h) ∙ e

      go : m.w ≤ length xs → (o : Option ℕ) → first_mark A.q (take m.k xs) ≡ o → message_returned A m xs ≡ (refused n values, ys)
      go h None f = absurd (not_accepted n values (ap (λ (p : Answer). p.0) (sym e ∙ sent_by_lem A m xs h None f)))
      go h (Some p) f = message_by A m xs h (Some p) f ∙ sym (sent_by_lem A m xs h (Some p) f) ∙ e

      long : m.w ≤ length xs → message_returned A m xs ≡ (refused n values, ys)
      long h = go h (first_mark A.q (take m.k xs)) refl

  -- an accepted send is of a message, and leaves its word
  pub send_accepted : (ys : List ℕ) → sent A m xs ≡ (accepted, ys) → (m.w ≤ length xs) × (first_mark A.q (take m.k xs) ≡ None) × (ys ≡ settled m.w (m.word (take m.k xs)) xs)
  send_accepted ys e = ⊎_elim (λ (h : length xs < m.w). absurd (not_accepted 1 [] (ap (λ (p : Answer). p.0) (sym (sent_short A m xs h) ∙ e)))) long (cases_lt (length xs) m.w)
    where
      go : m.w ≤ length xs → (o : Option ℕ) → first_mark A.q (take m.k xs) ≡ o → (m.w ≤ length xs) × (first_mark A.q (take m.k xs) ≡ None) × (ys ≡ settled m.w (m.word (take m.k xs)) xs)
      go h None f = (h, f, ap (λ (p : Answer). p.1) (sym e ∙ sent_by_lem A m xs h None f))
      go h (Some p) f = absurd (not_accepted 2 (p ∷ []) (ap (λ (p : Answer). p.0) (sym (sent_by_lem A m xs h (Some p) f) ∙ e)))

      long : m.w ≤ length xs → (m.w ≤ length xs) × (first_mark A.q (take m.k xs) ≡ None) × (ys ≡ settled m.w (m.word (take m.k xs)) xs)
      long h = go h (first_mark A.q (take m.k xs)) refl

  -- what was sent is read as the message
  pub send_then_read_lem : (ys : List ℕ) → sent A m xs ≡ (accepted, ys) → read_back A m ys ≡ message_returned A m xs
  send_then_read_lem ys e =
      let a = send_accepted ys e in
      let s = sent_symbols a.0 a.1 in
      let long = (keeps.words (take m.k xs) s).long in
      let room : length (m.word (take m.k xs)) ≤ m.w = omega (arith, long, keeps.room_for_word) in
      ap (read_back A m) a.2
      ∙ read_word A m (settled m.w (m.word (take m.k xs)) xs) keeps (omega (arith, a.0, length_settled m.w (m.word (take m.k xs)) xs room a.0)) (take m.k xs) s (sym (take_settled m.w m.n (m.word (take m.k xs)) xs long))
      ∙ ap (λ (z : List ℕ). (accepted, z)) (settled_settled m.w (m.word (take m.k xs)) xs room (take m.k xs))
      ∙ sym (message_by A m xs a.0 None a.1)

  -- mending what was sent leaves it as it is
  pub send_then_mend_lem : (ys : List ℕ) → sent A m xs ≡ (accepted, ys) → mended A m ys ≡ sent A m xs
  send_then_mend_lem ys e =
      let a = send_accepted ys e in
      let s = sent_symbols a.0 a.1 in
      let word = m.word (take m.k xs) in
      let long = (keeps.words (take m.k xs) s).long in
      let room : length word ≤ m.w = omega (arith, long, keeps.room_for_word) in
      let there = take_settled m.w m.n word xs long in
      ap (mended A m) a.2
      ∙ mended_reach A m (settled m.w word xs) keeps (omega (arith, a.0, length_settled m.w word xs room a.0)) (take m.k xs) (rw there (own_word_in_reach A m keeps (take m.k xs) s))
      ∙ ap (λ (z : List ℕ). (accepted, z)) (settled_settled m.w word xs room word ∙ sym a.2)
      ∙ sym e

  -- a refused read is what the two calls come to
  pub read_refused : (n : ℕ) (values ys : List ℕ) → read_back A m xs ≡ (refused n values, ys) → word_returned A m xs ≡ (refused n values, ys)
  read_refused n values ys e = ⊎_elim short long (cases_lt (length xs) m.w)
    where
      short : length xs < m.w → word_returned A m xs ≡ (refused n values, ys)
      short h = word_short A m xs h ∙ sym (read_short A m xs h) ∙ e

      go : m.w ≤ length xs → (o : Option (List ℕ)) → message_of_word A m (take m.n xs) ≡ o → word_returned A m xs ≡ (refused n values, ys)
      go h None f = word_by A m xs h None f ∙ sym (read_by_lem A m xs h None f) ∙ e
      go h (Some s) f = absurd (not_accepted n values (ap (λ (p : Answer). p.0) (sym e ∙ read_by_lem A m xs h (Some s) f)))

      long : m.w ≤ length xs → word_returned A m xs ≡ (refused n values, ys)
      long h = go h (message_of_word A m (take m.n xs)) refl

  -- the message that was read is sent as the word
  pub read_then_send_lem : (ys : List ℕ) → read_back A m xs ≡ (accepted, ys) → sent A m ys ≡ word_returned A m xs
  read_then_send_lem ys e = ⊎_elim (λ (h : length xs < m.w). absurd (not_accepted 1 [] (ap (λ (p : Answer). p.0) (sym (read_short A m xs h) ∙ e)))) long (cases_lt (length xs) m.w)
    where
      go : m.w ≤ length xs → (o : Option (List ℕ)) → message_of_word A m (take m.n xs) ≡ o → sent A m ys ≡ word_returned A m xs
      go h None f = absurd (not_accepted 4 [] (ap (λ (p : Answer). p.0) (sym (read_by_lem A m xs h None f) ∙ e)))
      go h (Some s) f =
          let r = read_is_word A m (take m.n xs) s f in
          let after : ys ≡ settled m.w s xs = ap (λ (p : Answer). p.1) (sym e ∙ read_by_lem A m xs h (Some s) f) in
          let room : length s ≤ m.w = omega (arith, r.0.long, keeps.room_for_message) in
          let front = take_settled m.w m.k s xs r.0.long in
          ap (sent A m) after
          ∙ sent_message A m (settled m.w s xs) (omega (arith, h, length_settled m.w s xs room h)) (rw front r.0.each)
          ∙ ap (λ (z : List ℕ). (accepted, settled m.w (m.word z) (settled m.w s xs))) front
          ∙ ap (λ (z : List ℕ). (accepted, z)) (settled_settled m.w s xs room (m.word s) ∙ ap (λ (z : List ℕ). settled m.w z xs) r.1)
          ∙ sym (word_by A m xs h (Some s) f)

      long : m.w ≤ length xs → sent A m ys ≡ word_returned A m xs
      long h = go h (message_of_word A m (take m.n xs)) refl

  -- mend in the words of reach
  pub mends_what_is_in_reach : (answer : Outcome) (ys : List ℕ) → mended A m xs ≡ (answer, ys) → MendsWhatIsInReach A m xs answer ys
  mends_what_is_in_reach answer ys e =
      record {
        short = λ h. let f = sym e ∙ mended_short A m xs h in (ap (λ (p : Answer). p.0) f, ap (λ (p : Answer). p.1) f);
        gives = λ h s r. let f = sym e ∙ mended_reach A m xs keeps h s r in (ap (λ (p : Answer). p.0) f, ap (λ (p : Answer). p.1) f);
        accepts = λ a. accepts a;
        refuses = λ h none. let f = sym e ∙ mended_none A m xs h none in (ap (λ (p : Answer). p.0) f, ap (λ (p : Answer). p.1) f);
      }
    where
      go : answer ≡ accepted → m.w ≤ length xs → (o : Option (List ℕ)) → message_in_reach A m (take m.n xs) ≡ o → (s : List ℕ) × InReach A m (take m.n xs) s
      go a h None f = absurd (not_accepted 3 [] (ap (λ (p : Answer). p.0) (sym (mended_by_lem A m xs h None f) ∙ e) ∙ a))
      go a h (Some s) f = (s, found_in_reach A m (take m.n xs) s f)

      accepts : answer ≡ accepted → (s : List ℕ) × InReach A m (take m.n xs) s
      accepts a =
          ⊎_elim (λ (h : length xs < m.w). absurd (not_accepted 1 [] (ap (λ (p : Answer). p.0) (sym (mended_short A m xs h) ∙ e) ∙ a)))
          (λ (h : m.w ≤ length xs). go a h (message_in_reach A m (take m.n xs)) refl) (cases_lt (length xs) m.w)

-- The calls of a code, case by case. Assumes nothing.
use Rattle.std.proofs.Common.{◌≡◌, ℕ, zero, suc, ◌*◌, ◌<◌, ◌≤◌, Bool, true, false, cond, ltb, List, [], ◌∷◌, ◌++◌, length, get_or, take, Some, None, Option, sym, refl, ap, ◌∙◌, arith}
use Rattle.std.specs.Option.{option_map}
use Rattle.std.specs.List.{AllByRecursion as All}
use Rattle.std.proofs.lemmas.List.{length-take-le}
use Rattle.std.proofs.lemmas.Bool.{lt-ltb, le-ltb, ltb-true, cond-true, cond-false}
use Rattle.theory.specs.Alphabets.{Arithmetic}
use Rattle.theory.specs.Calls.{Outcome, Answer, accepted, refused, first_mark, sent_by, sent, mended_by, mended, read_by, read_back, shown}
use Rattle.theory.specs.Meanings.{Meaning, Keeps}
use Rattle.theory.specs.Memory.{settled}
use Rattle.theory.specs.Reach.{InReach, message_in_reach, message_of_word}
use Rattle.theory.specs.Words.{Symbols}
use Rattle.theory.proofs.Reach.{found_in_reach, in_reach_found, read_is_word, own_word_found}

-- an outcome and the memory with it
abbrev pub paired : Outcome → List ℕ → Answer
paired o ys = (o, ys)

-- a list without marks has no first mark
pub first_mark_none : (q : ℕ) (xs : List ℕ) → All (λ x. x < q) xs → first_mark q xs ≡ None
first_mark_none q [] h = refl
first_mark_none q (x ∷ xs) h =
    cond-true (ltb x q) (option_map suc (first_mark q xs)) (Some 0) (lt-ltb x q h.0) ∙ ap (option_map suc) (first_mark_none q xs h.1)

-- and one that has no first mark is one of symbols
pub symbols_from_no_mark : (q : ℕ) (xs : List ℕ) → first_mark q xs ≡ None → All (λ x. x < q) xs
symbols_from_no_mark q [] e = tt
symbols_from_no_mark q (x ∷ xs) e = go (ltb x q) refl (first_mark q xs) refl e (symbols_from_no_mark q xs)
  where
    go : (b : Bool) → ltb x q ≡ b → (o : Option ℕ) → first_mark q xs ≡ o → cond b (option_map suc o) (Some 0) ≡ None → (first_mark q xs ≡ None → All (λ y. y < q) xs) → (x < q) × All (λ y. y < q) xs
    go true b None f g rest = (ltb-true x q b, rest f)
    go true b (Some p) f g rest = absurd (let z : ◌≡◌ {A = ℕ} 0 1 = cc in omega arith)
    go false b o f g rest = absurd (let z : ◌≡◌ {A = ℕ} 0 1 = cc in omega arith)

-- symbols up to a place, and a mark there
pub first_mark_at : (q : ℕ) (xs : List ℕ) (i : ℕ) → All (λ x. x < q) (take i xs) → i < length xs → q ≤ get_or xs i 0 → first_mark q xs ≡ Some i
first_mark_at q [] i h l m = absurd (omega arith)
first_mark_at q (x ∷ xs) zero h l m = cond-false (ltb x q) (option_map suc (first_mark q xs)) (Some 0) (le-ltb x q m)
first_mark_at q (x ∷ xs) (suc i) h l m =
    cond-true (ltb x q) (option_map suc (first_mark q xs)) (Some 0) (lt-ltb x q h.0) ∙ ap (option_map suc) (first_mark_at q xs i h.1 (omega arith) m)

module _ (A : Arithmetic) (m : Meaning) (xs : List ℕ) where
  pub sent_short : length xs < m.w → sent A m xs ≡ (refused 1 [], xs)
  unfolding sent
  sent_short h = cond-true (ltb (length xs) m.w) (refused 1 [], xs) (sent_by m xs (first_mark A.q (take m.k xs))) (lt-ltb (length xs) m.w h)

  pub sent_by_lem : m.w ≤ length xs → (o : Option ℕ) → first_mark A.q (take m.k xs) ≡ o → sent A m xs ≡ sent_by m xs o
  unfolding sent
  sent_by_lem h o e = cond-false (ltb (length xs) m.w) (refused 1 [], xs) (sent_by m xs (first_mark A.q (take m.k xs))) (le-ltb (length xs) m.w h) ∙ ap (sent_by m xs) e

  pub sent_message : m.w ≤ length xs → All (λ x. x < A.q) (take m.k xs) → sent A m xs ≡ (accepted, settled m.w (m.word (take m.k xs)) xs)
  sent_message h s = sent_by_lem h None (first_mark_none A.q (take m.k xs) s)

  pub mended_short : length xs < m.w → mended A m xs ≡ (refused 1 [], xs)
  unfolding mended
  mended_short h = cond-true (ltb (length xs) m.w) (refused 1 [], xs) (mended_by m xs (message_in_reach A m (take m.n xs))) (lt-ltb (length xs) m.w h)

  pub mended_by_lem : m.w ≤ length xs → (o : Option (List ℕ)) → message_in_reach A m (take m.n xs) ≡ o → mended A m xs ≡ mended_by m xs o
  unfolding mended
  mended_by_lem h o e = cond-false (ltb (length xs) m.w) (refused 1 [], xs) (mended_by m xs (message_in_reach A m (take m.n xs))) (le-ltb (length xs) m.w h) ∙ ap (mended_by m xs) e

  pub mended_none : m.w ≤ length xs → ((s : List ℕ) → InReach A m (take m.n xs) s → ⊥) → mended A m xs ≡ (refused 3 [], settled m.w (take m.n xs) xs)
  mended_none h none = go (message_in_reach A m (take m.n xs)) refl
    where
      go : (o : Option (List ℕ)) → message_in_reach A m (take m.n xs) ≡ o → mended A m xs ≡ (refused 3 [], settled m.w (take m.n xs) xs)
      go None e = mended_by_lem h None e
      go (Some s) e = absurd (none s (found_in_reach A m (take m.n xs) s e))

  pub read_short : length xs < m.w → read_back A m xs ≡ (refused 1 [], xs)
  unfolding read_back
  read_short h = cond-true (ltb (length xs) m.w) (refused 1 [], xs) (read_by m xs (message_of_word A m (take m.n xs))) (lt-ltb (length xs) m.w h)

  pub read_by_lem : m.w ≤ length xs → (o : Option (List ℕ)) → message_of_word A m (take m.n xs) ≡ o → read_back A m xs ≡ read_by m xs o
  unfolding read_back
  read_by_lem h o e = cond-false (ltb (length xs) m.w) (refused 1 [], xs) (read_by m xs (message_of_word A m (take m.n xs))) (le-ltb (length xs) m.w h) ∙ ap (read_by m xs) e

  pub read_none : m.w ≤ length xs → ((s : List ℕ) → Symbols A.q m.k s → m.word s ≡ take m.n xs → ⊥) → read_back A m xs ≡ (refused 4 [], settled m.w (take m.n xs) xs)
  read_none h none = go (message_of_word A m (take m.n xs)) refl
    where
      go : (o : Option (List ℕ)) → message_of_word A m (take m.n xs) ≡ o → read_back A m xs ≡ (refused 4 [], settled m.w (take m.n xs) xs)
      go None e = read_by_lem h None e
      go (Some s) e = let r = read_is_word A m (take m.n xs) s e in absurd (none s r.0 r.1)

  module _ (keeps : Keeps A m) where
    pub mended_reach : m.w ≤ length xs → (s : List ℕ) → InReach A m (take m.n xs) s → mended A m xs ≡ (accepted, settled m.w (m.word s) xs)
    mended_reach h s r =
        mended_by_lem h (Some s) (in_reach_found A m keeps (take m.n xs) s (length-take-le m.n xs (omega (arith, keeps.room_for_word))) r)

    pub read_word : m.w ≤ length xs → (s : List ℕ) → Symbols A.q m.k s → m.word s ≡ take m.n xs → read_back A m xs ≡ (accepted, settled m.w s xs)
    read_word h s r e = read_by_lem h (Some s) (ap (message_of_word A m) (sym e) ∙ own_word_found A m keeps s r)

module _ (m : Meaning) (s t xs : List ℕ) where
  pub shown_short : length xs < 2 * m.w → shown m s t xs ≡ (refused 1 [], xs)
  unfolding shown
  shown_short h = cond-true (ltb (length xs) (2 * m.w)) (refused 1 [], xs) (accepted, settled (2 * m.w) (s ++ t) xs) (lt-ltb (length xs) (2 * m.w) h)

  pub shown_pair : 2 * m.w ≤ length xs → shown m s t xs ≡ (accepted, settled (2 * m.w) (s ++ t) xs)
  unfolding shown
  shown_pair h = cond-false (ltb (length xs) (2 * m.w)) (refused 1 [], xs) (accepted, settled (2 * m.w) (s ++ t) xs) (le-ltb (length xs) (2 * m.w) h)

-- a first mark is a place of the list
pub first_mark_within : (q : ℕ) (xs : List ℕ) (p : ℕ) → first_mark q xs ≡ Some p → p < length xs
first_mark_within q [] p e = absurd (let z : ◌≡◌ {A = ℕ} 0 1 = cc in omega arith)
first_mark_within q (x ∷ xs) p e = go (ltb x q) (first_mark q xs) refl e (first_mark_within q xs)
  where
    go : (b : Bool) (o : Option ℕ) → first_mark q xs ≡ o → cond b (option_map suc o) (Some 0) ≡ Some p → ((r : ℕ) → first_mark q xs ≡ Some r → r < length xs) → p < length (x ∷ xs)
    go true None f g rest = absurd (let z : ◌≡◌ {A = ℕ} 0 1 = cc in omega arith)
    go true (Some r) f g rest = let e : suc r ≡ p = cc in omega (arith, rest r f)
    go false o f g rest = let e : 0 ≡ p = cc in omega arith

-- Send, mend and read of a code in a part of W bytes: the result in front of the part, and zeros behind it. Assumes nothing.
use Rattle.std.proofs.Common.{◌≡◌, ℕ, ◌+◌, ◌-◌, ◌<◌, ◌≤◌, List, [], ◌++◌, length, take, drop, replicate, Some, None, Option, sym, refl, ap, ◌∙◌, subst, arith, length-append}
use lib.ListN.{length-replicate}
use Rattle.std.specs.List.{AllByRecursion as All}
use Rattle.std.proofs.lemmas.List.{take-take, take_all}
use Rattle.std.proofs.lemmas.Bool.{le-leb}
use Rattle.theory.specs.Alphabets.{Arithmetic}
use Rattle.theory.specs.Calls.{Outcome, Answer, accepted, refused, sent, mended, read_back}
use Rattle.theory.specs.Meanings.{Meaning, Keeps}
use Rattle.theory.specs.Memory.{over, part, settled}
use Rattle.theory.specs.Parts.{Call, in_part, call_in_part}
use Rattle.theory.specs.Reach.{message_in_reach, message_of_word}
use Rattle.theory.specs.Words.{Symbols}
use Rattle.theory.proofs.Calls.{paired, sent_message, mended_by_lem, read_by_lem}
use Rattle.theory.proofs.Memory.{moved_there}
use Rattle.theory.proofs.Overs.{length_part, length_over, part_over, over_again, settled_part}
use Rattle.theory.proofs.Parts.{part_there}
use Rattle.theory.proofs.Reach.{found_in_reach, read_is_word}

-- a part of w bytes with a result in front and zeros behind
abbrev pub fresh : ℕ → List ℕ → List ℕ
fresh w result = result ++ replicate (w - length result) 0

pub length_fresh : (w : ℕ) (result : List ℕ) → length result ≤ w → length (fresh w result) ≡ w
length_fresh w result h = simp (length-append, length-replicate) (omega arith)

-- a call that settles a result in a part of w bytes, given the count bytes that are moved into its front
module _ (call : Call) (from count at w : ℕ) (xs : List ℕ) (fits : count ≤ w) (from_in : from + count ≤ length xs) (at_in : at + w ≤ length xs) where
  long : length (part xs from count) ≡ count
  long = length_part xs from count from_in

  inside : at + length (part xs from count) ≤ length xs
  inside = omega (arith, long)

  whole : length (part (over xs at (part xs from count)) at w) ≡ w
  whole = length_part (over xs at (part xs from count)) at w (omega (arith, length_over xs at (part xs from count) inside))

  -- what was moved stands in front of the part
  pub in_front : take count (part (over xs at (part xs from count)) at w) ≡ part xs from count
  in_front =
      take-take count w (drop at (over xs at (part xs from count))) fits
      ∙ part_over xs at (part xs from count) inside count (omega (arith, long)) ∙ take_all count (part xs from count) (omega (arith, long))

  pub called_in_part : (o : Outcome) (result : List ℕ) → length result ≤ w → ((ys : List ℕ) → length ys ≡ w → take count ys ≡ part xs from count → call ys ≡ paired o (settled w result ys)) → call_in_part call from count at w xs ≡ paired o (over xs at (fresh w result))
  called_in_part o result small answers =
      part_there call from count at w xs (le-leb (at + w) (length xs) at_in)
      ∙ ap (in_part call at w) (moved_there xs from count at (le-leb (from + count) (length xs) from_in) (le-leb (at + count) (length xs) (omega arith)))
      ∙ ap (λ (p : Answer). paired p.0 (over (over xs at (part xs from count)) at p.1)) (answers (part (over xs at (part xs from count)) at w) whole in_front)
      ∙ ap (λ (z : List ℕ). paired o (over (over xs at (part xs from count)) at z)) (settled_part w (length result) result (part (over xs at (part xs from count)) at w) whole refl)
      ∙ ap (paired o) (over_again xs at (part xs from count) (fresh w result) (omega (arith, length_fresh w result small)) (omega (arith, long, length_fresh w result small)))

module _ (A : Arithmetic) (m : Meaning) (keeps : Keeps A m) (from at : ℕ) (xs : List ℕ) (at_in : at + m.w ≤ length xs) where
  pub sent_in_part : from + m.k ≤ length xs → All (λ x. x < A.q) (part xs from m.k) → call_in_part (sent A m) from m.k at m.w xs ≡ paired accepted (over xs at (fresh m.w (m.word (part xs from m.k))))
  sent_in_part from_in symbols =
      let message : Symbols A.q m.k (part xs from m.k) = record { long = length_part xs from m.k from_in; each = symbols } in
      called_in_part (sent A m) from m.k at m.w xs keeps.room_for_message from_in at_in accepted (m.word (part xs from m.k)) (omega (arith, (keeps.words (part xs from m.k) message).long, keeps.room_for_word))
      (λ ys e f. sent_message A m ys (omega (arith, e)) (subst (All (λ x. x < A.q)) (sym f) symbols) ∙ ap (λ (s : List ℕ). paired accepted (settled m.w (m.word s) ys)) f)

  -- what mend leaves in its part
  abbrev pub mended_part : Option (List ℕ) → Answer
  mended_part None = (refused 3 [], over xs at (fresh m.w (part xs from m.n)))
  mended_part (Some s) = (accepted, over xs at (fresh m.w (m.word s)))

  pub mended_in_part : from + m.n ≤ length xs → call_in_part (mended A m) from m.n at m.w xs ≡ mended_part (message_in_reach A m (part xs from m.n))
  mended_in_part from_in = go (message_in_reach A m (part xs from m.n)) refl
    where
      long : length (part xs from m.n) ≡ m.n
      long = length_part xs from m.n from_in

      go : (o : Option (List ℕ)) → message_in_reach A m (part xs from m.n) ≡ o → call_in_part (mended A m) from m.n at m.w xs ≡ mended_part o
      go None e =
          called_in_part (mended A m) from m.n at m.w xs keeps.room_for_word from_in at_in (refused 3 []) (part xs from m.n) (omega (arith, long, keeps.room_for_word))
          (λ ys l f. mended_by_lem A m ys (omega (arith, l)) None (ap (message_in_reach A m) f ∙ e) ∙ ap (λ (r : List ℕ). paired (refused 3 []) (settled m.w r ys)) f)
      go (Some s) e =
          called_in_part (mended A m) from m.n at m.w xs keeps.room_for_word from_in at_in accepted (m.word s) (omega (arith, (keeps.words s (found_in_reach A m (part xs from m.n) s e).message).long, keeps.room_for_word))
          (λ ys l f. mended_by_lem A m ys (omega (arith, l)) (Some s) (ap (message_in_reach A m) f ∙ e))

  -- what read leaves in its part
  abbrev pub read_part : Option (List ℕ) → Answer
  read_part None = (refused 4 [], over xs at (fresh m.w (part xs from m.n)))
  read_part (Some s) = (accepted, over xs at (fresh m.w s))

  pub read_in_part : from + m.n ≤ length xs → call_in_part (read_back A m) from m.n at m.w xs ≡ read_part (message_of_word A m (part xs from m.n))
  read_in_part from_in = go (message_of_word A m (part xs from m.n)) refl
    where
      long : length (part xs from m.n) ≡ m.n
      long = length_part xs from m.n from_in

      go : (o : Option (List ℕ)) → message_of_word A m (part xs from m.n) ≡ o → call_in_part (read_back A m) from m.n at m.w xs ≡ read_part o
      go None e =
          called_in_part (read_back A m) from m.n at m.w xs keeps.room_for_word from_in at_in (refused 4 []) (part xs from m.n) (omega (arith, long, keeps.room_for_word))
          (λ ys l f. read_by_lem A m ys (omega (arith, l)) None (ap (message_of_word A m) f ∙ e) ∙ ap (λ (r : List ℕ). paired (refused 4 []) (settled m.w r ys)) f)
      go (Some s) e =
          called_in_part (read_back A m) from m.n at m.w xs keeps.room_for_word from_in at_in accepted s (omega (arith, (read_is_word A m (part xs from m.n) s e).0.long, keeps.room_for_message))
          (λ ys l f. read_by_lem A m ys (omega (arith, l)) (Some s) (ap (message_of_word A m) f ∙ e))

-- what mend puts in front of its part, and whether it accepts
abbrev pub mend_result : Meaning → List ℕ → Option (List ℕ) → List ℕ
mend_result m received None = received
mend_result m received (Some s) = m.word s

abbrev pub mend_outcome : Option (List ℕ) → Outcome
mend_outcome None = refused 3 []
mend_outcome (Some s) = accepted

-- where mend accepts it has found a message
pub mend_found : (o : Option (List ℕ)) → mend_outcome o ≡ accepted → (s : List ℕ) × (o ≡ Some s)
mend_found None e = absurd (let z : ◌≡◌ {A = ℕ} 0 1 = cc in omega arith)
mend_found (Some s) e = (s, refl)

module _ (A : Arithmetic) (m : Meaning) (keeps : Keeps A m) where
  pub mend_result_long : (rs : List ℕ) → length rs ≡ m.n → length (mend_result m rs (message_in_reach A m rs)) ≡ m.n
  mend_result_long rs e = go (message_in_reach A m rs) refl
    where
      go : (o : Option (List ℕ)) → message_in_reach A m rs ≡ o → length (mend_result m rs o) ≡ m.n
      go None f = e
      go (Some s) f = (keeps.words s (found_in_reach A m rs s f).message).long

  pub mended_result : (from at : ℕ) (xs : List ℕ) → at + m.w ≤ length xs → from + m.n ≤ length xs → call_in_part (mended A m) from m.n at m.w xs ≡ paired (mend_outcome (message_in_reach A m (part xs from m.n))) (over xs at (fresh m.w (mend_result m (part xs from m.n) (message_in_reach A m (part xs from m.n)))))
  mended_result from at xs at_in from_in = mended_in_part A m keeps from at xs at_in from_in ∙ go (message_in_reach A m (part xs from m.n))
    where
      go : (o : Option (List ℕ)) → mended_part A m keeps from at xs at_in o ≡ paired (mend_outcome o) (over xs at (fresh m.w (mend_result m (part xs from m.n) o)))
      go None = refl
      go (Some s) = refl

-- what read puts in front of its part, and whether it accepts
abbrev pub read_result_of : List ℕ → Option (List ℕ) → List ℕ
read_result_of received None = received
read_result_of received (Some s) = s

abbrev pub read_outcome : Option (List ℕ) → Outcome
read_outcome None = refused 4 []
read_outcome (Some s) = accepted

pub read_found : (o : Option (List ℕ)) → read_outcome o ≡ accepted → (s : List ℕ) × (o ≡ Some s)
read_found None e = absurd (let z : ◌≡◌ {A = ℕ} 0 1 = cc in omega arith)
read_found (Some s) e = (s, refl)

module _ (A : Arithmetic) (m : Meaning) (keeps : Keeps A m) where
  pub read_result_fits : (rs : List ℕ) → length rs ≡ m.n → length (read_result_of rs (message_of_word A m rs)) ≤ m.w
  read_result_fits rs e = go (message_of_word A m rs) refl
    where
      go : (o : Option (List ℕ)) → message_of_word A m rs ≡ o → length (read_result_of rs o) ≤ m.w
      go None f = omega (arith, keeps.room_for_word)
      go (Some s) f = omega (arith, (read_is_word A m rs s f).0.long, keeps.room_for_message)

  pub read_result : (from at : ℕ) (xs : List ℕ) → at + m.w ≤ length xs → from + m.n ≤ length xs → call_in_part (read_back A m) from m.n at m.w xs ≡ paired (read_outcome (message_of_word A m (part xs from m.n))) (over xs at (fresh m.w (read_result_of (part xs from m.n) (message_of_word A m (part xs from m.n)))))
  read_result from at xs at_in from_in = read_in_part A m keeps from at xs at_in from_in ∙ go (message_of_word A m (part xs from m.n))
    where
      go : (o : Option (List ℕ)) → read_part A m keeps from at xs at_in o ≡ paired (read_outcome o) (over xs at (fresh m.w (read_result_of (part xs from m.n) o)))
      go None = refl
      go (Some s) = refl

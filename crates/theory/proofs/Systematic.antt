-- Codes whose word is the message and then checks, shown to keep their meaning by one test over all words. Assumes nothing.
use Rattle.std.proofs.Common.{◌≡◌, ℕ, ◌<◌, ◌≤◌, Bool, true, cond, ◌&&◌, ◌||◌, eqb, ltb, leb, List, [], ◌∷◌, ◌++◌, map, length, Some, None, sym, refl, ◌∙◌, ⊎_elim, arith}
use Rattle.std.specs.List.{AllByRecursion as All}
use Rattle.std.proofs.lemmas.List.{get_or_append_left}
use Rattle.std.proofs.lemmas.Bool.{ltb-true, leb-true, eqb-true, le-ltb, cond-false, and_parts, or_cases}
use Rattle.std.proofs.lemmas.Bool.Decides.{Decides-ltb}
use Rattle.std.proofs.ByRecursion.{Decides-by_and}
use Rattle.theory.specs.Alphabets.{Arithmetic}
use Rattle.theory.specs.Meanings.{Meaning, Keeps}
use Rattle.theory.specs.Reach.{messages}
use Rattle.theory.specs.Words.{Symbols, differ}
use Rattle.theory.proofs.Carriers.{carrier_there}
use Rattle.theory.proofs.Reach.{messages_has}
use Rattle.theory.proofs.Words.{differ_append, same_from_no_difference}

-- the message, then its checks; each place of the message carries itself
abbrev pub systematic : (n k d w : ℕ) → (List ℕ → List ℕ) → Meaning
systematic n k d w checks = record { n = n; k = k; d = d; w = w; word = λ s. s ++ checks s; carrier = λ i. cond (ltb i k) (Some i) None }

-- the test passes for every element
abbrev every : {X : Type 0} → (X → Bool) → List X → Bool
every test [] = true
every test (x ∷ xs) = test x && every test xs

-- a test of what a list is mapped to, as a fact about each element
passes : {X Y : Type 0} (test : Y → Bool) (f : X → Y) (xs : List X) → every test (map f xs) ≡ true → All (λ x. test (f x) ≡ true) xs
passes test f xs = (Decides-by_and (λ x. test (f x)) _ (λ ys. every test (map f ys)) (λ x. (λ h. h, λ h. h)) refl (λ _ _. refl) xs).0

-- the word has n symbols
abbrev is_word : ℕ → ℕ → List ℕ → Bool
is_word q n x = eqb (length x) n && every (λ a. ltb a q) x

-- two words are different nowhere, or in at least d places
abbrev is_apart : ℕ → ℕ → Bool
is_apart d places = eqb places 0 || leb d places

-- the one test of all words and all pairs of them; the words are an argument, so that they are computed once
abbrev passing : ℕ → ℕ → ℕ → List (List ℕ) → Bool
passing q n d words = every (λ x. is_word q n x && every (λ y. is_apart d (differ x y)) words) words

abbrev pub Passes : Arithmetic → Meaning → Type 0
Passes A m = passing A.q m.n m.d (map m.word (messages A.q m.k)) ≡ true

module _ (A : Arithmetic) (n k d w : ℕ) (checks : List ℕ → List ℕ) (test : Passes A (systematic n k d w checks)) where
  -- what the test says of one message
  of_one : (s : List ℕ) → Symbols A.q k s → (is_word A.q n (s ++ checks s) ≡ true) × (every (λ y. is_apart d (differ (s ++ checks s) y)) (map (λ t. t ++ checks t) (messages A.q k)) ≡ true)
  of_one s h = and_parts _ _ (messages_has _ A.q k s h (passes _ (λ t. t ++ checks t) (messages A.q k) test))

  -- and of two
  of_two : (s t : List ℕ) → Symbols A.q k s → Symbols A.q k t → is_apart d (differ (s ++ checks s) (t ++ checks t)) ≡ true
  of_two s t hs ht = messages_has _ A.q k t ht (passes _ (λ t. t ++ checks t) (messages A.q k) (of_one s hs).1)

  -- each word has n symbols
  words : (s : List ℕ) → Symbols A.q k s → Symbols A.q n (s ++ checks s)
  words s h =
      let p = and_parts _ _ (of_one s h).0 in
      record { long = eqb-true _ n p.0; each = (Decides-by_and _ (λ x. x < A.q) (every (λ x. ltb x A.q)) (λ x. Decides-ltb x A.q) refl (λ _ _. refl) (s ++ checks s)).0 p.1 }

  -- words that differ nowhere have one front, and so are of one message
  apart : (s t : List ℕ) → Symbols A.q k s → Symbols A.q k t → (s ≡ t → ⊥) → d ≤ differ (s ++ checks s) (t ++ checks t)
  apart s t hs ht other =
      let long : length s ≡ length t = hs.long ∙ sym ht.long in
      let places = differ (s ++ checks s) (t ++ checks t) in
      let both = differ_append s t (checks s) (checks t) long in
      ⊎_elim (λ (e : eqb places 0 ≡ true). absurd (other (same_from_no_difference s t long (omega (arith, both, eqb-true places 0 e))))) (leb-true d places) (or_cases _ _ (of_two s t hs ht))

  -- the test and five bounds are all that such a code has to keep
  pub systematic_keeps : 1 ≤ k → 1 ≤ d → k ≤ n → n ≤ w → w ≤ 4096 → Keeps A (systematic n k d w checks)
  systematic_keeps some_symbols some_distance within room bounded =
      record {
        some_places = omega arith;
        some_symbols = some_symbols;
        some_distance = some_distance;
        room_for_word = room;
        room_for_message = omega arith;
        bounded = bounded;
        words = words;
        apart = apart;
        carrier_within = λ i t e. let p = carrier_there (ltb i k) i t e in omega (arith, p.1, ltb-true i k p.0);
        carries = λ i t e s h.
            let p = carrier_there (ltb i k) i t e in
            rw (← p.1) (get_or_append_left s (checks s) 0 i (omega (arith, h.long, ltb-true i k p.0)));
        carrier_absent = λ i h. cond-false (ltb i k) (Some i) None (le-ltb i k h);
      }

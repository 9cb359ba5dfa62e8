-- The calls of a code whose word is the message and then checks and fills the working memory, way by way. Assumes nothing.
use Rattle.std.proofs.Common.{◌≡◌, ℕ, ◌+◌, ◌-◌, ◌*◌, ◌<◌, ◌≤◌, List, [], ◌∷◌, ◌++◌, length, take, drop, Some, None, Option, sym, refl, ap, ◌∙◌, subst, arith}
use Rattle.std.specs.Option.{option_map}
use Rattle.std.specs.List.{AllByRecursion as All}
use Rattle.std.proofs.ByRecursion.{All-take}
use Rattle.std.proofs.lemmas.List.{length-take-le, take_at, take-take}
use Rattle.std.proofs.lemmas.Bool.{le-leb}
use Rattle.theory.specs.Alphabets.{Arithmetic}
use Rattle.theory.specs.Calls.{accepted, refused, first_mark, sent, mended, read_back}
use Rattle.theory.specs.Meanings.{Keeps}
use Rattle.theory.specs.Memory.{settled, cleared}
use Rattle.theory.specs.Reach.{message_in_reach, word_in_reach}
use Rattle.theory.specs.Words.{Symbols, wrong, marked, toll}
use Rattle.theory.proofs.Calls.{paired, symbols_from_no_mark, sent_by_lem, mended_by_lem, read_word, read_none}
use Rattle.theory.proofs.Counts.{symbols_from_unmarked}
use Rattle.theory.proofs.Memory.{settled_full, settled_found, settled_over, cleared_there}
use Rattle.theory.proofs.Reach.{found_in_reach}
use Rattle.theory.proofs.Search.{toll_from_damage}
use Rattle.theory.proofs.Systematic.{systematic}
use Rattle.theory.proofs.Words.{same_from_no_toll, toll_self}

module _ (A : Arithmetic) (n k d : ℕ) (checks : List ℕ → List ℕ) (keeps : Keeps A (systematic n k d n checks)) (xs : List ℕ) (room : n ≤ length xs) where
  message_first : k ≤ n
  message_first = keeps.room_for_message

  long : length (take n xs) ≡ n
  long = length-take-le n xs room

  message : first_mark A.q (take k xs) ≡ None → Symbols A.q k (take k xs)
  message e = record { long = length-take-le k xs (omega (arith, message_first)); each = symbols_from_no_mark A.q (take k xs) e }

  -- a word copied over the whole working memory
  written : (word : List ℕ) → length word ≡ n → word ++ drop n xs ≡ settled n word xs
  written word e = let all : n ≡ 0 + length word = omega arith in ap (λ (j : ℕ). word ++ drop j xs) all ∙ sym (settled_full n word xs e)

  pub send_mark : (p : ℕ) → first_mark A.q (take k xs) ≡ Some p → paired (refused 2 (p ∷ [])) xs ≡ sent A (systematic n k d n checks) xs
  send_mark p e = sym (sent_by_lem A (systematic n k d n checks) xs room (Some p) e)

  pub send_word : first_mark A.q (take k xs) ≡ None → (word : List ℕ) → word ≡ take k xs ++ checks (take k xs) → paired accepted (word ++ drop n xs) ≡ sent A (systematic n k d n checks) xs
  send_word e word is =
      ap (paired accepted) (written word (ap length is ∙ (keeps.words (take k xs) (message e)).long) ∙ ap (λ (ys : List ℕ). settled n ys xs) is)
      ∙ sym (sent_by_lem A (systematic n k d n checks) xs room None e)

  -- mend by the word in reach
  pub mend_word_lem : (word : List ℕ) → Some word ≡ word_in_reach A (systematic n k d n checks) (take n xs) → paired accepted (word ++ drop n xs) ≡ mended A (systematic n k d n checks) xs
  mend_word_lem word is = go (message_in_reach A (systematic n k d n checks) (take n xs)) refl is
    where
      go : (o : Option (List ℕ)) → message_in_reach A (systematic n k d n checks) (take n xs) ≡ o → Some word ≡ option_map (λ s. s ++ checks s) o → paired accepted (word ++ drop n xs) ≡ mended A (systematic n k d n checks) xs
      go None e f = absurd (let z : ◌≡◌ {A = ℕ} 0 1 = cc in omega arith)
      go (Some s) e f =
          let same : word ≡ s ++ checks s = cc in
          let reached = found_in_reach A (systematic n k d n checks) (take n xs) s e in
          ap (paired accepted) (written word (ap length same ∙ (keeps.words s reached.message).long) ∙ ap (λ (ys : List ℕ). settled n ys xs) same)
          ∙ sym (mended_by_lem A (systematic n k d n checks) xs room (Some s) e)

  pub mend_none : None ≡ word_in_reach A (systematic n k d n checks) (take n xs) → paired (refused 3 []) xs ≡ mended A (systematic n k d n checks) xs
  mend_none is = go (message_in_reach A (systematic n k d n checks) (take n xs)) refl is
    where
      go : (o : Option (List ℕ)) → message_in_reach A (systematic n k d n checks) (take n xs) ≡ o → None ≡ option_map (λ s. s ++ checks s) o → paired (refused 3 []) xs ≡ mended A (systematic n k d n checks) xs
      go None e f = ap (paired (refused 3 [])) (sym (settled_found n xs room)) ∙ sym (mended_by_lem A (systematic n k d n checks) xs room None e)
      go (Some s) e f = absurd (let z : ◌≡◌ {A = ℕ} 0 1 = cc in omega arith)

  -- a word begins with its message
  begins : (s : List ℕ) → length s ≡ k → s ++ checks s ≡ take n xs → s ≡ take k xs
  begins s e is = sym (take_at s (checks s) k e) ∙ ap (take k) is ∙ take-take k n xs message_first

  -- the counted damage of a word of n places is its toll
  damage_of : (word : List ℕ) → length word ≡ n → 2 * wrong A.q word (take n xs) + marked A.q (take (length word) (take n xs)) ≡ toll A.q word (take n xs)
  damage_of word size = toll_from_damage A.q word (take n xs) (size ∙ sym long)

  -- without damage the first n bytes are a word, of the message in front
  pub read_message : (word : List ℕ) → word ≡ take k xs ++ checks (take k xs) → length word ≡ n → 2 * wrong A.q word (take n xs) + marked A.q (take (length word) (take n xs)) < 1 → paired accepted (cleared xs k (n - k)) ≡ read_back A (systematic n k d n checks) xs
  read_message word is size free =
      let none : toll A.q word (take n xs) ≡ 0 = omega (arith, damage_of word size) in
      let there = same_from_no_toll A.q word (take n xs) (size ∙ sym long) none in
      let each = subst (All (λ x. x < A.q)) (take-take k n xs message_first) (All-take (λ x. x < A.q) k (take n xs) (symbols_from_unmarked A.q (take n xs) (omega arith))) in
      ap (paired accepted) (cleared_there xs k (n - k) (le-leb (k + (n - k)) (length xs) (omega (arith, message_first))) ∙ settled_over n k xs message_first room)
      ∙ sym (read_word A (systematic n k d n checks) xs keeps room (take k xs) (record { long = length-take-le k xs (omega (arith, message_first)); each = each }) (sym is ∙ there))

  refused_as_found : ((s : List ℕ) → Symbols A.q k s → s ++ checks s ≡ take n xs → ⊥) → paired (refused 4 []) xs ≡ read_back A (systematic n k d n checks) xs
  refused_as_found none = ap (paired (refused 4 [])) (sym (settled_found n xs room)) ∙ sym (read_none A (systematic n k d n checks) xs room none)

  pub read_other : (word : List ℕ) → word ≡ take k xs ++ checks (take k xs) → length word ≡ n → 1 ≤ 2 * wrong A.q word (take n xs) + marked A.q (take (length word) (take n xs)) → paired (refused 4 []) xs ≡ read_back A (systematic n k d n checks) xs
  read_other word is size costs =
      refused_as_found (λ s h e.
      let same : word ≡ take n xs = is ∙ ap (λ (a : List ℕ). a ++ checks a) (sym (begins s h.long e)) ∙ e in
      let each : All (λ x. x < A.q) (take n xs) = subst (All (λ x. x < A.q)) e (keeps.words s h).each in
      omega (arith, costs, damage_of word size, ap (λ (ys : List ℕ). toll A.q ys (take n xs)) same, toll_self A.q (take n xs) each))

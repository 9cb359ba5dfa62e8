-- The calls of the repetition code, way by way. Assumes nothing.
use Rattle.std.proofs.Common.{◌≡◌, ℕ, ◌+◌, ◌-◌, ◌<◌, ◌≤◌, List, [], ◌∷◌, ◌++◌, length, get_or, take, replicate, Some, sym, refl, ap, ◌∙◌, subst, arith}
use borrow.Rule.Slice.PartMut.{post_of}
use lib.ListN.{length-replicate}
use Rattle.std.specs.List.{AllByRecursion as All}
use Rattle.std.proofs.lemmas.List.{length-take-le, get_or-take, get_or-replicate}
use Rattle.std.proofs.ByRecursion.{All-get_or}
use Rattle.theory.specs.Alphabets.{Arithmetic}
use Rattle.theory.specs.Calls.{accepted, refused, sent, mended, read_back}
use Rattle.theory.specs.Meanings.{Keeps}
use Rattle.theory.specs.Memory.{settled, cleared}
use Rattle.theory.specs.Repetition.{repetition}
use Rattle.theory.specs.Words.{Symbols, marked, toll}
use Rattle.theory.proofs.Calls.{paired, sent_by_lem, sent_message, mended_reach, mended_none, read_word, read_none, first_mark_at}
use Rattle.theory.proofs.Counts.{symbols_from_unmarked}
use Rattle.theory.proofs.Memory.{front_is, front_fill, settled_full, settled_found, settled_over, cleared_there}
use Rattle.theory.proofs.Repetition.{repetition_keeps}
use Rattle.theory.proofs.Words.{same_from_no_toll, toll_self}
use Rattle.std.proofs.lemmas.Bool.{le-leb}

first_taken : (xs : List ℕ) → 1 ≤ length xs → take 1 xs ≡ get_or xs 0 0 ∷ []
first_taken [] h = absurd (omega arith)
first_taken (x ∷ xs) h = refl

one : (q x : ℕ) → x < q → Symbols q 1 (x ∷ [])
one q x h = record { long = refl; each = (h, tt) }

module _ (A : Arithmetic) (n : ℕ) (some : 1 ≤ n) (few : n ≤ 64) (xs : List ℕ) (room : n ≤ length xs) where
  keeps : Keeps A (repetition n)
  keeps = repetition_keeps A n some few

  -- the memory after a fill of the whole word
  filled : (part : List ℕ) (x : ℕ) → part ≡ replicate (length (take (n - 0) xs)) x → part ++ post_of 0 (n - 0) xs ≡ settled n (replicate n x) xs
  filled part x e = front_fill xs n part x room e ∙ sym (settled_full n (replicate n x) xs (length-replicate n x))

  -- what is received, as the check has it
  received : take (n - 0) xs ≡ take n xs
  received = front_is n xs

  long : length (take n xs) ≡ n
  long = length-take-le n xs room

  pub send_mark : A.q ≤ get_or xs 0 0 → paired (refused 2 (0 ∷ [])) xs ≡ sent A (repetition n) xs
  send_mark h =
      let front = first_taken xs (omega arith) in
      sym (sent_by_lem A (repetition n) xs room (Some 0) (first_mark_at A.q (take 1 xs) 0 tt (omega (arith, ap length front)) (omega (arith, h, ap (λ (ys : List ℕ). get_or ys 0 0) front))))

  pub send_symbol : get_or xs 0 0 < A.q → (part : List ℕ) → part ≡ replicate (length (take (n - 0) xs)) (get_or xs 0 0) → paired accepted (part ++ post_of 0 (n - 0) xs) ≡ sent A (repetition n) xs
  send_symbol h part e =
      let front = first_taken xs (omega arith) in
      ap (paired accepted) (filled part (get_or xs 0 0) e ∙ ap (λ (ys : List ℕ). settled n (replicate n (get_or ys 0 0)) xs) (sym front))
      ∙ sym (sent_message A (repetition n) xs room (subst (λ (ys : List ℕ). All (λ x. x < A.q) ys) (sym front) (h, tt)))

  -- the toll of the copies of a symbol is the toll of its word
  toll_is : (rs : List ℕ) → rs ≡ take n xs → (x : ℕ) → toll A.q (replicate (length rs) x) rs ≡ toll A.q (replicate n x) (take n xs)
  toll_is rs e x = ap (λ (ys : List ℕ). toll A.q (replicate (length ys) x) ys) e ∙ ap (λ (k : ℕ). toll A.q (replicate k x) (take n xs)) long

  pub mend_found : (x : ℕ) → (x < A.q) × (toll A.q (replicate (length (take (n - 0) xs)) x) (take (n - 0) xs) < length (take (n - 0) xs)) → (part : List ℕ) → part ≡ replicate (length (take (n - 0) xs)) x → paired accepted (part ++ post_of 0 (n - 0) xs) ≡ mended A (repetition n) xs
  mend_found x h part e =
      ap (paired accepted) (filled part x e)
      ∙ sym (mended_reach A (repetition n) xs keeps room (x ∷ []) (record { message = one A.q x h.0; near = omega (arith, h.1, toll_is (take (n - 0) xs) received x, ap length received, long) }))

  pub mend_none : ((x : ℕ) → x < A.q → length (take (n - 0) xs) ≤ toll A.q (replicate (length (take (n - 0) xs)) x) (take (n - 0) xs)) → paired (refused 3 []) xs ≡ mended A (repetition n) xs
  mend_none h =
      ap (paired (refused 3 [])) (sym (settled_found n xs room))
      ∙ sym (mended_none A (repetition n) xs room (λ s r. let x = get_or s 0 0 in omega (arith, r.near, h x (All-get_or (λ y. y < A.q) s 0 0 (omega (arith, r.message.long)) r.message.each), toll_is (take (n - 0) xs) received x, ap length received, long)))

  pub read_found : toll A.q (replicate (length (take (n - 0) xs)) (get_or xs 0 0)) (take (n - 0) xs) < 1 → paired accepted (cleared xs 1 (n - 1)) ≡ read_back A (repetition n) xs
  read_found h =
      let x = get_or xs 0 0 in
      let front = first_taken xs (omega arith) in
      let word : replicate n x ≡ take n xs = same_from_no_toll A.q (replicate n x) (take n xs) (length-replicate n x ∙ sym long) (omega (arith, h, toll_is (take (n - 0) xs) received x)) in
      let range : 1 + (n - 1) ≡ n = omega arith in
      ap (paired accepted) (cleared_there xs 1 (n - 1) (le-leb (1 + (n - 1)) (length xs) (omega arith)) ∙ settled_over n 1 xs some room ∙ ap (λ (ys : List ℕ). settled n ys xs) front)
      ∙ sym (read_word A (repetition n) xs keeps room (x ∷ []) (one A.q x (symbol h)) word)
    where
      -- a first byte without damage is a symbol
      symbol : toll A.q (replicate (length (take (n - 0) xs)) (get_or xs 0 0)) (take (n - 0) xs) < 1 → get_or xs 0 0 < A.q
      symbol h =
          let unmarked : marked A.q (take n xs) ≡ 0 = omega (arith, h, ap (marked A.q) received) in
          let read = get_or-take n xs 0 0 some in
          omega (arith, read, All-get_or (λ x. x < A.q) (take n xs) 0 0 (omega (arith, long)) (symbols_from_unmarked A.q (take n xs) unmarked))

  pub read_none_found : 1 ≤ toll A.q (replicate (length (take (n - 0) xs)) (get_or xs 0 0)) (take (n - 0) xs) → paired (refused 4 []) xs ≡ read_back A (repetition n) xs
  read_none_found h =
      ap (paired (refused 4 [])) (sym (settled_found n xs room))
      ∙ sym (read_none A (repetition n) xs room no_word)
    where
      no_word : (s : List ℕ) → Symbols A.q 1 s → replicate n (get_or s 0 0) ≡ take n xs → ⊥
      no_word s h' e =
          let first : get_or s 0 0 ≡ get_or xs 0 0 = sym (get_or-replicate n 0 (get_or s 0 0) 0 some) ∙ ap (λ (ys : List ℕ). get_or ys 0 0) e ∙ get_or-take n xs 0 0 some in
          let word : replicate n (get_or xs 0 0) ≡ take n xs = ap (replicate n) (sym first) ∙ e in
          let none : toll A.q (replicate n (get_or xs 0 0)) (take n xs) ≡ 0 =
          ap (λ (ys : List ℕ). toll A.q ys (take n xs)) word ∙ toll_self A.q (take n xs) (subst (All (λ x. x < A.q)) e (keeps.words s h').each) in
          omega (arith, h, none, toll_is (take (n - 0) xs) received (get_or xs 0 0))

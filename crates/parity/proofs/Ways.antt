-- The calls of the parity code, way by way. Assumes nothing.
use Rattle.std.proofs.Common.{◌≡◌, ℕ, suc, ◌+◌, ◌-◌, ◌<◌, ◌≤◌, List, [], ◌∷◌, ◌++◌, length, take, drop, set, replicate, Some, None, sym, ap, ◌∙◌, subst, arith, length-append, length-set}
use Rattle.std.specs.List.{AllByRecursion as All}
use Rattle.std.proofs.ByRecursion.{All-take}
use Rattle.std.proofs.lemmas.List.{length-take-le, take-append-drop, set-append_left, set_split, take-take, append_assoc}
use Rattle.theory.specs.Alphabets.{Arithmetic, Lawful, minus}
use Rattle.theory.specs.Calls.{accepted, refused, first_mark, sent, mended, read_back}
use Rattle.theory.specs.Meanings.{Keeps}
use Rattle.theory.specs.Memory.{over, settled}
use Rattle.theory.specs.Parity.{total, parity}
use Rattle.theory.specs.Reach.{InReach}
use Rattle.theory.specs.Words.{Symbols, wrong, marked, toll}
use Rattle.theory.proofs.Calls.{paired, sent_by_lem, sent_message, mended_reach, mended_none, read_word, read_none, first_mark_within, symbols_from_no_mark}
use Rattle.theory.proofs.Counts.{symbols_from_unmarked}
use Rattle.theory.proofs.Groups.{minus_symbol, neg_add}
use Rattle.theory.proofs.Memory.{front_is, settled_full, settled_found, settled_over}
use Rattle.theory.proofs.Parity.{parity_keeps, word_total, word_of_front}
use Rattle.theory.proofs.Words.{same_from_no_toll, toll_self}
use Rattle.parity.specs.Sums.{unmarked_total}
use Rattle.parity.proofs.Sums.{unmarked_closed, unmarked_symbols, filled, some_mark}

module _ (A : Arithmetic) (laws : Lawful A) (n : ℕ) (some : 2 ≤ n) (few : n ≤ 64) (xs : List ℕ) (room : n ≤ length xs) where
  keeps : Keeps A (parity A n)
  keeps = parity_keeps A laws n some few

  long : length (take n xs) ≡ n
  long = length-take-le n xs room

  -- the received word, where it has no mark, is a word exactly if its sum is 0
  symbols : All (λ x. x < A.q) (take n xs) → Symbols A.q n (take n xs)
  symbols h = record { long = long; each = h }

  front : All (λ x. x < A.q) (take n xs) → Symbols A.q (n - 1) (take (n - 1) (take n xs))
  front h = record { long = length-take-le (n - 1) (take n xs) (omega (arith, long)); each = All-take (λ x. x < A.q) (n - 1) (take n xs) h }

  -- a write at the last place of the word
  last_set : (v : ℕ) → set xs (n - 1) v ≡ over xs (n - 1) (v ∷ [])
  last_set v =
      let next : suc (n - 1) ≡ n - 1 + 1 = omega arith in
      set_split xs (n - 1) v (omega arith) ∙ ap (λ (k : ℕ). take (n - 1) xs ++ (v ∷ drop k xs)) next

  pub send_mark : (p : ℕ) → first_mark A.q (take (n - 1 - 0) xs) ≡ Some p → paired (refused 2 (p ∷ [])) xs ≡ sent A (parity A n) xs
  send_mark p e = sym (sent_by_lem A (parity A n) xs room (Some p) (rw (front_is (n - 1) xs) at e))

  pub send_word : first_mark A.q (take (n - 1 - 0) xs) ≡ None → paired accepted (set xs (n - 1) (minus A (unmarked_total A (take (n - 1 - 0) xs)))) ≡ sent A (parity A n) xs
  send_word e =
      let message = take (n - 1) xs in
      let each = symbols_from_no_mark A.q message (rw (front_is (n - 1) xs) at e) in
      let sum : unmarked_total A (take (n - 1 - 0) xs) ≡ total A message = ap (unmarked_total A) (front_is (n - 1) xs) ∙ unmarked_symbols A laws message each in
      let value : minus A (unmarked_total A (take (n - 1 - 0) xs)) ≡ A.neg (total A message) =
      minus_symbol A laws (unmarked_total A (take (n - 1 - 0) xs)) (unmarked_closed A laws (take (n - 1 - 0) xs)) ∙ ap A.neg sum in
      let v = A.neg (total A message) in
      let size : length (message ++ (v ∷ [])) ≡ n = simp length-append (omega (arith, length-take-le (n - 1) xs (omega arith))) in
      let same : n - 1 + 1 ≡ 0 + length (message ++ (v ∷ [])) = omega (arith, size) in
      ap (λ (z : ℕ). paired accepted (set xs (n - 1) z)) value
      ∙ ap (paired accepted) (last_set v ∙ sym (append_assoc message (v ∷ []) (drop (n - 1 + 1) xs)) ∙ ap (λ (k : ℕ). (message ++ (v ∷ [])) ++ drop k xs) same ∙ sym (settled_full n (message ++ (v ∷ [])) xs size))
      ∙ sym (sent_message A (parity A n) xs room each)

  pub mend_balanced : first_mark A.q (take (n - 0) xs) ≡ None → unmarked_total A (take (n - 0) xs) ≡ 0 → paired accepted xs ≡ mended A (parity A n) xs
  mend_balanced e z =
      let each = symbols_from_no_mark A.q (take n xs) (rw (front_is n xs) at e) in
      let sum : total A (take n xs) ≡ 0 = sym (unmarked_symbols A laws (take n xs) each) ∙ ap (unmarked_total A) (sym (front_is n xs)) ∙ z in
      let word = word_of_front A laws n some (take n xs) (symbols each) sum in
      ap (paired accepted) (sym (settled_found n xs room) ∙ ap (λ (ys : List ℕ). settled n ys xs) (sym word))
      ∙ sym (mended_reach A (parity A n) xs keeps room (take (n - 1) (take n xs)) (record { message = front each; near = omega (arith, ap (λ (ys : List ℕ). toll A.q ys (take n xs)) word, toll_self A.q (take n xs) each) }))

  refused_as_found : ((s : List ℕ) → InReach A (parity A n) (take n xs) s → ⊥) → paired (refused 3 []) xs ≡ mended A (parity A n) xs
  refused_as_found none = ap (paired (refused 3 [])) (sym (settled_found n xs room)) ∙ sym (mended_none A (parity A n) xs room none)

  pub mend_unbalanced : first_mark A.q (take (n - 0) xs) ≡ None → (unmarked_total A (take (n - 0) xs) ≡ 0 → ⊥) → paired (refused 3 []) xs ≡ mended A (parity A n) xs
  mend_unbalanced e nz =
      let each = symbols_from_no_mark A.q (take n xs) (rw (front_is n xs) at e) in
      refused_as_found (λ s r.
      let word : s ++ (A.neg (total A s) ∷ []) ≡ take n xs = same_from_no_toll A.q (s ++ (A.neg (total A s) ∷ [])) (take n xs) ((keeps.words s r.message).long ∙ sym long) (omega (arith, r.near, toll_self A.q (take n xs) each)) in
      nz (ap (unmarked_total A) (front_is n xs) ∙ unmarked_symbols A laws (take n xs) each ∙ ap (total A) (sym word) ∙ word_total A laws n some s r.message))

  pub mend_many : (p : ℕ) → first_mark A.q (take (n - 0) xs) ≡ Some p → (marked A.q (take (n - 0) xs) ≡ 1 → ⊥) → paired (refused 3 []) xs ≡ mended A (parity A n) xs
  mend_many p e many =
      let some-marked = some_mark A laws (take (n - 0) xs) p e in
      let same = ap (marked A.q) (front_is n xs) in
      refused_as_found (λ s r. omega (arith, r.near, some-marked, same, many))

  pub mend_one : (p : ℕ) → first_mark A.q (take (n - 0) xs) ≡ Some p → marked A.q (take (n - 0) xs) ≡ 1 → paired accepted (set xs p (minus A (unmarked_total A (take (n - 0) xs)))) ≡ mended A (parity A n) xs
  mend_one p e one =
      let rs = take n xs in
      let u = unmarked_total A rs in
      let closed = unmarked_closed A laws rs in
      let v = A.neg u in
      let e' : first_mark A.q rs ≡ Some p = rw (front_is n xs) at e in
      let one' : marked A.q rs ≡ 1 = rw (front_is n xs) at one in
      let f = filled A laws rs p v (laws.neg_closed u closed) e' one' in
      let ys = set rs p v in
      let size : length ys ≡ n = length-set rs p v ∙ long in
      let word = word_of_front A laws n some ys (record { long = size; each = f.each }) (f.sum ∙ neg_add A laws u closed) in
      let message : Symbols A.q (n - 1) (take (n - 1) ys) = record { long = length-take-le (n - 1) ys (omega (arith, size)); each = All-take (λ x. x < A.q) (n - 1) ys f.each } in
      let value : minus A (unmarked_total A (take (n - 0) xs)) ≡ v = ap (λ (zs : List ℕ). minus A (unmarked_total A zs)) (front_is n xs) ∙ minus_symbol A laws u closed in
      let written : set xs p v ≡ ys ++ drop n xs =
      ap (λ (zs : List ℕ). set zs p v) (sym (take-append-drop n xs)) ∙ set-append_left rs (drop n xs) p v (first_mark_within A.q rs p e') in
      let all : n ≡ 0 + length ys = omega (arith, size) in
      ap (λ (z : ℕ). paired accepted (set xs p z)) value
      ∙ ap (paired accepted) (written ∙ ap (λ (k : ℕ). ys ++ drop k xs) all ∙ sym (settled_full n ys xs size) ∙ ap (λ (zs : List ℕ). settled n zs xs) (sym word))
      ∙ sym (mended_reach A (parity A n) xs keeps room (take (n - 1) ys) (record { message = message; near = omega (arith, ap (λ (zs : List ℕ). wrong A.q zs rs) word, f.agrees, one') }))

  pub read_balanced : marked A.q (take (n - 0) xs) ≡ 0 → unmarked_total A (take (n - 0) xs) ≡ 0 → paired accepted (set xs (n - 1) 0) ≡ read_back A (parity A n) xs
  read_balanced none z =
      let each = symbols_from_unmarked A.q (take n xs) (rw (front_is n xs) at none) in
      let sum : total A (take n xs) ≡ 0 = sym (unmarked_symbols A laws (take n xs) each) ∙ ap (unmarked_total A) (sym (front_is n xs)) ∙ z in
      let word = word_of_front A laws n some (take n xs) (symbols each) sum in
      let gap : n - (n - 1) ≡ 1 = omega arith in
      ap (paired accepted) (last_set 0 ∙ ap (λ (k : ℕ). over xs (n - 1) (replicate k 0)) (sym gap) ∙ settled_over n (n - 1) xs (omega arith) room ∙ ap (λ (ys : List ℕ). settled n ys xs) (sym (take-take (n - 1) n xs (omega arith))))
      ∙ sym (read_word A (parity A n) xs keeps room (take (n - 1) (take n xs)) (front each) word)

  pub read_no_word : (marked A.q (take (n - 0) xs) ≡ 0 → unmarked_total A (take (n - 0) xs) ≡ 0 → ⊥) → paired (refused 4 []) xs ≡ read_back A (parity A n) xs
  read_no_word no_word =
      ap (paired (refused 4 [])) (sym (settled_found n xs room))
      ∙ sym (read_none A (parity A n) xs room (λ s h e.
      let each : All (λ x. x < A.q) (take n xs) = subst (All (λ x. x < A.q)) e (keeps.words s h).each in
      no_word (ap (marked A.q) (front_is n xs) ∙ omega (arith, toll_self A.q (take n xs) each))
      (ap (unmarked_total A) (front_is n xs) ∙ unmarked_symbols A laws (take n xs) each ∙ ap (total A) (sym e) ∙ word_total A laws n some s h)))

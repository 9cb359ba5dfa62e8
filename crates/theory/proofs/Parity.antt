-- The parity code keeps its meaning, and its words are the lists of symbols whose sum is 0. Assumes nothing.
use Rattle.std.proofs.Common.{◌≡◌, ℕ, suc, ◌+◌, ◌-◌, ◌<◌, ◌≤◌, false, ◌&&◌, ltb, leb, ◌⊎◌, List, [], ◌∷◌, ◌++◌, length, get_or, take, replicate, Some, None, sym, ap, ◌∙◌, ⊎_elim, arith, length-append}
use lib.ListN.{length-replicate}
use Rattle.std.specs.List.{AllByRecursion as All}
use Rattle.std.proofs.ByRecursion.{All-append, All-take, All-get_or}
use Rattle.std.proofs.lemmas.List.{get_or_append_left, take_more, take_all}
use Rattle.std.proofs.lemmas.Bool.{ltb-true, le-ltb, cond-true, cond-false, and_from, and_left, and_right, le-leb, lt-leb, cases_eq, cases_lt}
use Rattle.std.proofs.lemmas.Bool.Decides.{nat_tests}
use Rattle.theory.specs.Alphabets.{Arithmetic, Lawful}
use Rattle.theory.specs.Meanings.{Keeps, made, refused_making}
use Rattle.theory.specs.Pairs.{AtDistance}
use Rattle.theory.specs.Parity.{total, parity, parity_making}
use Rattle.theory.specs.Words.{Symbols, differ}
use Rattle.theory.proofs.Carriers.{carrier_there}
use Rattle.theory.proofs.Groups.{cancel_left, cancel_right, negative_is, total_closed, total_push, zero_symbol}
use Rattle.theory.proofs.Repetition.{all_replicate}
use Rattle.theory.proofs.Words.{differ_append, differ_self, same_from_no_difference}

module _ (A : Arithmetic) (laws : Lawful A) where
  -- lists that differ in one place have different sums
  sums_differ : (s t : List ℕ) → length s ≡ length t → All (λ x. x < A.q) s → All (λ x. x < A.q) t → differ s t ≡ 1 → total A s ≡ total A t → ⊥
  sums_differ [] [] e hs ht one sums = omega arith
  sums_differ [] (y ∷ t) e hs ht one sums = omega arith
  sums_differ (x ∷ s) [] e hs ht one sums = omega arith
  sums_differ (x ∷ s) (y ∷ t) e hs ht one sums =
      let cs = total_closed A laws s hs.1 in
      let ct = total_closed A laws t ht.1 in
      ⊎_elim
      (λ (p : x ≡ y).
      sums_differ s t (omega arith) hs.1 ht.1 (grind (arith, nat_tests))
      (cancel_left A laws x (total A s) (total A t) hs.0 cs ct (sums ∙ ap (λ (z : ℕ). A.add z (total A t)) (sym p))))
      (λ (p : x ≡ y → ⊥).
      let rest : s ≡ t = same_from_no_difference s t (omega arith) (grind (arith, nat_tests)) in
      p (cancel_right A laws (total A t) x y ct hs.0 ht.0 (ap (λ (u : List ℕ). A.add x (total A u)) (sym rest) ∙ sums)))
      (cases_eq x y)

  module _ (n : ℕ) (some : 2 ≤ n) where
    check_closed : (s : List ℕ) → All (λ x. x < A.q) s → A.neg (total A s) < A.q
    check_closed s h = laws.neg_closed (total A s) (total_closed A laws s h)

    pub word_symbols : (s : List ℕ) → Symbols A.q (n - 1) s → Symbols A.q n (s ++ (A.neg (total A s) ∷ []))
    word_symbols s h =
        record {
          long = simp length-append (omega (arith, h.long));
          each = All-append (λ x. x < A.q) s (A.neg (total A s) ∷ []) h.each (check_closed s h.each, tt);
        }

    -- the sum of a word is 0
    pub word_total : (s : List ℕ) → Symbols A.q (n - 1) s → total A (s ++ (A.neg (total A s) ∷ [])) ≡ 0
    word_total s h =
        total_push A laws s (A.neg (total A s)) h.each (check_closed s h.each) ∙ laws.cancels (total A s) (total_closed A laws s h.each)

    -- and a list of symbols whose sum is 0 is the word of its front
    pub word_of_front : (ys : List ℕ) → Symbols A.q n ys → total A ys ≡ 0 → take (n - 1) ys ++ (A.neg (total A (take (n - 1) ys)) ∷ []) ≡ ys
    word_of_front ys h e =
        let front = take (n - 1) ys in
        let last = get_or ys (n - 1) 0 in
        let range : n - 1 + 1 ≡ n = omega arith in
        let split : ys ≡ front ++ (last ∷ []) =
        sym (take_all n ys (omega (arith, h.long))) ∙ ap (λ (k : ℕ). take k ys) (sym range) ∙ take_more ys (n - 1) 0 (omega (arith, h.long)) in
        let fs = All-take (λ x. x < A.q) (n - 1) ys h.each in
        let ls = All-get_or (λ x. x < A.q) ys (n - 1) 0 (omega (arith, h.long)) h.each in
        let zero-sum : A.add (total A front) last ≡ 0 = sym (total_push A laws front last fs ls) ∙ ap (total A) (sym split) ∙ e in
        ap (λ (z : ℕ). front ++ (z ∷ [])) (sym (negative_is A laws (total A front) last (total_closed A laws front fs) ls zero-sum)) ∙ sym split

    words_apart : (s t : List ℕ) → Symbols A.q (n - 1) s → Symbols A.q (n - 1) t → (s ≡ t → ⊥) → 2 ≤ differ (s ++ (A.neg (total A s) ∷ [])) (t ++ (A.neg (total A t) ∷ []))
    words_apart s t hs ht other =
        let long : length s ≡ length t = hs.long ∙ sym ht.long in
        let both = differ_append s t (A.neg (total A s) ∷ []) (A.neg (total A t) ∷ []) long in
        let some-place : 1 ≤ differ s t = ⊎_elim (λ (h : differ s t < 1). absurd (other (same_from_no_difference s t long (omega arith)))) (λ (h : 1 ≤ differ s t). h) (cases_lt (differ s t) 1) in
        ⊎_elim
        (λ (h : differ s t < 2).
        let one : differ s t ≡ 1 = omega arith in
        let cs = total_closed A laws s hs.each in
        let ct = total_closed A laws t ht.each in
        let checks : A.neg (total A s) ≡ A.neg (total A t) → ⊥ = λ e.
        sums_differ s t long hs.each ht.each one
        (cancel_right A laws (A.neg (total A t)) (total A s) (total A t) (laws.neg_closed (total A t) ct) cs ct
        (ap (A.add (total A s)) (sym e) ∙ laws.cancels (total A s) cs ∙ sym (laws.cancels (total A t) ct))) in
        grind (arith, nat_tests))
        (λ (h : 2 ≤ differ s t). omega (arith, both)) (cases_lt (differ s t) 2)

    pub parity_keeps : n ≤ 64 → Keeps A (parity A n)
    parity_keeps few =
        record {
          some_places = omega arith;
          some_symbols = omega arith;
          some_distance = omega arith;
          room_for_word = omega arith;
          room_for_message = omega arith;
          bounded = omega arith;
          words = word_symbols;
          apart = words_apart;
          carrier_within = λ i t e. let p = carrier_there (ltb i (n - 1)) i t e in omega (arith, p.1, ltb-true i (n - 1) p.0);
          carries = λ i t e s h.
              let p = carrier_there (ltb i (n - 1)) i t e in
              rw (← p.1) (get_or_append_left s (A.neg (total A s) ∷ []) 0 i (omega (arith, h.long, ltb-true i (n - 1) p.0)));
          carrier_absent = λ i h. cond-false (ltb i (n - 1)) (Some i) None (le-ltb i (n - 1) h);
        }

    -- it shows all zeros, and a 1 before zeros
    pub parity_shows : AtDistance A (parity A n) (replicate (n - 1) 0) (1 ∷ replicate (n - 2) 0)
    parity_shows =
        let zeros = replicate {A = ℕ} (n - 1) 0 in
        let ones : List ℕ = 1 ∷ replicate (n - 2) 0 in
        let first : zeros ≡ 0 ∷ replicate (n - 2) 0 = ap (λ (k : ℕ). replicate k 0) less_one in
        let hs : Symbols A.q (n - 1) zeros = record { long = length-replicate (n - 1) 0; each = all_replicate (λ x. x < A.q) (n - 1) 0 (zero_symbol A laws) } in
        let ht : Symbols A.q (n - 1) ones =
        record { long = omega (arith, length-replicate {A = ℕ} (n - 2) 0); each = (omega (arith, laws.two_symbols), all_replicate (λ x. x < A.q) (n - 2) 0 (zero_symbol A laws)) } in
        let other : zeros ≡ ones → ⊥ = λ e. let z : ◌≡◌ {A = ℕ} 0 1 = ap (λ (xs : List ℕ). get_or xs 0 0) (sym first ∙ e) in omega arith in
        let one_place : differ zeros ones ≡ 1 = ap (λ (xs : List ℕ). differ xs ones) first ∙ ap (λ (k : ℕ). 1 + k) (differ_self (replicate (n - 2) 0)) in
        record {
          one = hs;
          other = ht;
          different = other;
          exactly = omega (arith, words_apart zeros ones hs ht other, differ_append zeros ones (A.neg (total A zeros) ∷ []) (A.neg (total A ones) ∷ []) (hs.long ∙ sym ht.long), one_place, one_more (A.neg (total A zeros)) (A.neg (total A ones)));
        }
      where
        less_one : n - 1 ≡ suc (n - 2)
        less_one = omega arith

        one_more : (x y : ℕ) → differ (x ∷ []) (y ∷ []) ≤ 1
        one_more x y = grind (arith, nat_tests)

pub parity_made : (A : Arithmetic) (n : ℕ) → 2 ≤ n → n ≤ 64 → made (parity A n) ≡ parity_making A n
unfolding parity_making
parity_made A n some few =
    sym (cond-true (leb 2 n && leb n 64) (made (parity A n)) (refused_making 11) (and_from (leb 2 n) (leb n 64) (le-leb 2 n some) (le-leb n 64 few)))

pub parity_refused : (A : Arithmetic) (n : ℕ) → (n < 2) ⊎ ((2 ≤ n) × (64 < n)) → refused_making 11 ≡ parity_making A n
unfolding parity_making
parity_refused A n out =
    let outside : (leb 2 n && leb n 64) ≡ false =
    ⊎_elim (λ (h : n < 2). and_left (leb 2 n) (leb n 64) (lt-leb 2 n h)) (λ (h : (2 ≤ n) × (64 < n)). and_right (leb 2 n) (leb n 64) (lt-leb n 64 h.1)) out in
    sym (cond-false (leb 2 n && leb n 64) (made (parity A n)) (refused_making 11) outside)

-- Sums of received words: what a mark leaves out, and what fills it in again. Assumes nothing.
use Rattle.std.proofs.Common.{◌≡◌, ℕ, suc, ◌<◌, ◌≤◌, Bool, true, false, cond, ltb, List, [], ◌∷◌, ◌++◌, set, Some, None, Option, sym, refl, ap, ◌∙◌, subst, ⊎_elim, arith}
use Rattle.std.specs.Option.{option_map}
use Rattle.std.specs.List.{AllByRecursion as All}
use Rattle.std.proofs.lemmas.Bool.{lt-ltb, le-ltb, ltb-true, ltb-false, cond-true, cond-false, cases_lt}
use Rattle.std.proofs.lemmas.Bool.Decides.{nat_tests}
use Rattle.theory.specs.Alphabets.{Arithmetic, Lawful}
use Rattle.theory.specs.Calls.{first_mark}
use Rattle.theory.specs.Parity.{total}
use Rattle.theory.specs.Words.{wrong, marked}
use Rattle.theory.proofs.Calls.{first_mark_none}
use Rattle.theory.proofs.Counts.{symbols_from_unmarked}
use Rattle.theory.proofs.Groups.{add_swap, zero_symbol}
use Rattle.theory.proofs.Words.{toll_self}
use Rattle.parity.specs.Sums.{unmarked_total}

module _ (A : Arithmetic) (laws : Lawful A) where
  pub unmarked_closed : (xs : List ℕ) → unmarked_total A xs < A.q
  unmarked_closed [] = zero_symbol A laws
  unmarked_closed (x ∷ xs) = go (ltb x A.q) refl (unmarked_closed xs)
    where
      go : (b : Bool) → ltb x A.q ≡ b → unmarked_total A xs < A.q → cond b (A.add x (unmarked_total A xs)) (unmarked_total A xs) < A.q
      go true e h = laws.closed x (unmarked_total A xs) (ltb-true x A.q e) h
      go false e h = h

  -- without marks it is the sum
  pub unmarked_symbols : (xs : List ℕ) → All (λ x. x < A.q) xs → unmarked_total A xs ≡ total A xs
  unmarked_symbols [] h = refl
  unmarked_symbols (x ∷ xs) h =
      cond-true (ltb x A.q) (A.add x (unmarked_total A xs)) (unmarked_total A xs) (lt-ltb x A.q h.0) ∙ ap (A.add x) (unmarked_symbols xs h.1)

  -- a symbol v in the place of the only mark
  pub record Filled (rs : List ℕ) (p v : ℕ) : Type 0 where
    pub each : All (λ x. x < A.q) (set rs p v)
    pub sum : total A (set rs p v) ≡ A.add v (unmarked_total A rs)
    pub agrees : wrong A.q (set rs p v) rs ≡ 0

  pub filled : (rs : List ℕ) (p v : ℕ) → v < A.q → first_mark A.q rs ≡ Some p → marked A.q rs ≡ 1 → Filled rs p v
  filled [] p v l e one = absurd (omega arith)
  filled (r ∷ rs) p v l e one = go (ltb r A.q) refl (first_mark A.q rs) refl e (λ (p : ℕ) (f : first_mark A.q rs ≡ Some p) (o : marked A.q rs ≡ 1). filled rs p v l f o)
    where
      symbol : (p : ℕ) → r < A.q → Filled rs p v → Filled (r ∷ rs) (suc p) v
      symbol p h rest =
          record {
            each = (h, rest.each);
            sum = ap (A.add r) rest.sum ∙ add_swap A laws r v (unmarked_total A rs) h l (unmarked_closed rs) ∙ ap (A.add v) (sym (cond-true (ltb r A.q) (A.add r (unmarked_total A rs)) (unmarked_total A rs) (lt-ltb r A.q h)));
            agrees = let same = rest.agrees in grind (arith, nat_tests);
          }

      mark : A.q ≤ r → marked A.q rs ≡ 0 → Filled (r ∷ rs) 0 v
      mark h none =
          let each = symbols_from_unmarked A.q rs none in
          record {
            each = (l, each);
            sum = ap (A.add v) (sym (unmarked_symbols rs each)) ∙ ap (A.add v) (sym (cond-false (ltb r A.q) (A.add r (unmarked_total A rs)) (unmarked_total A rs) (le-ltb r A.q h)));
            agrees = let same = toll_self A.q rs each in grind (arith, nat_tests);
          }

      go : (b : Bool) → ltb r A.q ≡ b → (o : Option ℕ) → first_mark A.q rs ≡ o → cond b (option_map suc o) (Some 0) ≡ Some p → ((p : ℕ) → first_mark A.q rs ≡ Some p → marked A.q rs ≡ 1 → Filled rs p v) → Filled (r ∷ rs) p v
      go true b None f g rest = absurd (let z : ◌≡◌ {A = ℕ} 0 1 = cc in omega arith)
      go true b (Some i) f g rest =
          let e : suc i ≡ p = cc in
          let h : r < A.q = ltb-true r A.q b in
          subst (λ (j : ℕ). Filled (r ∷ rs) j v) e (symbol i h (rest i f (grind (arith, nat_tests))))
      go false b o f g rest =
          let e : 0 ≡ p = cc in
          let h : A.q ≤ r = ltb-false r A.q b in
          subst (λ (j : ℕ). Filled (r ∷ rs) j v) e (mark h (grind (arith, nat_tests)))

  -- where there is a first mark, there is a mark
  pub some_mark : (xs : List ℕ) (p : ℕ) → first_mark A.q xs ≡ Some p → 1 ≤ marked A.q xs
  some_mark xs p e =
      ⊎_elim (λ (h : marked A.q xs < 1).
      let none = first_mark_none A.q xs (symbols_from_unmarked A.q xs (omega arith)) in
      absurd (let z : ◌≡◌ {A = ℕ} 0 1 = cc in omega arith)) (λ (h : 1 ≤ marked A.q xs). h) (cases_lt (marked A.q xs) 1)

  -- a symbol more, and a mark more
  pub unmarked_push_symbol : (xs : List ℕ) (x : ℕ) → x < A.q → unmarked_total A (xs ++ x ∷ []) ≡ A.add (unmarked_total A xs) x
  unmarked_push_symbol [] x h =
      cond-true (ltb x A.q) (A.add x 0) 0 (lt-ltb x A.q h) ∙ laws.comm x 0 h (zero_symbol A laws)
  unmarked_push_symbol (y ∷ ys) x h = go (ltb y A.q) refl (unmarked_push_symbol ys x h)
    where
      go : (b : Bool) → ltb y A.q ≡ b → unmarked_total A (ys ++ x ∷ []) ≡ A.add (unmarked_total A ys) x → cond b (A.add y (unmarked_total A (ys ++ x ∷ []))) (unmarked_total A (ys ++ x ∷ [])) ≡ A.add (cond b (A.add y (unmarked_total A ys)) (unmarked_total A ys)) x
      go true e rest = ap (A.add y) rest ∙ sym (laws.assoc y (unmarked_total A ys) x (ltb-true y A.q e) (unmarked_closed ys) h)
      go false e rest = rest

  pub unmarked_push_mark : (xs : List ℕ) (x : ℕ) → A.q ≤ x → unmarked_total A (xs ++ x ∷ []) ≡ unmarked_total A xs
  unmarked_push_mark [] x h = cond-false (ltb x A.q) (A.add x 0) 0 (le-ltb x A.q h)
  unmarked_push_mark (y ∷ ys) x h = ap (λ (t : ℕ). cond (ltb y A.q) (A.add y t) t) (unmarked_push_mark ys x h)

-- The alphabets of two, three and four symbols are lawful: each law is computed over all symbols. Assumes nothing.
use Rattle.std.proofs.Common.{◌≡◌, ℕ, zero, suc, ◌^◌, ◌<◌, ◌≤◌, Bool, true, ◌&&◌, eqb, ltb, refl, lit≤}
use Rattle.std.proofs.lemmas.Bool.{ltb-true, eqb-true}
use Rattle.std.proofs.lemmas.Bool.Decides.{Decides-below_and}
use Rattle.theory.specs.Alphabets.{Arithmetic, Lawful, two, three, four}

-- the test passes for every number below the bound
abbrev every : ℕ → (ℕ → Bool) → Bool
every zero test = true
every (suc n) test = test n && every n test

passes : (n : ℕ) (test : ℕ → Bool) → every n test ≡ true → (k : ℕ) → k < n → test k ≡ true
passes n test e = (Decides-below_and test (λ k. test k ≡ true) (λ m. every m test) (λ k. (λ h. h, λ h. h)) refl (λ _. refl) n).0 e

-- the laws, each as a test over all symbols
record Computed (A : Arithmetic) : Type 0 where
  two_symbols : 2 ≤ A.q
  few_symbols : A.q ≤ 16
  closed : every A.q (λ x. every A.q (λ y. ltb (A.add x y) A.q)) ≡ true
  assoc : every A.q (λ x. every A.q (λ y. every A.q (λ z. eqb (A.add (A.add x y) z) (A.add x (A.add y z))))) ≡ true
  comm : every A.q (λ x. every A.q (λ y. eqb (A.add x y) (A.add y x))) ≡ true
  neutral : every A.q (λ x. eqb (A.add 0 x) x) ≡ true
  neg_closed : every A.q (λ x. ltb (A.neg x) A.q) ≡ true
  cancels : every A.q (λ x. eqb (A.add x (A.neg x)) 0) ≡ true
  enough : 256 ≤ A.q ^ A.b
  least : every A.b (λ c. ltb (A.q ^ c) 256) ≡ true

lawful_from_computed : (A : Arithmetic) → Computed A → Lawful A
lawful_from_computed A h =
    let q = A.q in
    record {
      two_symbols = h.two_symbols;
      few_symbols = h.few_symbols;
      closed = λ x y l m. ltb-true _ _ (passes q _ (passes q _ h.closed x l) y m);
      assoc = λ x y z l m n. eqb-true _ _ (passes q _ (passes q _ (passes q _ h.assoc x l) y m) z n);
      comm = λ x y l m. eqb-true _ _ (passes q _ (passes q _ h.comm x l) y m);
      neutral = λ x l. eqb-true _ _ (passes q _ h.neutral x l);
      neg_closed = λ x l. ltb-true _ _ (passes q _ h.neg_closed x l);
      cancels = λ x l. eqb-true _ _ (passes q _ h.cancels x l);
      enough = h.enough;
      least = λ c l. ltb-true _ _ (passes A.b _ h.least c l);
    }

pub two_lawful : Lawful two
two_lawful =
    lawful_from_computed two (record { two_symbols = lit≤ tt; few_symbols = lit≤ tt; closed = refl; assoc = refl; comm = refl; neutral = refl; neg_closed = refl; cancels = refl; enough = lit≤ tt; least = refl })

pub three_lawful : Lawful three
three_lawful =
    lawful_from_computed three (record { two_symbols = lit≤ tt; few_symbols = lit≤ tt; closed = refl; assoc = refl; comm = refl; neutral = refl; neg_closed = refl; cancels = refl; enough = lit≤ tt; least = refl })

pub four_lawful : Lawful four
four_lawful =
    lawful_from_computed four (record { two_symbols = lit≤ tt; few_symbols = lit≤ tt; closed = refl; assoc = refl; comm = refl; neutral = refl; neg_closed = refl; cancels = refl; enough = lit≤ tt; least = refl })

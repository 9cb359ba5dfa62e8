-- What the laws of an alphabet give: cancellation, and sums of lists of symbols. Assumes nothing.
use Rattle.std.proofs.Common.{◌≡◌, ℕ, ◌<◌, ◌&&◌, ltb, List, [], ◌∷◌, ◌++◌, sym, ap, ◌∙◌, arith}
use Rattle.std.specs.List.{AllByRecursion as All}
use Rattle.std.proofs.lemmas.Bool.{lt-ltb, cond-true, and_from}
use Rattle.theory.specs.Alphabets.{Arithmetic, Lawful, plus, minus}
use Rattle.theory.specs.Parity.{total}

module _ (A : Arithmetic) (laws : Lawful A) where
  -- the sum and the negative of bytes, at symbols
  pub plus_symbols : (x y : ℕ) → x < A.q → y < A.q → plus A x y ≡ A.add x y
  plus_symbols x y l m = cond-true (ltb x A.q && ltb y A.q) (A.add x y) 255 (and_from _ _ (lt-ltb x A.q l) (lt-ltb y A.q m))

  pub minus_symbol : (x : ℕ) → x < A.q → minus A x ≡ A.neg x
  minus_symbol x l = cond-true (ltb x A.q) (A.neg x) 255 (lt-ltb x A.q l)

  pub zero_symbol : 0 < A.q
  zero_symbol = omega (arith, laws.two_symbols)

  pub add_zero_right : (x : ℕ) → x < A.q → A.add x 0 ≡ x
  add_zero_right x l = laws.comm x 0 l zero_symbol ∙ laws.neutral x l

  pub neg_add : (x : ℕ) → x < A.q → A.add (A.neg x) x ≡ 0
  neg_add x l = laws.comm (A.neg x) x (laws.neg_closed x l) l ∙ laws.cancels x l

  -- taking x away again
  undo : (x y : ℕ) → x < A.q → y < A.q → A.add (A.neg x) (A.add x y) ≡ y
  undo x y l m =
      sym (laws.assoc (A.neg x) x y (laws.neg_closed x l) l m) ∙ ap (λ (z : ℕ). A.add z y) (neg_add x l) ∙ laws.neutral y m

  pub cancel_left : (x y z : ℕ) → x < A.q → y < A.q → z < A.q → A.add x y ≡ A.add x z → y ≡ z
  cancel_left x y z l m n e = sym (undo x y l m) ∙ ap (A.add (A.neg x)) e ∙ undo x z l n

  pub cancel_right : (x y z : ℕ) → x < A.q → y < A.q → z < A.q → A.add y x ≡ A.add z x → y ≡ z
  cancel_right x y z l m n e = cancel_left x y z l m n (laws.comm x y l m ∙ e ∙ laws.comm z x n l)

  -- what makes a sum 0 is the negative
  pub negative_is : (x y : ℕ) → x < A.q → y < A.q → A.add x y ≡ 0 → y ≡ A.neg x
  negative_is x y l m e = cancel_left x y (A.neg x) l m (laws.neg_closed x l) (e ∙ sym (laws.cancels x l))

  -- two summands in front change places
  pub add_swap : (x y z : ℕ) → x < A.q → y < A.q → z < A.q → A.add x (A.add y z) ≡ A.add y (A.add x z)
  add_swap x y z l m n =
      sym (laws.assoc x y z l m n) ∙ ap (λ (s : ℕ). A.add s z) (laws.comm x y l m) ∙ laws.assoc y x z m l n

  pub total_closed : (xs : List ℕ) → All (λ x. x < A.q) xs → total A xs < A.q
  total_closed [] h = zero_symbol
  total_closed (x ∷ xs) h = laws.closed x (total A xs) h.0 (total_closed xs h.1)

  pub total_push : (xs : List ℕ) (y : ℕ) → All (λ x. x < A.q) xs → y < A.q → total A (xs ++ (y ∷ [])) ≡ A.add (total A xs) y
  total_push [] y h l = add_zero_right y l ∙ sym (laws.neutral y l)
  total_push (x ∷ xs) y h l =
      ap (A.add x) (total_push xs y h.1 l) ∙ sym (laws.assoc x (total A xs) y h.0 (total_closed xs h.1) l)

-- No distance is greater than the length. Assumes nothing.
use Rattle.std.proofs.Common.{◌≡◌, ℕ, ◌-◌, ◌<◌, ◌≤◌, List, [], ◌∷◌, length, get_or, replicate, ap, arith}
use lib.ListN.{length-replicate}
use Rattle.std.proofs.lemmas.Bool.Decides.{nat_tests}
use Rattle.theory.specs.Alphabets.{Arithmetic, Lawful}
use Rattle.theory.specs.Meanings.{Meaning, Keeps}
use Rattle.theory.specs.Piles.{NoneNearer}
use Rattle.theory.specs.Words.{Symbols, differ}
use Rattle.theory.proofs.Groups.{zero_symbol}
use Rattle.theory.proofs.Repetition.{all_replicate}

-- words differ in no more places than there are
pub differ_le : (xs ys : List ℕ) → differ xs ys ≤ length xs
differ_le [] ys = omega arith
differ_le (x ∷ xs) [] = omega arith
differ_le (x ∷ xs) (y ∷ ys) = let rest = differ_le xs ys in grind (arith, nat_tests)

module _ (A : Arithmetic) (laws : Lawful A) (m : Meaning) where
  -- a symbol before zeros is a message
  before_zeros : (x : ℕ) → x < A.q → 1 ≤ m.k → Symbols A.q m.k (x ∷ replicate (m.k - 1) 0)
  before_zeros x l some =
      record {
        long = omega (arith, length-replicate {A = ℕ} (m.k - 1) 0);
        each = (l, all_replicate (λ y. y < A.q) (m.k - 1) 0 (zero_symbol A laws));
      }

  -- it is enough that words are of n symbols and at least d apart: 0 before zeros and 1 before zeros are two messages
  pub distance_by : 1 ≤ m.k → ((s : List ℕ) → Symbols A.q m.k s → Symbols A.q m.n (m.word s)) → NoneNearer A m → m.d ≤ m.n
  distance_by some words apart =
      let s : List ℕ = 0 ∷ replicate (m.k - 1) 0 in
      let t : List ℕ = 1 ∷ replicate (m.k - 1) 0 in
      let hs : Symbols A.q m.k s = before_zeros 0 (zero_symbol A laws) some in
      let ht : Symbols A.q m.k t = before_zeros 1 (omega (arith, laws.two_symbols)) some in
      let other : s ≡ t → ⊥ = λ e. let z : ◌≡◌ {A = ℕ} 0 1 = ap (λ (xs : List ℕ). get_or xs 0 0) e in omega arith in
      omega (arith, apart s t hs ht other, differ_le (m.word s) (m.word t), (words s hs).long)

  -- so of a code that keeps its meaning
  pub distance_within : Keeps A m → m.d ≤ m.n
  distance_within keeps = distance_by keeps.some_symbols keeps.words keeps.apart

-- The parity code: the word is the message and then the symbol that makes the sum of all 0.
use Rattle.std.specs.Prelude.{ℕ, ◌-◌, cond, ◌&&◌, List, [], ◌∷◌, ◌++◌, Some, None, nat_le, nat_lt}
use Rattle.theory.specs.Alphabets.{Arithmetic}
use Rattle.theory.specs.Meanings.{Meaning, Making, made, refused_making}

abbrev pub total : Arithmetic → List ℕ → ℕ
total A [] = 0
total A (x ∷ xs) = A.add x (total A xs)

abbrev pub parity : Arithmetic → ℕ → Meaning
parity A len =
    record { n = len; k = len - 1; d = 2; w = len; word = λ s. s ++ (A.neg (total A s) ∷ []); carrier = λ i. cond (nat_lt i (len - 1)) (Some i) None }

unfoldable pub parity_making : Arithmetic → ℕ → Making
parity_making A len = cond (nat_le 2 len && nat_le len 64) (made (parity A len)) (refused_making 11)

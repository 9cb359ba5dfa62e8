-- The sum of the symbols among some bytes.
use Rattle.std.specs.Prelude.{ℕ, cond, List, [], ◌∷◌, nat_lt}
use Rattle.theory.specs.Alphabets.{Arithmetic}

abbrev pub unmarked_total : Arithmetic → List ℕ → ℕ
unmarked_total A [] = 0
unmarked_total A (x ∷ xs) = cond (nat_lt x A.q) (A.add x (unmarked_total A xs)) (unmarked_total A xs)

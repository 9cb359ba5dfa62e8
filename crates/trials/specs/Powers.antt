-- A code that is not the library's: over five symbols, and not linear.
use Rattle.std.specs.Prelude.{ℕ, ◌+◌, ◌*◌, ◌%◌, cond, List, [], ◌∷◌, ◌++◌, Some, None, nat_lt, slice_index_or}
use Rattle.theory.specs.Alphabets.{Arithmetic, modular}
use Rattle.theory.specs.Meanings.{Meaning}

-- addition modulo 5; four symbols tell 625 levels apart
abbrev pub five : Arithmetic
five = modular 5 4

-- x² + 1, x, x³
abbrev pub powers_checks : List ℕ → List ℕ
powers_checks s =
    let x = slice_index_or s 0 0 in
    ((x * x + 1) % 5) ∷ x ∷ ((x * x * x) % 5) ∷ []

-- The word of x is x, x² + 1, x, x³: those of 1 and 4 differ in three places, those of 2 and 3 too, all others in four.
abbrev pub powers : Meaning
powers =
    record { n = 4; k = 1; d = 3; w = 4; word = λ s. s ++ powers_checks s; carrier = λ i. cond (nat_lt i 1) (Some i) None }

-- The hexacode over GF(4).
use Rattle.std.specs.Prelude.{ℕ, cond, List, [], ◌∷◌, ◌++◌, Some, None, bit_xor, nat_lt, slice_index}
use Rattle.theory.specs.Alphabets.{times4}
use Rattle.theory.specs.Meanings.{Meaning}

-- f(y) = a·y·y + b·y + c for the message a, b, c
abbrev pub quadratic : List ℕ → ℕ → ℕ
quadratic s y =
    bit_xor (bit_xor (times4 (slice_index s 0) (times4 y y)) (times4 (slice_index s 1) y)) (slice_index s 2)

abbrev pub hexacode_checks : List ℕ → List ℕ
hexacode_checks s = quadratic s 1 ∷ quadratic s 2 ∷ quadratic s 3 ∷ []

-- the word is a, b, c, f(1), f(2), f(3)
abbrev pub hexacode : Meaning
hexacode =
    record { n = 6; k = 3; d = 4; w = 6; word = λ s. s ++ hexacode_checks s; carrier = λ i. cond (nat_lt i 3) (Some i) None }

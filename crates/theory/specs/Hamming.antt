-- The Hamming code of length 7 over two symbols.
use Rattle.std.specs.Prelude.{ℕ, ◌+◌, ◌%◌, cond, List, [], ◌∷◌, ◌++◌, Some, None, nat_lt, slice_index_or}
use Rattle.theory.specs.Meanings.{Meaning}

-- m0 + m1 + m2, m0 + m1 + m3, m0 + m2 + m3
abbrev pub hamming_checks : List ℕ → List ℕ
hamming_checks s =
    let m0 = slice_index_or s 0 0 in
    let m1 = slice_index_or s 1 0 in
    let m2 = slice_index_or s 2 0 in
    let m3 = slice_index_or s 3 0 in
    ((m0 + m1 + m2) % 2) ∷ ((m0 + m1 + m3) % 2) ∷ ((m0 + m2 + m3) % 2) ∷ []

abbrev pub hamming : Meaning
hamming =
    record { n = 7; k = 4; d = 3; w = 7; word = λ s. s ++ hamming_checks s; carrier = λ i. cond (nat_lt i 4) (Some i) None }

-- A level, a byte, as b symbols in base q, the most significant first.
use Rattle.std.specs.Prelude.{ℕ, zero, suc, ◌/◌, ◌%◌, ◌^◌, List, [], ◌∷◌}
use Rattle.theory.specs.Alphabets.{Arithmetic}

abbrev pub digits : ℕ → ℕ → ℕ → List ℕ
digits q zero v = []
digits q (suc b) v = ((v / (q ^ b)) % q) ∷ digits q b v

abbrev pub level_symbols : Arithmetic → ℕ → List ℕ
level_symbols A level = digits A.q A.b level

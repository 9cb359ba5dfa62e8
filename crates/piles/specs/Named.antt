-- The numbers that a making has.
use Rattle.std.specs.Prelude.{◌≡◌, ℕ}
use Rattle.theory.specs.Meanings.{Making, made, refused_making}

-- it is made, with this length, dimension, distance and working length
abbrev pub HasNumbers : Making → ℕ → ℕ → ℕ → ℕ → Type 0
HasNumbers (made m) n k d w = (m.n ≡ n) × (m.k ≡ k) × (m.d ≡ d) × (m.w ≡ w)
HasNumbers (refused_making number) n k d w = ⊥

-- Two bytes put together, and what a function computes that does so.
use Rattle.std.specs.Prelude.{◌≡◌, ℕ, ◌<◌}
use Rattle.parts.specs.declared.combination.Combination.{Combination}
use Rattle.parts.specs.declared.combination.Combination.TheVariants.{Sum, Difference}
use Rattle.theory.specs.Alphabets.{Arithmetic, plus, minus}

abbrev pub placewise : Arithmetic → Combination → ℕ → ℕ → ℕ
placewise A Sum x y = plus A x y
placewise A Difference x y = plus A x (minus A y)

-- whatever it may return of two bytes (`returns x y r`: it may return r of x and y) is what this computes of them
abbrev pub PutsTogether : (ℕ → ℕ → ℕ → Type 0) → (ℕ → ℕ → ℕ) → Type 0
PutsTogether returns by = (x y r : ℕ) → x < 256 → y < 256 → returns x y r → r ≡ by x y

-- Making a store, case by case, at numbers that are asked of the code and its alphabet. Assumes nothing.
use Rattle.std.proofs.Common.{◌≡◌, ℕ, zero, suc, ◌+◌, ◌-◌, ◌*◌, ◌/◌, ◌^◌, ◌<◌, ◌≤◌, [], None, refl, ap, ap₂, ⊎_elim, mul-le-mul, div-le_self, arith}
use native.Mathlib.Nat.{pow-le-pow_left, pow-zero, lt-div-mul-add}
use Rattle.std.proofs.lemmas.Bool.{cases_lt}
use Rattle.std.proofs.lemmas.Bool.Decides.{nat_tests}
use Rattle.parts.specs.Numbers.{NumbersOf}
use Rattle.parts.specs.declared.numbers.Numbers.{Numbers}
use Rattle.store_theory.specs.Calls.{store_making}
use Rattle.store_theory.specs.Checks.{making_check}
use Rattle.store_theory.specs.Layout.{plan_of, word_count, cell_count}
use Rattle.theory.specs.Alphabets.{Arithmetic, Lawful}
use Rattle.theory.specs.Calls.{refused}
use Rattle.theory.specs.Meanings.{Meaning}

-- eight symbols are always enough for a level
pub width_narrow : (A : Arithmetic) → Lawful A → A.b ≤ 8
width_narrow A laws =
    ⊎_elim (λ (h : 8 < A.b). absurd (omega (arith, laws.least 8 h, pow-le-pow_left {n = 2} {m = A.q} laws.two_symbols 8))) (λ (h : A.b ≤ 8). h) (cases_lt 8 A.b)

pub width_some : (A : Arithmetic) → Lawful A → 1 ≤ A.b
width_some A laws = go A.b refl
  where
    go : (b : ℕ) → A.b ≡ b → 1 ≤ A.b
    go zero e = absurd (omega (arith, laws.enough, ap (λ (j : ℕ). A.q ^ j) e, pow-zero A.q))
    go (suc b) e = omega arith

-- so many words have room for the symbols of all levels
pub enough_words_lem : (levels width k : ℕ) → 1 ≤ k → levels * width ≤ (levels * width + (k - 1)) / k * k
enough_words_lem levels width k some = omega (arith, lt-div-mul-add {a = levels * width + (k - 1)} {b = k} some)

-- no number that making works out is large
module _ (cues levels width : ℕ) (few-cues : cues ≤ 64) (few-levels : levels ≤ 512) (narrow : width ≤ 8) where
  pub few_level_symbols : levels * width ≤ 4096
  few_level_symbols = omega (arith, mul-le-mul {n₁ = levels} {m₁ = width} {n₂ = 512} {m₂ = 8} few-levels narrow)

  module _ (n k : ℕ) (short : n ≤ 4096) (small : k ≤ 4096) where
    pub few_words : (levels * width + (k - 1)) / k ≤ 8191
    few_words = omega (arith, few_level_symbols, div-le_self (levels * width + (k - 1)) k)

    pub few_cue_cells : (levels * width + (k - 1)) / k * n ≤ 33550336
    few_cue_cells =
        omega (arith, mul-le-mul {n₁ = (levels * width + (k - 1)) / k} {m₁ = n} {n₂ = 8191} {m₂ = 4096} few_words short)

    pub few_cells_lem : cues * ((levels * width + (k - 1)) / k * n) ≤ 2147221504
    few_cells_lem =
        omega (arith, mul-le-mul {n₁ = cues} {m₁ = (levels * width + (k - 1)) / k * n} {n₂ = 64} {m₂ = 33550336} few-cues few_cue_cells)

module _ (A : Arithmetic) (m : Meaning) (cues levels width : ℕ) (numbers : Numbers) (is : NumbersOf numbers m) (wide : width ≡ A.b) where
  -- the words of a cue, worked out
  pub words_are : (levels * width + (numbers.dimension - 1)) / numbers.dimension ≡ word_count A m (plan_of cues levels)
  unfolding word_count
  words_are = ap₂ (λ (b k : ℕ). (levels * b + (k - 1)) / k) wide is.dimension

  cells_are : cues * ((levels * width + (numbers.dimension - 1)) / numbers.dimension * numbers.length) ≡ cell_count A m (plan_of cues levels)
  cells_are = ap₂ (λ (v n : ℕ). cues * (v * n)) words_are is.length

  module _ (some-cues : 1 ≤ cues) (few-cues : cues ≤ 64) (some-levels : 1 ≤ levels) (few-levels : levels ≤ 512) where
    pub too_many_cells : 1048576 < cues * ((levels * width + (numbers.dimension - 1)) / numbers.dimension * numbers.length) → refused 6 [] ≡ store_making A m (plan_of cues levels)
    unfolding making_check
    too_many_cells h =
        let many : 1048576 < cell_count A m (plan_of cues levels) = omega (arith, cells_are) in
        grind (arith, nat_tests)

    pub making_accepted : cues * ((levels * width + (numbers.dimension - 1)) / numbers.dimension * numbers.length) ≤ 1048576 → making_check A m (plan_of cues levels) ≡ None
    unfolding making_check
    making_accepted h =
        let few : cell_count A m (plan_of cues levels) ≤ 1048576 = omega (arith, cells_are) in
        grind (arith, nat_tests)

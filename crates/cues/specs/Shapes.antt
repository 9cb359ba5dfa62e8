-- What a store has of its code and its plan in numbers, and what it keeps of its cues, in the words of the definitions.
use Rattle.std.specs.Prelude.{◌≡◌, ℕ, ◌<◌, ◌≤◌, ◌||◌, None, Option, nat_le, nat_lt}
use Rattle.parts.specs.Numbers.{NumbersOf}
use Rattle.store_theory.specs.Checks.{refuse, making_check}
use Rattle.store_theory.specs.Layout.{Plan, plan_of, word_count}
use Rattle.store_theory.specs.States.{State, state_of}
use Rattle.theory.specs.Alphabets.{Arithmetic}
use Rattle.theory.specs.Meanings.{Meaning}
use Rattle.cues.specs.declared.kept.Kept.{Kept}
use Rattle.cues.specs.declared.shape.Shape.{Shape}

abbrev pub plan_in : Shape → Plan
plan_in shape = plan_of shape.cues shape.levels

abbrev pub state_in : Kept → State
state_in kept = state_of kept.marks kept.tally

-- these are the numbers that making works out for a code of this meaning
pub record StoreNumbers (A : Arithmetic) (m : Meaning) (shape : Shape) : Type 0 where
  pub order : shape.order ≡ A.q
  pub width : shape.width ≡ A.b
  pub numbers : NumbersOf shape.numbers m
  pub words : shape.words ≡ word_count A m (plan_in shape)
  pub making : making_check A m (plan_in shape) ≡ None

-- there is such a cue, and there are cells and working memory enough
pub record Enough (shape : Shape) (cue cells memory : ℕ) : Type 0 where
  pub there : cue < shape.cues
  pub room : shape.cells ≤ cells
  pub works : shape.numbers.working ≤ memory

-- there is such a cue, and what is handed is enough; and for a recording, there are not too many levels
abbrev pub reach_check : Shape → ℕ → ℕ → ℕ → Option ℕ
reach_check shape cue cells memory =
    refuse 12 (nat_le shape.cues cue) (refuse 1 (nat_lt cells shape.cells || nat_lt memory shape.numbers.working) None)

abbrev pub recording_check : Shape → ℕ → ℕ → ℕ → ℕ → Option ℕ
recording_check shape cue levels cells memory =
    refuse 12 (nat_le shape.cues cue)
    (refuse 1 (nat_lt cells shape.cells || nat_lt memory shape.numbers.working) (refuse 13 (nat_lt shape.levels levels) None))

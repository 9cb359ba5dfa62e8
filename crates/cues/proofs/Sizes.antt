-- The numbers that a store keeps are those of its code and its plan. Assumes nothing.
use Rattle.std.proofs.Common.{◌≡◌, ℕ, ◌+◌, ◌-◌, ◌*◌, ◌<◌, ◌≤◌, Bool, ◌||◌, ltb, List, length, take, drop, replicate, Decides, sym, ap, ◌∙◌, ap₂, arith}
use Rattle.std.proofs.lemmas.Bool.{le-leb}
use Rattle.store_theory.specs.Checks.{few_bytes}
use Rattle.store_theory.specs.Layout.{cue_cells, cell_count, cell_of_word}
use Rattle.store_theory.proofs.Places.{cue_inside, row_inside, word_cell, first_cell}
use Rattle.theory.specs.Alphabets.{Arithmetic, Lawful}
use Rattle.theory.specs.Meanings.{Meaning, Keeps}
use Rattle.theory.specs.Memory.{over, part, cleared}
use Rattle.theory.proofs.Memory.{cleared_there}
use Rattle.cues.specs.Shapes.{plan_in, StoreNumbers, Enough}
use Rattle.cues.specs.declared.shape.Shape.{Shape}

-- a fit code over its alphabet, and the numbers of a store over it
pub record KnownStore (A : Arithmetic) (m : Meaning) (shape : Shape) : Type 0 where
  pub laws : Lawful A
  pub keeps : Keeps A m
  pub numbers : StoreNumbers A m shape

pub fit_store : {A : Arithmetic} {m : Meaning} {shape : Shape} → Lawful A → Keeps A m → StoreNumbers A m shape → KnownStore A m shape
fit_store laws keeps numbers = record { laws = laws; keeps = keeps; numbers = numbers }

-- memory of the same length is enough too
pub still_enough : {shape : Shape} {cue cells before after : ℕ} → Enough shape cue cells before → after ≡ before → Enough shape cue cells after
still_enough e same = record { there = e.there; room = e.room; works = omega (arith, e.works, same) }

module _ {A : Arithmetic} {m : Meaning} {shape : Shape} (f : StoreNumbers A m shape) where
  pub block_is : shape.block ≡ cue_cells A m (plan_in shape)
  block_is = shape.of_a_cue ∙ ap₂ (λ (v n : ℕ). v * n) f.words f.numbers.length

  pub cells_are : shape.cells ≡ cell_count A m (plan_in shape)
  cells_are = shape.of_all_cues ∙ ap (λ (b : ℕ). shape.cues * b) block_is

  -- what is too short for the numbers kept is too short for the code and the plan
  pub few_is : (cells memory : ℕ) → (ltb cells shape.cells || ltb memory shape.numbers.working) ≡ few_bytes A m (plan_in shape) cells memory
  few_is cells memory = ap₂ (λ (a w : ℕ). ltb cells a || ltb memory w) cells_are f.numbers.working

  pub start_is : (cue word : ℕ) → cue * shape.block + word * shape.numbers.length ≡ cell_of_word A m (plan_in shape) cue word
  start_is cue word =
      ap₂ (λ (b n : ℕ). cue * b + word * n) block_is f.numbers.length ∙ sym (word_cell A m (plan_in shape) cue word)

  pub first_start_is : (cue : ℕ) → cue * shape.block ≡ cell_of_word A m (plan_in shape) cue 0
  first_start_is cue = ap (λ (b : ℕ). cue * b) block_is ∙ sym (first_cell A m (plan_in shape) cue)

  -- zeros in the cells of a cue
  pub cue_cleared : (cue : ℕ) (cells : List ℕ) → cue < shape.cues → shape.cells ≤ length cells → cleared cells (cue * shape.block) shape.block ≡ over cells (cell_of_word A m (plan_in shape) cue 0) (replicate (cue_cells A m (plan_in shape)) 0)
  cue_cleared cue cells there room =
      ap₂ (cleared cells) (first_start_is cue) block_is
      ∙ cleared_there cells (cell_of_word A m (plan_in shape) cue 0) (cue_cells A m (plan_in shape)) (le-leb (cell_of_word A m (plan_in shape) cue 0 + cue_cells A m (plan_in shape)) (length cells) (cue_inside A m (plan_in shape) cells cue there (omega (arith, cells_are))))

  -- a word compared with what stands in front of the working memory
  pub compared : (cue word start : ℕ) → start ≡ cue * shape.block + word * shape.numbers.length → (xs cells : List ℕ) (b : Bool) → Decides b (take (shape.numbers.length - 0) xs ≡ take (start + shape.numbers.length - start) (drop start cells)) → Decides b (take m.n xs ≡ part cells (cell_of_word A m (plan_in shape) cue word) m.n)
  compared cue word start e xs cells b d =
      let at : start ≡ cell_of_word A m (plan_in shape) cue word = e ∙ start_is cue word in
      let count : start + shape.numbers.length - start ≡ m.n = omega (arith, f.numbers.length) in
      let first : shape.numbers.length - 0 ≡ m.n = omega (arith, f.numbers.length) in
      let left : take (shape.numbers.length - 0) xs ≡ take m.n xs = ap (λ (n : ℕ). take n xs) first in
      let right : take (start + shape.numbers.length - start) (drop start cells) ≡ part cells (cell_of_word A m (plan_in shape) cue word) m.n = ap₂ (λ (n a : ℕ). take n (drop a cells)) count at in
      (λ t. sym left ∙ d.0 t ∙ right, λ s. d.1 (left ∙ s ∙ sym right))

-- Runs: damage and calls of every kind, in any order, refused ones too, from a new store and cells of any length and content.
use Rattle.std.specs.Prelude.{ℕ, ◌<◌, List, fold, slice_set}
use Rattle.std.specs.List.{AllByRecursion}
use Rattle.theory.specs.Alphabets.{Arithmetic}
use Rattle.theory.specs.Meanings.{Meaning}
use Rattle.store_theory.specs.Calls.{recorded_cue, recorded_cue_by_slip, held_cue, let_go_cue, wiped_cue, touched_up_cue, recalled_cue, tallied, started, stopped}
use Rattle.store_theory.specs.Layout.{Plan}
use Rattle.store_theory.specs.States.{State, new_state}

-- One step of a run, with what it is handed besides the store and the cells. Damage puts a byte into a cell. A slip stands for
-- its cue's number, and may be another store's.
pub data Step : Type 0 where
  -- cell, byte
  damage : ℕ → ℕ → Step
  -- cue, levels, working memory
  recording : ℕ → List ℕ → List ℕ → Step
  slip_recording : ℕ → List ℕ → List ℕ → Step
  -- cue
  holding : ℕ → Step
  letting_go : ℕ → Step
  wiping : ℕ → Step
  -- cue, working memory
  touching_up : ℕ → List ℕ → Step
  -- cue, bytes for levels, working memory
  recalling : ℕ → List ℕ → List ℕ → Step
  asking_tally : Step
  starting : Step
  stopping : Step

-- the store and the cells at one moment of a run
pub record Moment : Type 0 where
  pub state : State
  pub cells : List ℕ

-- what a step leaves, by the call's own definition
abbrev pub stepped : Arithmetic → Meaning → Plan → Moment → Step → Moment
stepped A m p now (damage cell byte) = record { state = now.state; cells = slice_set now.cells cell byte }
stepped A m p now (recording cue levels memory) =
    let left = recorded_cue A m p cue now.state now.cells levels memory in record { state = left.1; cells = left.2 }
stepped A m p now (slip_recording cue levels memory) =
    let left = recorded_cue_by_slip A m p cue now.state now.cells levels memory in record { state = left.1; cells = left.2 }
stepped A m p now (holding cue) = record { state = (held_cue p cue now.state).1; cells = now.cells }
stepped A m p now (letting_go cue) = record { state = let_go_cue p cue now.state; cells = now.cells }
stepped A m p now (wiping cue) =
    let left = wiped_cue A m p cue now.state now.cells in record { state = left.1; cells = left.2 }
stepped A m p now (touching_up cue memory) =
    let left = touched_up_cue A m p cue now.state now.cells memory in record { state = left.1; cells = left.2 }
stepped A m p now (recalling cue levels memory) =
    let left = recalled_cue A m p cue now.state now.cells levels memory in record { state = left.1; cells = left.2 }
stepped A m p now asking_tally = record { state = (tallied now.state).1; cells = now.cells }
stepped A m p now starting = record { state = started now.state; cells = now.cells }
stepped A m p now stopping = record { state = stopped now.state; cells = now.cells }

-- a new store over these cells, and what a run leaves of it
abbrev pub opening : List ℕ → Moment
opening cells = record { state = new_state; cells = cells }

abbrev pub after : Arithmetic → Meaning → Plan → List ℕ → List Step → Moment
after A m p cells run = fold (stepped A m p) (opening cells) run

-- the levels that a step is handed for recording are bytes
abbrev pub GivesBytes : Step → Type 0
GivesBytes (damage cell byte) = Unit {0}
GivesBytes (recording cue levels memory) = AllByRecursion (λ level. level < 256) levels
GivesBytes (slip_recording cue levels memory) = AllByRecursion (λ level. level < 256) levels
GivesBytes (holding cue) = Unit {0}
GivesBytes (letting_go cue) = Unit {0}
GivesBytes (wiping cue) = Unit {0}
GivesBytes (touching_up cue memory) = Unit {0}
GivesBytes (recalling cue levels memory) = Unit {0}
GivesBytes asking_tally = Unit {0}
GivesBytes starting = Unit {0}
GivesBytes stopping = Unit {0}

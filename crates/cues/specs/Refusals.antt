-- The number and the values of each refusal of a store, and what a call's result stands for.
use Rattle.std.specs.Prelude.{ℕ, List, [], ◌∷◌, Ok, Err, Result}
use Rattle.codes.specs.Refusals.{refusal_number, refusal_values}
use Rattle.cues.specs.declared.refusals.StoreRefusal.{StoreRefusal}
use Rattle.cues.specs.declared.refusals.StoreRefusal.TheVariants.{ShortMemory, Code, TooManyCells, OutOfRange, NoSuchCue, TooManyLevels, Held, Empty, LevelOutOfRange, NotHeld}
use Rattle.cues.specs.declared.store.Touched.{Touched}
use Rattle.store_theory.specs.Calls.{TouchOutcome, touched, not_touched}
use Rattle.theory.specs.Calls.{Outcome, accepted, refused}

-- a fault from the code keeps its own number
abbrev pub store_number : StoreRefusal → ℕ
store_number ShortMemory = 1
store_number (Code cue word fault) = refusal_number fault
store_number TooManyCells = 6
store_number OutOfRange = 11
store_number NoSuchCue = 12
store_number TooManyLevels = 13
store_number Held = 14
store_number Empty = 15
store_number (LevelOutOfRange cue level) = 16
store_number NotHeld = 17

-- and its own values, behind the cue and the word
abbrev pub store_values : StoreRefusal → List ℕ
store_values ShortMemory = []
store_values (Code cue word fault) = cue ∷ word ∷ refusal_values fault
store_values TooManyCells = []
store_values OutOfRange = []
store_values NoSuchCue = []
store_values TooManyLevels = []
store_values Held = []
store_values Empty = []
store_values (LevelOutOfRange cue level) = cue ∷ level ∷ []
store_values NotHeld = []

-- what the result of a call or a making stands for
abbrev pub store_outcome : {T : Type 0} → Result T StoreRefusal → Outcome
store_outcome (Ok x) = accepted
store_outcome (Err e) = refused (store_number e) (store_values e)

-- what the result of a touch up stands for
abbrev pub touch_outcome : Result Touched StoreRefusal → TouchOutcome
touch_outcome (Ok counts) = touched counts.changed counts.beyond_reach
touch_outcome (Err e) = not_touched (store_number e) (store_values e)

-- Worked examples of runs, as one statement over a list. Each call of a run is handed as many working bytes as it needs.
use Rattle.std.specs.Prelude.{◌≡◌, ℕ, Bool, true, false, not, List, [], ◌∷◌, ◌++◌, length, replicate, Some, None, Option}
use Rattle.std.specs.List.{AllByRecursion}
use Rattle.theory.specs.Alphabets.{Arithmetic, two, three, four}
use Rattle.theory.specs.Calls.{Outcome, accepted, refused}
use Rattle.theory.specs.Hexacode.{hexacode}
use Rattle.theory.specs.Meanings.{Meaning}
use Rattle.theory.specs.Repetition.{repetition}
use Rattle.store_theory.specs.Books.{book}
use Rattle.store_theory.specs.Calls.{TouchOutcome, touched, recorded_cue, recorded_cue_by_slip, touched_up_cue, recalled_cue, store_making}
use Rattle.store_theory.specs.Costs.{stretch_of, harmless}
use Rattle.store_theory.specs.Layout.{Plan}
use Rattle.store_theory.specs.Runs.{Step, damage, recording, slip_recording, holding, letting_go, wiping, touching_up, Moment, after}

-- a store over a code, and cells that hold anything
pub record Setting : Type 0 where
  pub symbols : Arithmetic
  pub code : Meaning
  pub plan : Plan
  pub start : List ℕ

abbrev pub left : Setting → List Step → Moment
left s run = after s.symbols s.code s.plan s.start run

pub data RunCase : Type 0 where
  makes : Setting → Outcome → RunCase
  recalls : Setting → List Step → ℕ → Outcome → List ℕ → RunCase
  touches_up : Setting → List Step → ℕ → TouchOutcome → RunCase
  records : Setting → List Step → ℕ → List ℕ → Outcome → RunCase
  records_by_slip : Setting → List Step → ℕ → List ℕ → Outcome → RunCase
  tallies : Setting → List Step → ℕ → RunCase
  books : Setting → List Step → ℕ → Option (List ℕ) → RunCase
  costs : Setting → List Step → ℕ → ℕ → ℕ → RunCase
  harms : Setting → List Step → ℕ → ℕ → Bool → RunCase

-- A store is made or refused so. After the run, a recall of this cue that is handed three bytes 9 has this outcome and leaves these levels; a touch up of it
-- answers this; a recording of these levels, or one by slip, has this outcome; the tally is this; the book has these levels of
-- this cue; the present stretch of this word of this cue cost this; the damage to it is harmful or not.
abbrev pub HoldsOfRun : RunCase → Type 0
HoldsOfRun (makes s outcome) = store_making s.symbols s.code s.plan ≡ outcome
HoldsOfRun (recalls s run cue outcome levels) =
    let gives = recalled_cue s.symbols s.code s.plan cue (left s run).state (left s run).cells (9 ∷ 9 ∷ 9 ∷ []) (replicate s.code.w 170) in
    (gives.0 ≡ outcome) × (gives.3 ≡ levels)
HoldsOfRun (touches_up s run cue outcome) =
    (touched_up_cue s.symbols s.code s.plan cue (left s run).state (left s run).cells (replicate s.code.w 170)).0 ≡ outcome
HoldsOfRun (records s run cue levels outcome) =
    (recorded_cue s.symbols s.code s.plan cue (left s run).state (left s run).cells levels (replicate s.code.w 170)).0 ≡ outcome
HoldsOfRun (records_by_slip s run cue levels outcome) =
    (recorded_cue_by_slip s.symbols s.code s.plan cue (left s run).state (left s run).cells levels (replicate s.code.w 170)).0 ≡ outcome
HoldsOfRun (tallies s run tally) = (left s run).state.tally ≡ tally
HoldsOfRun (books s run cue levels) = (book s.symbols s.code s.plan (length s.start) run cue).levels ≡ levels
HoldsOfRun (costs s run cue word cost) = (stretch_of s.symbols s.code s.plan (length s.start) run cue word).cost ≡ cost
HoldsOfRun (harms s run cue word harmful) = not (harmless s.symbols s.code s.plan (length s.start) run cue word) ≡ harmful

-- two cues of two levels over the hexacode: three words of six cells each, and one symbol of filling
abbrev pub over_hexacode : Setting
over_hexacode = record { symbols = four; code = hexacode; plan = record { cues = 2; levels = 2 }; start = replicate 40 170 }

-- one cue of one level over repetition 3 with three symbols: six words of three cells
abbrev pub over_repetition : Setting
over_repetition = record { symbols = three; code = repetition 3; plan = record { cues = 1; levels = 1 }; start = replicate 18 170 }

-- the same with other numbers of cues, levels and cells
abbrev pub hexacode_with : ℕ → ℕ → ℕ → Setting
hexacode_with cues levels cells =
    record { symbols = four; code = hexacode; plan = record { cues = cues; levels = levels }; start = replicate cells 170 }

-- the most cues, each level in eight words of 64 cells
abbrev pub big_with : ℕ → Setting
big_with levels = record { symbols = two; code = repetition 64; plan = record { cues = 64; levels = levels }; start = [] }

abbrev pub working : List ℕ
working = replicate 6 170

-- cue 1 is recorded with level 200 and a missing one; its words are 3 0 2 .., then all zeros
abbrev pub recorded_once : List Step
recorded_once = recording 1 (200 ∷ []) working ∷ []

-- two marks in word 0 and a wrong symbol in word 1
abbrev pub damaged_twice : List Step
damaged_twice = recorded_once ++ (damage 18 255 ∷ damage 20 255 ∷ damage 24 3 ∷ [])

-- two wrong symbols in word 1 and a mark in word 0
abbrev pub damaged_much : List Step
damaged_much = recorded_once ++ (damage 18 255 ∷ damage 24 3 ∷ damage 27 1 ∷ [])

abbrev pub run_cases : List RunCase
run_cases =
    makes over_hexacode accepted
    ∷ makes (hexacode_with 65 1 0) (refused 11 [])
    ∷ makes (hexacode_with 64 513 0) (refused 11 [])
    ∷ makes (big_with 32) accepted
    ∷ makes (big_with 33) (refused 6 [])
    ∷ recalls (hexacode_with 2 2 35) recorded_once 1 (refused 1 []) (9 ∷ 9 ∷ 9 ∷ [])
    ∷ recalls (hexacode_with 2 4 72) (recording 1 [] working ∷ []) 1 (refused 1 []) (9 ∷ 9 ∷ 9 ∷ [])
    ∷ recalls over_hexacode damaged_twice 1 accepted (200 ∷ 0 ∷ 9 ∷ [])
    ∷ recalls over_hexacode damaged_much 1 (refused 3 (1 ∷ 1 ∷ [])) (0 ∷ 0 ∷ 9 ∷ [])
    ∷ recalls over_hexacode damaged_twice 0 (refused 15 []) (9 ∷ 9 ∷ 9 ∷ [])
    ∷ recalls over_hexacode damaged_twice 2 (refused 12 []) (9 ∷ 9 ∷ 9 ∷ [])
    ∷ touches_up over_hexacode damaged_twice 1 (touched 2 0)
    ∷ touches_up over_hexacode damaged_much 1 (touched 1 1)
    ∷ tallies over_hexacode (damaged_twice ++ (touching_up 1 working ∷ touching_up 1 working ∷ damage 18 0 ∷ touching_up 1 working ∷ [])) 3
    ∷ costs over_hexacode damaged_twice 1 0 2
    ∷ costs over_hexacode damaged_twice 1 1 2
    ∷ costs over_hexacode (damaged_twice ++ (touching_up 1 working ∷ damage 23 4 ∷ [])) 1 0 1
    ∷ harms over_hexacode damaged_twice 1 1 false
    ∷ harms over_hexacode damaged_much 1 1 true
    ∷ harms over_hexacode (damaged_much ++ (touching_up 1 working ∷ [])) 1 1 true
    ∷ recalls over_hexacode (recorded_once ++ (wiping 1 ∷ [])) 1 (refused 15 []) (9 ∷ 9 ∷ 9 ∷ [])
    ∷ records over_hexacode (holding 0 ∷ []) 0 (1 ∷ []) (refused 14 [])
    ∷ records over_hexacode (holding 0 ∷ letting_go 0 ∷ []) 0 (1 ∷ []) accepted
    ∷ records over_hexacode [] 0 (1 ∷ 2 ∷ 3 ∷ []) (refused 13 [])
    ∷ records_by_slip over_hexacode (holding 1 ∷ []) 0 (1 ∷ []) (refused 17 [])
    ∷ records_by_slip over_hexacode (holding 1 ∷ []) 1 (1 ∷ []) accepted
    ∷ books over_hexacode (holding 0 ∷ recording 0 (1 ∷ []) working ∷ []) 0 None
    ∷ books over_hexacode (holding 0 ∷ slip_recording 0 (1 ∷ []) working ∷ []) 0 (Some (1 ∷ 0 ∷ []))
    ∷ recalls over_repetition (recording 0 (200 ∷ []) (replicate 3 170) ∷ damage 0 2 ∷ damage 1 2 ∷ []) 0 (refused 16 (0 ∷ 0 ∷ [])) (0 ∷ 9 ∷ 9 ∷ [])
    ∷ recalls over_hexacode (recorded_once ++ (damage 32 1 ∷ damage 33 1 ∷ damage 34 1 ∷ damage 35 1 ∷ [])) 1 (refused 16 (1 ∷ 2 ∷ [])) (0 ∷ 0 ∷ 9 ∷ [])
    ∷ []

-- every one of them holds
abbrev pub RunExamplesHold : Type 0
RunExamplesHold = AllByRecursion HoldsOfRun run_cases

-- The book of a run: what was last recorded in a cue, and whether the cue is held. It is fed the run's list alone and no
-- answers: what the book has and what a call is handed settle, by the calls' checks, which calls are accepted.
use Rattle.std.specs.Prelude.{ℕ, Bool, true, false, cond, not, ◌&&◌, List, length, is_some, Some, None, fold, Option, ◌==◌, nat_lt}
use Rattle.theory.specs.Alphabets.{Arithmetic}
use Rattle.theory.specs.Meanings.{Meaning}
use Rattle.store_theory.specs.Calls.{all_levels}
use Rattle.store_theory.specs.Checks.{record_check, slip_check, hold_check, wipe_check, touch_check}
use Rattle.store_theory.specs.Layout.{Plan}
use Rattle.store_theory.specs.Runs.{Step, damage, recording, slip_recording, holding, letting_go, wiping, touching_up, recalling, asking_tally, starting, stopping}

-- the book's entry of one cue: its levels, as many as a cue has, or none; held or free
pub record Entry : Type 0 where
  pub levels : Option (List ℕ)
  pub held : Bool

abbrev pub no_entry : Entry
no_entry = record { levels = None; held = false }

-- passed: no check applies
abbrev pub passes : Option ℕ → Bool
passes check = not (is_some check)

-- the entry with levels, without them, held, free
abbrev pub entering : Plan → List ℕ → Entry → Entry
entering p levels e = record { levels = Some (all_levels p levels); held = e.held }

abbrev pub removing : Entry → Entry
removing e = record { levels = None; held = e.held }

abbrev pub holding_it : Bool → Entry → Entry
holding_it held e = record { levels = e.levels; held = held }

-- what the checks find for a call of a cue with this entry, the store having so many cells
abbrev pub finds_record : Arithmetic → Meaning → Plan → ℕ → ℕ → Entry → List ℕ → List ℕ → Option ℕ
finds_record A m p cells cue e levels memory = record_check A m p e.held cue cells (length levels) (length memory)

abbrev pub finds_slip_record : Arithmetic → Meaning → Plan → ℕ → ℕ → Entry → List ℕ → List ℕ → Option ℕ
finds_slip_record A m p cells cue e levels memory = slip_check A m p e.held cue cells (length levels) (length memory)

abbrev pub finds_hold : Plan → ℕ → Entry → Option ℕ
finds_hold p cue e = hold_check p e.held cue

abbrev pub finds_wipe : Arithmetic → Meaning → Plan → ℕ → ℕ → Entry → Option ℕ
finds_wipe A m p cells cue e = wipe_check A m p e.held cue cells

-- a cue without levels is empty
abbrev pub finds_touch_up : Arithmetic → Meaning → Plan → ℕ → ℕ → Entry → List ℕ → Option ℕ
finds_touch_up A m p cells cue e memory = touch_check A m p (is_some e.levels) cue cells (length memory)

-- one step in the entry of one cue: an accepted recording enters its levels, an accepted wipe removes them, an accepted hold
-- makes the cue held, and let go frees the slip's cue if there is such a cue
abbrev pub booked : Arithmetic → Meaning → Plan → ℕ → ℕ → Entry → Step → Entry
booked A m p cells cue e (damage cell byte) = e
booked A m p cells cue e (recording which levels memory) =
    cond (which == cue && passes (finds_record A m p cells cue e levels memory)) (entering p levels e) e
booked A m p cells cue e (slip_recording which levels memory) =
    cond (which == cue && passes (finds_slip_record A m p cells cue e levels memory)) (entering p levels e) e
booked A m p cells cue e (holding which) = cond (which == cue && passes (finds_hold p cue e)) (holding_it true e) e
booked A m p cells cue e (letting_go which) = cond (which == cue && nat_lt cue p.cues) (holding_it false e) e
booked A m p cells cue e (wiping which) = cond (which == cue && passes (finds_wipe A m p cells cue e)) (removing e) e
booked A m p cells cue e (touching_up which memory) = e
booked A m p cells cue e (recalling which levels memory) = e
booked A m p cells cue e asking_tally = e
booked A m p cells cue e starting = e
booked A m p cells cue e stopping = e

-- the book's entry of a cue after a run over so many cells
abbrev pub book : Arithmetic → Meaning → Plan → ℕ → List Step → ℕ → Entry
book A m p cells run cue = fold (booked A m p cells cue) no_entry run

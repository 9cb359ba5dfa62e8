-- What damage costs. A stretch of a word runs from the last accepted recording of its cue, or an accepted touch up after it, to
-- the next accepted touch up or to the end of the run.
use Rattle.std.specs.Prelude.{ℕ, ◌+◌, Bool, true, cond, ◌&&◌, List, fold, ◌==◌, nat_le, nat_lt}
use Rattle.theory.specs.Alphabets.{Arithmetic}
use Rattle.theory.specs.Meanings.{Meaning}
use Rattle.store_theory.specs.Books.{Entry, no_entry, passes, booked, finds_record, finds_slip_record, finds_touch_up}
use Rattle.store_theory.specs.Layout.{Plan, cell_of_word}
use Rattle.store_theory.specs.Runs.{Step, damage, recording, slip_recording, holding, letting_go, wiping, touching_up, recalling, asking_tally, starting, stopping}

-- a symbol put into a cell costs two, a mark one
abbrev pub damage_cost : Arithmetic → ℕ → ℕ
damage_cost A byte = cond (nat_lt byte A.q) 2 1

-- whether a cell is a place of this word of this cue
abbrev pub within : Arithmetic → Meaning → Plan → ℕ → ℕ → ℕ → Bool
within A m p cue word cell = nat_le (cell_of_word A m p cue word) cell && nat_lt cell (cell_of_word A m p cue word + m.n)

-- the cost of the stretch that is going on, and whether all earlier ones since the last recording stayed below the distance
pub record Stretch : Type 0 where
  pub cost : ℕ
  pub fine : Bool

abbrev pub no_stretch : Stretch
no_stretch = record { cost = 0; fine = true }

-- a touch up ends a stretch and begins another
abbrev pub ending : Meaning → Stretch → Stretch
ending m s = record { cost = 0; fine = s.fine && nat_lt s.cost m.d }

abbrev pub adding : ℕ → Stretch → Stretch
adding more s = record { cost = s.cost + more; fine = s.fine }

-- one step, in the stretch of one word of a cue whose entry was this one before the step
abbrev pub costed : Arithmetic → Meaning → Plan → ℕ → ℕ → ℕ → Entry → Stretch → Step → Stretch
costed A m p cells cue word e s (damage cell byte) = cond (within A m p cue word cell) (adding (damage_cost A byte) s) s
costed A m p cells cue word e s (recording which levels memory) =
    cond (which == cue && passes (finds_record A m p cells cue e levels memory)) no_stretch s
costed A m p cells cue word e s (slip_recording which levels memory) =
    cond (which == cue && passes (finds_slip_record A m p cells cue e levels memory)) no_stretch s
costed A m p cells cue word e s (holding which) = s
costed A m p cells cue word e s (letting_go which) = s
costed A m p cells cue word e s (wiping which) = s
costed A m p cells cue word e s (touching_up which memory) =
    cond (which == cue && passes (finds_touch_up A m p cells cue e memory)) (ending m s) s
costed A m p cells cue word e s (recalling which levels memory) = s
costed A m p cells cue word e s asking_tally = s
costed A m p cells cue word e s starting = s
costed A m p cells cue word e s stopping = s

-- the entry of a cue and the stretch of one of its words, side by side through a run
pub record Account : Type 0 where
  pub entry : Entry
  pub stretch : Stretch

abbrev pub accounted : Arithmetic → Meaning → Plan → ℕ → ℕ → ℕ → Account → Step → Account
accounted A m p cells cue word a step =
    record { entry = booked A m p cells cue a.entry step; stretch = costed A m p cells cue word a.entry a.stretch step }

abbrev pub stretch_of : Arithmetic → Meaning → Plan → ℕ → List Step → ℕ → ℕ → Stretch
stretch_of A m p cells run cue word =
    (fold (accounted A m p cells cue word) (record { entry = no_entry; stretch = no_stretch }) run).stretch

-- every stretch of this word since the last recording of its cue cost less than the distance
abbrev pub harmless : Arithmetic → Meaning → Plan → ℕ → List Step → ℕ → ℕ → Bool
harmless A m p cells run cue word = (ending m (stretch_of A m p cells run cue word)).fine

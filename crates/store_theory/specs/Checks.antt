-- Which calls a store refuses, and with what number: the checks of each call in their order. They go by the numbers of the
-- store, by whether the cue is held or recorded, and by how much the call is handed.
use Rattle.std.specs.Prelude.{ℕ, Bool, cond, not, ◌||◌, Some, None, Option, nat_le, nat_lt}
use Rattle.theory.specs.Alphabets.{Arithmetic}
use Rattle.theory.specs.Meanings.{Meaning}
use Rattle.store_theory.specs.Layout.{Plan, cell_count, most_cues, most_levels, most_cells}

-- a check, and those behind it: the first that applies gives the number
abbrev pub refuse : ℕ → Bool → Option ℕ → Option ℕ
refuse number applies rest = cond applies (Some number) rest

-- there is no such cue
abbrev pub absent : Plan → ℕ → Bool
absent p cue = nat_le p.cues cue

-- too few cells; too few of them or too little working memory
abbrev pub few_cells : Arithmetic → Meaning → Plan → ℕ → Bool
few_cells A m p cells = nat_lt cells (cell_count A m p)

abbrev pub few_bytes : Arithmetic → Meaning → Plan → ℕ → ℕ → Bool
few_bytes A m p cells memory = few_cells A m p cells || nat_lt memory m.w

-- making: the numbers of cues and of levels are out of range; too many cells
unfoldable pub making_check : Arithmetic → Meaning → Plan → Option ℕ
making_check A m p =
    refuse 11 (nat_lt p.cues 1 || nat_lt most_cues p.cues || nat_lt p.levels 1 || nat_lt most_levels p.levels)
    (refuse 6 (nat_lt most_cells (cell_count A m p)) None)

-- record: also more levels than a cue has; the cue is held
unfoldable pub record_check : Arithmetic → Meaning → Plan → Bool → ℕ → ℕ → ℕ → ℕ → Option ℕ
record_check A m p held cue cells levels memory =
    refuse 12 (absent p cue) (refuse 1 (few_bytes A m p cells memory) (refuse 13 (nat_lt p.levels levels) (refuse 14 held None)))

-- record by slip: also the cue is not held
unfoldable pub slip_check : Arithmetic → Meaning → Plan → Bool → ℕ → ℕ → ℕ → ℕ → Option ℕ
slip_check A m p held cue cells levels memory =
    refuse 12 (absent p cue) (refuse 1 (few_bytes A m p cells memory) (refuse 13 (nat_lt p.levels levels) (refuse 17 (not held) None)))

unfoldable pub hold_check : Plan → Bool → ℕ → Option ℕ
hold_check p held cue = refuse 12 (absent p cue) (refuse 14 held None)

unfoldable pub wipe_check : Arithmetic → Meaning → Plan → Bool → ℕ → ℕ → Option ℕ
wipe_check A m p held cue cells = refuse 12 (absent p cue) (refuse 1 (few_cells A m p cells) (refuse 14 held None))

-- touch up: also the cue is empty
unfoldable pub touch_check : Arithmetic → Meaning → Plan → Bool → ℕ → ℕ → ℕ → Option ℕ
touch_check A m p recorded cue cells memory =
    refuse 12 (absent p cue) (refuse 1 (few_bytes A m p cells memory) (refuse 15 (not recorded) None))

-- recall: also too few bytes for the levels
unfoldable pub recall_check : Arithmetic → Meaning → Plan → Bool → ℕ → ℕ → ℕ → ℕ → Option ℕ
recall_check A m p recorded cue cells levels memory =
    refuse 12 (absent p cue) (refuse 1 (few_bytes A m p cells memory || nat_lt levels p.levels) (refuse 15 (not recorded) None))

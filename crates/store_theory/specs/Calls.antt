-- The calls of a store: from what each is handed to its outcome and to what it leaves. A refusal by a check changes nothing.
-- What a call is lent for reading only stands in its answer as it was.
use Rattle.std.specs.Prelude.{ℕ, suc, ◌-◌, Bool, true, false, cond, not, ltb, List, [], ◌∷◌, ◌++◌, map, length, drop, replicate, is_some, Some, None, count_by, Option, nat_lt}
use Rattle.std.specs.List.{flat_map}
use Rattle.std.specs.Option.{unwrap_or, option_map, option_or}
use Rattle.theory.specs.Alphabets.{Arithmetic}
use Rattle.theory.specs.Calls.{Outcome, accepted, refused, mended_by}
use Rattle.theory.specs.Meanings.{Meaning}
use Rattle.theory.specs.Memory.{over}
use Rattle.theory.specs.Reach.{message_in_reach, word_in_reach, same}
use Rattle.store_theory.specs.Checks.{making_check, record_check, slip_check, hold_check, wipe_check, touch_check, recall_check}
use Rattle.store_theory.specs.Layout.{Plan, cell_of_word, cue_cells, cue_words, words_of, together, level_numbers, filling}
use Rattle.store_theory.specs.States.{State, mark_at, with_recorded, with_held, with_tally}

-- the first count bytes zero, and from there on what was there before
abbrev pub zeroed : ℕ → List ℕ → List ℕ
zeroed count xs = replicate count 0 ++ drop count xs

-- outcome, store, cells, levels and working memory
abbrev pub StoreAnswer : Type 0
StoreAnswer = Outcome × State × List ℕ × List ℕ × List ℕ

-- making
abbrev pub outcome_of : Option ℕ → Outcome
outcome_of None = accepted
outcome_of (Some number) = refused number []

abbrev pub store_making : Arithmetic → Meaning → Plan → Outcome
store_making A m p = outcome_of (making_check A m p)

-- what a missing level is recorded as
abbrev pub missing_level : ℕ
missing_level = 0

abbrev pub all_levels : Plan → List ℕ → List ℕ
all_levels p levels = levels ++ replicate (p.levels - length levels) missing_level

-- record, and record by slip: the words of the cue are written one behind the other
abbrev pub recorded_cue_by : Arithmetic → Meaning → Plan → ℕ → State → List ℕ → List ℕ → List ℕ → Option ℕ → StoreAnswer
recorded_cue_by A m p cue state cells levels memory (Some number) = (refused number [], state, cells, levels, memory)
recorded_cue_by A m p cue state cells levels memory None =
    (accepted, with_recorded state cue true, over cells (cell_of_word A m p cue 0) (together (words_of A m p (all_levels p levels))), levels, zeroed m.w memory)

unfoldable pub recorded_cue : Arithmetic → Meaning → Plan → ℕ → State → List ℕ → List ℕ → List ℕ → StoreAnswer
recorded_cue A m p cue state cells levels memory =
    recorded_cue_by A m p cue state cells levels memory (record_check A m p (mark_at state cue).held cue (length cells) (length levels) (length memory))

unfoldable pub recorded_cue_by_slip : Arithmetic → Meaning → Plan → ℕ → State → List ℕ → List ℕ → List ℕ → StoreAnswer
recorded_cue_by_slip A m p cue state cells levels memory =
    recorded_cue_by A m p cue state cells levels memory (slip_check A m p (mark_at state cue).held cue (length cells) (length levels) (length memory))

-- hold: an accepted one gives a slip for the cue (a lock token)
abbrev pub held_cue_by : ℕ → State → Option ℕ → Outcome × State
held_cue_by cue state (Some number) = (refused number [], state)
held_cue_by cue state None = (accepted, with_held state cue true)

unfoldable pub held_cue : Plan → ℕ → State → Outcome × State
held_cue p cue state = held_cue_by cue state (hold_check p (mark_at state cue).held cue)

-- let go: the slip's cue is free, if there is such a cue here
unfoldable pub let_go_cue : Plan → ℕ → State → State
let_go_cue p cue state = cond (nat_lt cue p.cues) (with_held state cue false) state

-- wipe
abbrev pub wiped_cue_by : Arithmetic → Meaning → Plan → ℕ → State → List ℕ → Option ℕ → Outcome × State × List ℕ
wiped_cue_by A m p cue state cells (Some number) = (refused number [], state, cells)
wiped_cue_by A m p cue state cells None =
    (accepted, with_recorded state cue false, over cells (cell_of_word A m p cue 0) (replicate (cue_cells A m p) 0))

unfoldable pub wiped_cue : Arithmetic → Meaning → Plan → ℕ → State → List ℕ → Outcome × State × List ℕ
wiped_cue A m p cue state cells = wiped_cue_by A m p cue state cells (wipe_check A m p (mark_at state cue).held cue (length cells))

-- touch up (scrubbing) answers how many words changed and how many are beyond reach
pub data TouchOutcome : Type 0 where
  touched : ℕ → ℕ → TouchOutcome
  not_touched : ℕ → List ℕ → TouchOutcome

abbrev pub without_counts : TouchOutcome → Outcome
without_counts (touched changed beyond) = accepted
without_counts (not_touched number values) = refused number values

-- a word once it is mended; one beyond reach as it is
abbrev pub touched_word : Arithmetic → Meaning → List ℕ → List ℕ
touched_word A m word = unwrap_or (word_in_reach A m word) word

abbrev pub changes : Arithmetic → Meaning → List ℕ → Bool
changes A m word = not (same word (touched_word A m word))

abbrev pub is_beyond_reach : Arithmetic → Meaning → List ℕ → Bool
is_beyond_reach A m word = not (is_some (message_in_reach A m word))

abbrev pub touched_up_cue_by : Arithmetic → Meaning → Plan → ℕ → State → List ℕ → List ℕ → Option ℕ → TouchOutcome × State × List ℕ × List ℕ
touched_up_cue_by A m p cue state cells memory (Some number) = (not_touched number [], state, cells, memory)
touched_up_cue_by A m p cue state cells memory None =
    let words = cue_words A m p cells cue in
    let changed = count_by (changes A m) words in
    (touched changed (count_by (is_beyond_reach A m) words), with_tally state changed, over cells (cell_of_word A m p cue 0) (together (map (touched_word A m) words)), zeroed m.w memory)

unfoldable pub touched_up_cue : Arithmetic → Meaning → Plan → ℕ → State → List ℕ → List ℕ → TouchOutcome × State × List ℕ × List ℕ
touched_up_cue A m p cue state cells memory =
    touched_up_cue_by A m p cue state cells memory (touch_check A m p (mark_at state cue).recorded cue (length cells) (length memory))

-- the place of the first that passes the test
abbrev pub first_place : {X : Type 0} → (X → Bool) → List X → Option ℕ
first_place test [] = None
first_place test (x ∷ xs) = cond (test x) (Some 0) (option_map suc (first_place test xs))

-- what mend answers where no message is in reach; inside the store's fault the cue and the word stand before its values
abbrev pub mend_fault : Meaning → Outcome
mend_fault m = (mended_by m [] None).0

abbrev pub fault_of_code : ℕ → ℕ → Outcome → Outcome
fault_of_code cue word accepted = accepted
fault_of_code cue word (refused number values) = refused number (cue ∷ word ∷ values)

-- the symbols of the messages found in words
abbrev pub symbols_found : Arithmetic → Meaning → List (List ℕ) → List ℕ
symbols_found A m words = flat_map (λ word. unwrap_or (message_in_reach A m word) []) words

-- the first level whose number passes 255, or the number of levels if a filling symbol is not 0
abbrev pub level_fault : Arithmetic → Plan → List ℕ → Option ℕ
level_fault A p symbols =
    option_or (first_place (λ number. ltb 255 number) (level_numbers A p symbols)) (option_map (λ place. p.levels) (first_place (λ symbol. ltb 0 symbol) (filling A p symbols)))

-- recall, once the checks are passed: a fault leaves zeros in the levels
abbrev pub dark : Arithmetic → Meaning → Plan → State → List ℕ → List ℕ → List ℕ → Outcome → StoreAnswer
dark A m p state cells levels memory fault = (fault, state, cells, zeroed p.levels levels, zeroed m.w memory)

abbrev pub shown_levels : Arithmetic → Meaning → Plan → ℕ → State → List ℕ → List ℕ → List ℕ → List ℕ → Option ℕ → StoreAnswer
shown_levels A m p cue state cells levels memory symbols (Some level) = dark A m p state cells levels memory (refused 16 (cue ∷ level ∷ []))
shown_levels A m p cue state cells levels memory symbols None =
    (accepted, state, cells, level_numbers A p symbols ++ drop p.levels levels, zeroed m.w memory)

abbrev pub read_words : Arithmetic → Meaning → Plan → ℕ → State → List ℕ → List ℕ → List ℕ → List (List ℕ) → Option ℕ → StoreAnswer
read_words A m p cue state cells levels memory words (Some word) = dark A m p state cells levels memory (fault_of_code cue word (mend_fault m))
read_words A m p cue state cells levels memory words None =
    let symbols = symbols_found A m words in
    shown_levels A m p cue state cells levels memory symbols (level_fault A p symbols)

abbrev pub recalled_cue_by : Arithmetic → Meaning → Plan → ℕ → State → List ℕ → List ℕ → List ℕ → Option ℕ → StoreAnswer
recalled_cue_by A m p cue state cells levels memory (Some number) = (refused number [], state, cells, levels, memory)
recalled_cue_by A m p cue state cells levels memory None =
    let words = cue_words A m p cells cue in
    read_words A m p cue state cells levels memory words (first_place (is_beyond_reach A m) words)

unfoldable pub recalled_cue : Arithmetic → Meaning → Plan → ℕ → State → List ℕ → List ℕ → List ℕ → StoreAnswer
recalled_cue A m p cue state cells levels memory =
    recalled_cue_by A m p cue state cells levels memory (recall_check A m p (mark_at state cue).recorded cue (length cells) (length levels) (length memory))

-- the tally question, start and stop: nothing is refused and nothing kept changes
abbrev pub tallied : State → ℕ × State
tallied state = (state.tally, state)

abbrev pub started : State → State
started state = state

abbrev pub stopped : State → State
stopped state = state

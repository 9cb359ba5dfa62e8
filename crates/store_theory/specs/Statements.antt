-- What holds of every run of every store.
use Rattle.std.specs.Prelude.{◌≡◌, ℕ, ◌*◌, ◌<◌, ◌≤◌, true, List, ◌++◌, length, drop, is_some, Some, None}
use Rattle.std.specs.List.{AllByRecursion}
use Rattle.theory.specs.Alphabets.{Arithmetic, Lawful}
use Rattle.theory.specs.Calls.{accepted}
use Rattle.theory.specs.Meanings.{Meaning, Keeps}
use Rattle.theory.specs.Words.{Symbols}
use Rattle.store_theory.specs.Books.{Entry, book, finds_record, finds_slip_record, finds_hold, finds_wipe, finds_touch_up}
use Rattle.store_theory.specs.Calls.{StoreAnswer, outcome_of, store_making, zeroed, level_fault, recorded_cue, recorded_cue_by_slip, held_cue, wiped_cue, touched_up_cue, without_counts, recalled_cue}
use Rattle.store_theory.specs.Costs.{harmless}
use Rattle.store_theory.specs.Layout.{Plan, symbol_count, word_count, together, messages_of, level_numbers}
use Rattle.store_theory.specs.Runs.{Step, Moment, after, GivesBytes}
use Rattle.store_theory.specs.States.{State, mark_at}

-- this run leads from a new store over these cells to this store and these cells
abbrev pub Leads : Arithmetic → Meaning → Plan → List ℕ → List Step → State → List ℕ → Type 0
Leads A m p start run state cells = after A m p start run ≡ record { state = state; cells = cells }

-- What a recall leaves is what was last recorded: for every run that leads here, if the book has levels for the cue and each
-- stretch of damage to each of its words cost less than the distance, and if there is memory enough, the recall is accepted
-- and gives exactly those levels.
abbrev pub LastRecorded : Arithmetic → Meaning → Plan → ℕ → State → List ℕ → List ℕ → List ℕ → StoreAnswer → Type 0
LastRecorded A m p cue state cells given memory left =
    (start : List ℕ) (run : List Step) → AllByRecursion GivesBytes run → Leads A m p start run state cells → (levels : List ℕ) → (book A m p (length start) run cue).levels ≡ Some levels → ((word : ℕ) → word < word_count A m p → harmless A m p (length start) run cue word ≡ true) → p.levels ≤ length given → m.w ≤ length memory → (length levels ≡ p.levels) × (left ≡ (accepted, state, cells, levels ++ drop p.levels given, zeroed m.w memory))

-- over every lawful alphabet and every code that keeps its meaning
abbrev pub RecallGivesWhatWasLastRecorded : Type 0
RecallGivesWhatWasLastRecorded =
    (A : Arithmetic) → Lawful A → (m : Meaning) → Keeps A m → (p : Plan) → store_making A m p ≡ accepted → (cue : ℕ) (state : State) (cells given memory : List ℕ) → LastRecorded A m p cue state cells given memory (recalled_cue A m p cue state cells given memory)

-- the book's entry of a cue and the store say the same: recorded or empty, held or free, and which calls are refused and why
pub record Agrees (A : Arithmetic) (m : Meaning) (p : Plan) (count : ℕ) (now : Moment) (cue : ℕ) (e : Entry) : Type 0 where
  pub cells_stay : length now.cells ≡ count
  pub recorded_alike : cue < p.cues → (mark_at now.state cue).recorded ≡ is_some e.levels
  pub held_alike : cue < p.cues → (mark_at now.state cue).held ≡ e.held
  pub record_by_book : (levels memory : List ℕ) → (recorded_cue A m p cue now.state now.cells levels memory).0 ≡ outcome_of (finds_record A m p count cue e levels memory)
  pub slip_by_book : (levels memory : List ℕ) → (recorded_cue_by_slip A m p cue now.state now.cells levels memory).0 ≡ outcome_of (finds_slip_record A m p count cue e levels memory)
  pub hold_by_book : (held_cue p cue now.state).0 ≡ outcome_of (finds_hold p cue e)
  pub wipe_by_book : (wiped_cue A m p cue now.state now.cells).0 ≡ outcome_of (finds_wipe A m p count cue e)
  pub touch_up_by_book : (memory : List ℕ) → without_counts (touched_up_cue A m p cue now.state now.cells memory).0 ≡ outcome_of (finds_touch_up A m p count cue e memory)

-- at every moment of every run, for every cue, also one that is not there
abbrev pub BookAndStoreAgree : Type 0
BookAndStoreAgree =
    (A : Arithmetic) → Lawful A → (m : Meaning) → Keeps A m → (p : Plan) → store_making A m p ≡ accepted → (start : List ℕ) (run : List Step) (cue : ℕ) → Agrees A m p (length start) (after A m p start run) cue (book A m p (length start) run cue)

-- the levels of a cue as messages, and back: the messages are messages of the code, as few as have room, and reading them
-- gives the levels with nothing to refuse
pub record ReadBack (A : Arithmetic) (m : Meaning) (p : Plan) (levels : List ℕ) : Type 0 where
  pub room : symbol_count A p ≤ word_count A m p * m.k
  pub fewest : (count : ℕ) → symbol_count A p ≤ count * m.k → word_count A m p ≤ count
  pub messages : AllByRecursion (Symbols A.q m.k) (messages_of A m p levels)
  pub back : level_numbers A p (together (messages_of A m p levels)) ≡ levels
  pub faultless : level_fault A p (together (messages_of A m p levels)) ≡ None

abbrev pub WrittenLevelsReadBack : Type 0
WrittenLevelsReadBack =
    (A : Arithmetic) → Lawful A → (m : Meaning) → Keeps A m → (p : Plan) (levels : List ℕ) → length levels ≡ p.levels → AllByRecursion (λ level. level < 256) levels → ReadBack A m p levels

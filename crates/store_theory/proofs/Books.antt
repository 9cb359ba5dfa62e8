-- The book settles what the store refuses, at every moment of every run and for every cue. Assumes nothing.
use Rattle.std.proofs.Common.{◌≡◌, ℕ, ◌<◌, ◌≤◌, Bool, List, length, is_some, Some, None, Option, refl, ap, ◌∙◌, ⊎_elim}
use Rattle.std.proofs.lemmas.Bool.{cases_lt}
use Rattle.theory.specs.Alphabets.{Arithmetic}
use Rattle.theory.specs.Meanings.{Meaning}
use Rattle.store_theory.specs.Books.{Entry, book, finds_record, finds_slip_record, finds_hold, finds_wipe, finds_touch_up}
use Rattle.store_theory.specs.Calls.{outcome_of, recorded_cue_by, recorded_cue, recorded_cue_by_slip, held_cue_by, held_cue, wiped_cue_by, wiped_cue, touched_up_cue_by, touched_up_cue, without_counts}
use Rattle.store_theory.specs.Checks.{record_check, slip_check, hold_check, wipe_check, touch_check}
use Rattle.store_theory.specs.Layout.{Plan}
use Rattle.store_theory.specs.Runs.{Moment, after}
use Rattle.store_theory.specs.States.{State, mark_at}
use Rattle.store_theory.specs.Statements.{BookAndStoreAgree}
use Rattle.store_theory.proofs.Agreement.{always_alike}
use Rattle.store_theory.proofs.Checks.{made_in_range, record_absent, slip_absent, hold_absent, wipe_absent, touch_absent}

module _ (A : Arithmetic) (m : Meaning) (p : Plan) (cue : ℕ) (state : State) (cells : List ℕ) where
  recorded_outcome : (levels memory : List ℕ) (o : Option ℕ) → (recorded_cue_by A m p cue state cells levels memory o).0 ≡ outcome_of o
  recorded_outcome levels memory None = refl
  recorded_outcome levels memory (Some number) = refl

  held_outcome : (o : Option ℕ) → (held_cue_by cue state o).0 ≡ outcome_of o
  held_outcome None = refl
  held_outcome (Some number) = refl

  wiped_outcome : (o : Option ℕ) → (wiped_cue_by A m p cue state cells o).0 ≡ outcome_of o
  wiped_outcome None = refl
  wiped_outcome (Some number) = refl

  touched_outcome : (memory : List ℕ) (o : Option ℕ) → without_counts (touched_up_cue_by A m p cue state cells memory o).0 ≡ outcome_of o
  touched_outcome memory None = refl
  touched_outcome memory (Some number) = refl

-- A check that goes by one mark of the cue finds the same in the book, since either the marks are alike or there is no such
-- cue, and then the mark does not matter.
by_book : (p : Plan) (cue count long : ℕ) (mark entry : Bool) (check : Bool → ℕ → Option ℕ) → long ≡ count → (cue < p.cues → mark ≡ entry) → (p.cues ≤ cue → check mark long ≡ check entry long) → check mark long ≡ check entry count
by_book p cue count long mark entry check same alike absent =
    ⊎_elim (λ (l : cue < p.cues). ap (λ (t : Bool). check t long) (alike l)) absent (cases_lt cue p.cues) ∙ ap (check entry) same

module _ (A : Arithmetic) (m : Meaning) (p : Plan) (count : ℕ) (now : Moment) (cue : ℕ) (e : Entry) (same : length now.cells ≡ count) (r : cue < p.cues → (mark_at now.state cue).recorded ≡ is_some e.levels) (h : cue < p.cues → (mark_at now.state cue).held ≡ e.held) where
  record_by_book : (levels memory : List ℕ) → (recorded_cue A m p cue now.state now.cells levels memory).0 ≡ outcome_of (finds_record A m p count cue e levels memory)
  unfolding recorded_cue
  record_by_book levels memory =
      recorded_outcome A m p cue now.state now.cells levels memory (record_check A m p (mark_at now.state cue).held cue (length now.cells) (length levels) (length memory))
      ∙ ap outcome_of (by_book p cue count (length now.cells) (mark_at now.state cue).held e.held (λ t n. record_check A m p t cue n (length levels) (length memory)) same h (record_absent A m p cue (length now.cells) (length levels) (length memory) (mark_at now.state cue).held e.held))

  slip_by_book : (levels memory : List ℕ) → (recorded_cue_by_slip A m p cue now.state now.cells levels memory).0 ≡ outcome_of (finds_slip_record A m p count cue e levels memory)
  unfolding recorded_cue_by_slip
  slip_by_book levels memory =
      recorded_outcome A m p cue now.state now.cells levels memory (slip_check A m p (mark_at now.state cue).held cue (length now.cells) (length levels) (length memory))
      ∙ ap outcome_of (by_book p cue count (length now.cells) (mark_at now.state cue).held e.held (λ t n. slip_check A m p t cue n (length levels) (length memory)) same h (slip_absent A m p cue (length now.cells) (length levels) (length memory) (mark_at now.state cue).held e.held))

  hold_by_book : (held_cue p cue now.state).0 ≡ outcome_of (finds_hold p cue e)
  unfolding held_cue
  hold_by_book =
      held_outcome A m p cue now.state now.cells (hold_check p (mark_at now.state cue).held cue)
      ∙ ap outcome_of (by_book p cue count (length now.cells) (mark_at now.state cue).held e.held (λ t n. hold_check p t cue) same h (hold_absent A m p cue 0 0 0 (mark_at now.state cue).held e.held))

  wipe_by_book : (wiped_cue A m p cue now.state now.cells).0 ≡ outcome_of (finds_wipe A m p count cue e)
  unfolding wiped_cue
  wipe_by_book =
      wiped_outcome A m p cue now.state now.cells (wipe_check A m p (mark_at now.state cue).held cue (length now.cells))
      ∙ ap outcome_of (by_book p cue count (length now.cells) (mark_at now.state cue).held e.held (λ t n. wipe_check A m p t cue n) same h (wipe_absent A m p cue (length now.cells) 0 0 (mark_at now.state cue).held e.held))

  touch_up_by_book : (memory : List ℕ) → without_counts (touched_up_cue A m p cue now.state now.cells memory).0 ≡ outcome_of (finds_touch_up A m p count cue e memory)
  unfolding touched_up_cue
  touch_up_by_book memory =
      touched_outcome A m p cue now.state now.cells memory (touch_check A m p (mark_at now.state cue).recorded cue (length now.cells) (length memory))
      ∙ ap outcome_of (by_book p cue count (length now.cells) (mark_at now.state cue).recorded (is_some e.levels) (λ t n. touch_check A m p t cue n (length memory)) same r (touch_absent A m p cue (length now.cells) 0 (length memory) (mark_at now.state cue).recorded (is_some e.levels)))

pub book_and_store_agree : BookAndStoreAgree
book_and_store_agree A laws m keeps p made start run cue =
    let range = made_in_range A m p made in
    let now = after A m p start run in
    let count = length start in
    let e = book A m p count run cue in
    let same = (always_alike A laws m keeps p range.1 count 0 range.0 start run refl).cells_long in
    let r : cue < p.cues → (mark_at now.state cue).recorded ≡ is_some e.levels = λ l. (always_alike A laws m keeps p range.1 count cue l start run refl).recorded_alike in
    let h : cue < p.cues → (mark_at now.state cue).held ≡ e.held = λ l. (always_alike A laws m keeps p range.1 count cue l start run refl).held_alike in
    record {
      cells_stay = same;
      recorded_alike = r;
      held_alike = h;
      record_by_book = record_by_book A m p count now cue e same r h;
      slip_by_book = slip_by_book A m p count now cue e same r h;
      hold_by_book = hold_by_book A m p count now cue e same r h;
      wipe_by_book = wipe_by_book A m p count now cue e same r h;
      touch_up_by_book = touch_up_by_book A m p count now cue e same r h;
    }

-- The book and the store agree at every moment of every run: by induction on the run, step by step. Assumes nothing.
use Rattle.std.proofs.Common.{◌≡◌, ℕ, ◌<◌, ◌≤◌, Bool, true, false, cond, ◌&&◌, eqb, ltb, List, [], ◌∷◌, length, set, replicate, is_some, Some, None, fold, Option, refl, ap, ◌∙◌, ap₂, ⊎_elim, arith, length-set}
use Rattle.std.proofs.lemmas.Bool.{cases_eq, lt-ltb, eq-eqb, ne_eqb}
use Rattle.theory.specs.Alphabets.{Arithmetic, Lawful}
use Rattle.theory.specs.Meanings.{Meaning, Keeps}
use Rattle.theory.specs.Memory.{over}
use Rattle.store_theory.specs.declared.CueMark.{CueMark}
use Rattle.store_theory.specs.Books.{Entry, no_entry, passes, entering, removing, holding_it, finds_hold, finds_wipe, booked, book}
use Rattle.store_theory.specs.Calls.{all_levels, recorded_cue_by, recorded_cue, recorded_cue_by_slip, held_cue_by, held_cue, let_go_cue, wiped_cue_by, wiped_cue, touched_up_cue_by, touched_up_cue, recalled_cue_by, recalled_cue, shown_levels, read_words, symbols_found, level_fault, first_place, is_beyond_reach}
use Rattle.store_theory.specs.Checks.{record_check, slip_check, hold_check, wipe_check, touch_check, recall_check}
use Rattle.store_theory.specs.Layout.{Plan, cell_of_word, cue_cells, cue_words, words_of, together, most_cues}
use Rattle.store_theory.specs.Runs.{Step, damage, recording, slip_recording, holding, letting_go, wiping, touching_up, recalling, asking_tally, starting, stopping, Moment, stepped, opening, after}
use Rattle.store_theory.specs.States.{State, new_state, mark_at, with_mark, with_recorded, with_held}
use Rattle.store_theory.proofs.Blocks.{all_levels_length, recording_length, touching_length, wiping_length}
use Rattle.store_theory.proofs.Checks.{Enough, record_passed, slip_passed, touch_passed, wipe_passed, seen_from}
use Rattle.store_theory.proofs.Marks.{mark_here, mark_elsewhere, marks_stay, new_mark, new_marks}

-- the store and the cells at one moment, and the book's entry of a cue, say the same
pub record Alike (count cue : ℕ) (state : State) (cells : List ℕ) (e : Entry) : Type 0 where
  pub marks_long : length state.marks ≡ most_cues
  pub cells_long : length cells ≡ count
  pub recorded_alike : (mark_at state cue).recorded ≡ is_some e.levels
  pub held_alike : (mark_at state cue).held ≡ e.held

module _ (count cue : ℕ) (state : State) (cells : List ℕ) (e : Entry) (h : Alike count cue state cells e) where
  -- what goes by the mark of a cue that is this one, and by how many cells there are, goes by the book
  pub by_held : {X : Type 0} (f : Bool → ℕ → ℕ → X) (which : ℕ) → which ≡ cue → f (mark_at state which).held which (length cells) ≡ f e.held cue count
  by_held f which same =
      ap (λ (c : ℕ). f (mark_at state c).held c (length cells)) same ∙ ap₂ (λ (t : Bool) (n : ℕ). f t cue n) h.held_alike h.cells_long

  pub by_recorded : {X : Type 0} (f : Bool → ℕ → ℕ → X) (which : ℕ) → which ≡ cue → f (mark_at state which).recorded which (length cells) ≡ f (is_some e.levels) cue count
  by_recorded f which same =
      ap (λ (c : ℕ). f (mark_at state c).recorded c (length cells)) same ∙ ap₂ (λ (t : Bool) (n : ℕ). f t cue n) h.recorded_alike h.cells_long

  -- a mark set here, with an entry that says the same
  pub alike_here : cue < most_cues → (which : ℕ) (mark : CueMark) (cells' : List ℕ) (e' : Entry) → which ≡ cue → length cells' ≡ length cells → mark.recorded ≡ is_some e'.levels → mark.held ≡ e'.held → Alike count cue (with_mark state which mark) cells' e'
  alike_here few which mark cells' e' same long r l =
      let is : mark_at (with_mark state which mark) cue ≡ mark =
      ap (λ (c : ℕ). mark_at (with_mark state c mark) cue) same ∙ mark_here state cue mark (omega (arith, h.marks_long)) in
      record {
        marks_long = marks_stay state which mark ∙ h.marks_long;
        cells_long = long ∙ h.cells_long;
        recorded_alike = ap (λ (x : CueMark). x.recorded) is ∙ r;
        held_alike = ap (λ (x : CueMark). x.held) is ∙ l;
      }

  -- a mark set elsewhere
  pub alike_elsewhere : (which : ℕ) (mark : CueMark) (cells' : List ℕ) → (which ≡ cue → ⊥) → length cells' ≡ length cells → Alike count cue (with_mark state which mark) cells' e
  alike_elsewhere which mark cells' differs long =
      let is = mark_elsewhere state which cue mark differs in
      record {
        marks_long = marks_stay state which mark ∙ h.marks_long;
        cells_long = long ∙ h.cells_long;
        recorded_alike = ap (λ (x : CueMark). x.recorded) is ∙ h.recorded_alike;
        held_alike = ap (λ (x : CueMark). x.held) is ∙ h.held_alike;
      }

  -- other cells, as many
  pub alike_cells : (cells' : List ℕ) → length cells' ≡ length cells → Alike count cue state cells' e
  alike_cells cells' long =
      record { marks_long = h.marks_long; cells_long = long ∙ h.cells_long; recorded_alike = h.recorded_alike; held_alike = h.held_alike }

-- a recall leaves the store and the cells as they were
pub recall_reads : (A : Arithmetic) (m : Meaning) (p : Plan) (cue : ℕ) (state : State) (cells levels memory : List ℕ) → ((recalled_cue A m p cue state cells levels memory).1 ≡ state) × ((recalled_cue A m p cue state cells levels memory).2 ≡ cells)
unfolding recalled_cue
recall_reads A m p cue state cells levels memory = checked (recall_check A m p (mark_at state cue).recorded cue (length cells) (length levels) (length memory))
  where
    shown : (symbols : List ℕ) (o : Option ℕ) → ((shown_levels A m p cue state cells levels memory symbols o).1 ≡ state) × ((shown_levels A m p cue state cells levels memory symbols o).2 ≡ cells)
    shown symbols None = (refl, refl)
    shown symbols (Some level) = (refl, refl)

    read : (words : List (List ℕ)) (o : Option ℕ) → ((read_words A m p cue state cells levels memory words o).1 ≡ state) × ((read_words A m p cue state cells levels memory words o).2 ≡ cells)
    read words None = shown (symbols_found A m words) (level_fault A p (symbols_found A m words))
    read words (Some word) = (refl, refl)

    checked : (o : Option ℕ) → ((recalled_cue_by A m p cue state cells levels memory o).1 ≡ state) × ((recalled_cue_by A m p cue state cells levels memory o).2 ≡ cells)
    checked None = read (cue_words A m p cells cue) (first_place (is_beyond_reach A m) (cue_words A m p cells cue))
    checked (Some number) = (refl, refl)

module _ (A : Arithmetic) (laws : Lawful A) (m : Meaning) (keeps : Keeps A m) (p : Plan) (few : p.cues ≤ most_cues) (count cue : ℕ) (there : cue < p.cues) (state : State) (cells : List ℕ) (e : Entry) (h : Alike count cue state cells e) where
  marked : cue < most_cues
  marked = omega arith

  recording_alike : (check : Bool → ℕ → ℕ → ℕ → ℕ → Option ℕ) → ((t : Bool) (which long levels memory : ℕ) → check t which long levels memory ≡ None → Enough A m p which long × (levels ≤ p.levels)) → (which : ℕ) (levels memory : List ℕ) → let left = recorded_cue_by A m p which state cells levels memory (check (mark_at state which).held which (length cells) (length levels) (length memory)) in Alike count cue left.1 left.2 (cond (eqb which cue && passes (check e.held cue count (length levels) (length memory))) (entering p levels e) e)
  recording_alike check passing which levels memory =
      seen_from (λ o b. Alike count cue (recorded_cue_by A m p which state cells levels memory o).1 (recorded_cue_by A m p which state cells levels memory o).2 (cond b (entering p levels e) e)) which cue (check (mark_at state which).held which (length cells) (length levels) (length memory)) (check e.held cue count (length levels) (length memory)) (by_held count cue state cells e h (λ t c n. check t c n (length levels) (length memory)) which) here elsewhere (λ number. h)
    where
      long : check (mark_at state which).held which (length cells) (length levels) (length memory) ≡ None → length (over cells (cell_of_word A m p which 0) (together (words_of A m p (all_levels p levels)))) ≡ length cells
      long found =
          let enough = passing (mark_at state which).held which (length cells) (length levels) (length memory) found in
          recording_length A m keeps p cells which enough.0.there enough.0.room laws (all_levels p levels) (all_levels_length p levels enough.1)

      here : which ≡ cue → check (mark_at state which).held which (length cells) (length levels) (length memory) ≡ None → Alike count cue (with_recorded state which true) (over cells (cell_of_word A m p which 0) (together (words_of A m p (all_levels p levels)))) (entering p levels e)
      here same found =
          alike_here count cue state cells e h marked which (record { recorded = true; held = (mark_at state which).held }) _ (entering p levels e) same (long found) refl (ap (λ (c : ℕ). (mark_at state c).held) same ∙ h.held_alike)

      elsewhere : (which ≡ cue → ⊥) → check (mark_at state which).held which (length cells) (length levels) (length memory) ≡ None → Alike count cue (with_recorded state which true) (over cells (cell_of_word A m p which 0) (together (words_of A m p (all_levels p levels)))) e
      elsewhere differs found =
          alike_elsewhere count cue state cells e h which (record { recorded = true; held = (mark_at state which).held }) _ differs (long found)

  hold_alike : (which : ℕ) → Alike count cue (held_cue p which state).1 cells (cond (eqb which cue && passes (finds_hold p cue e)) (holding_it true e) e)
  unfolding held_cue
  hold_alike which =
      seen_from (λ o b. Alike count cue (held_cue_by which state o).1 cells (cond b (holding_it true e) e)) which cue (hold_check p (mark_at state which).held which) (finds_hold p cue e) (by_held count cue state cells e h (λ t c n. hold_check p t c) which) here elsewhere (λ number. h)
    where
      here : which ≡ cue → hold_check p (mark_at state which).held which ≡ None → Alike count cue (with_held state which true) cells (holding_it true e)
      here same found =
          alike_here count cue state cells e h marked which (record { recorded = (mark_at state which).recorded; held = true }) cells (holding_it true e) same refl (ap (λ (c : ℕ). (mark_at state c).recorded) same ∙ h.recorded_alike) refl

      elsewhere : (which ≡ cue → ⊥) → hold_check p (mark_at state which).held which ≡ None → Alike count cue (with_held state which true) cells e
      elsewhere differs found =
          alike_elsewhere count cue state cells e h which (record { recorded = (mark_at state which).recorded; held = true }) cells differs refl

  let_go_alike : (which : ℕ) → Alike count cue (let_go_cue p which state) cells (cond (eqb which cue && ltb cue p.cues) (holding_it false e) e)
  unfolding let_go_cue
  let_go_alike which = ⊎_elim one another (cases_eq which cue)
    where
      at_one : (a b d : Bool) → which ≡ cue → a ≡ true → b ≡ true → d ≡ true → Alike count cue (cond a (with_held state which false) state) cells (cond (b && d) (holding_it false e) e)
      at_one true true true same x y z =
          alike_here count cue state cells e h marked which (record { recorded = (mark_at state which).recorded; held = false }) cells (holding_it false e) same refl (ap (λ (c : ℕ). (mark_at state c).recorded) same ∙ h.recorded_alike) refl
      at_one true true false same x y z = absurd (let n : ◌≡◌ {A = ℕ} 0 1 = cc in omega arith)
      at_one true false d same x y z = absurd (let n : ◌≡◌ {A = ℕ} 0 1 = cc in omega arith)
      at_one false b d same x y z = absurd (let n : ◌≡◌ {A = ℕ} 0 1 = cc in omega arith)

      one : which ≡ cue → Alike count cue (cond (ltb which p.cues) (with_held state which false) state) cells (cond (eqb which cue && ltb cue p.cues) (holding_it false e) e)
      one same =
          at_one (ltb which p.cues) (eqb which cue) (ltb cue p.cues) same (lt-ltb which p.cues (omega arith)) (eq-eqb which cue same) (lt-ltb cue p.cues there)

      at_another : (a b : Bool) → (which ≡ cue → ⊥) → b ≡ false → Alike count cue (cond a (with_held state which false) state) cells (cond (b && ltb cue p.cues) (holding_it false e) e)
      at_another true false differs x =
          alike_elsewhere count cue state cells e h which (record { recorded = (mark_at state which).recorded; held = false }) cells differs refl
      at_another false false differs x = h
      at_another a true differs x = absurd (let n : ◌≡◌ {A = ℕ} 0 1 = cc in omega arith)

      another : (which ≡ cue → ⊥) → Alike count cue (cond (ltb which p.cues) (with_held state which false) state) cells (cond (eqb which cue && ltb cue p.cues) (holding_it false e) e)
      another differs = at_another (ltb which p.cues) (eqb which cue) differs (ne_eqb which cue differs)

  wipe_alike : (which : ℕ) → Alike count cue (wiped_cue A m p which state cells).1 (wiped_cue A m p which state cells).2 (cond (eqb which cue && passes (finds_wipe A m p count cue e)) (removing e) e)
  unfolding wiped_cue
  wipe_alike which =
      seen_from (λ o b. Alike count cue (wiped_cue_by A m p which state cells o).1 (wiped_cue_by A m p which state cells o).2 (cond b (removing e) e)) which cue (wipe_check A m p (mark_at state which).held which (length cells)) (finds_wipe A m p count cue e) (by_held count cue state cells e h (wipe_check A m p) which) here elsewhere (λ number. h)
    where
      long : wipe_check A m p (mark_at state which).held which (length cells) ≡ None → length (over cells (cell_of_word A m p which 0) (replicate (cue_cells A m p) 0)) ≡ length cells
      long found =
          let enough = wipe_passed A m p which (length cells) 0 0 (mark_at state which).held found in
          wiping_length A m keeps p cells which enough.there enough.room

      here : which ≡ cue → wipe_check A m p (mark_at state which).held which (length cells) ≡ None → Alike count cue (with_recorded state which false) (over cells (cell_of_word A m p which 0) (replicate (cue_cells A m p) 0)) (removing e)
      here same found =
          alike_here count cue state cells e h marked which (record { recorded = false; held = (mark_at state which).held }) _ (removing e) same (long found) refl (ap (λ (c : ℕ). (mark_at state c).held) same ∙ h.held_alike)

      elsewhere : (which ≡ cue → ⊥) → wipe_check A m p (mark_at state which).held which (length cells) ≡ None → Alike count cue (with_recorded state which false) (over cells (cell_of_word A m p which 0) (replicate (cue_cells A m p) 0)) e
      elsewhere differs found =
          alike_elsewhere count cue state cells e h which (record { recorded = false; held = (mark_at state which).held }) _ differs (long found)

  touch_up_alike : (which : ℕ) (memory : List ℕ) → Alike count cue (touched_up_cue A m p which state cells memory).1 (touched_up_cue A m p which state cells memory).2 e
  unfolding touched_up_cue
  touch_up_alike which memory = go (touch_check A m p (mark_at state which).recorded which (length cells) (length memory)) refl
    where
      go : (o : Option ℕ) → touch_check A m p (mark_at state which).recorded which (length cells) (length memory) ≡ o → Alike count cue (touched_up_cue_by A m p which state cells memory o).1 (touched_up_cue_by A m p which state cells memory o).2 e
      go (Some number) found = h
      go None found =
          let enough = touch_passed A m p which (length cells) 0 (length memory) (mark_at state which).recorded found in
          record {
            marks_long = h.marks_long;
            cells_long = touching_length A m keeps p cells which enough.there enough.room ∙ h.cells_long;
            recorded_alike = h.recorded_alike;
            held_alike = h.held_alike;
          }

  recall_alike : (which : ℕ) (levels memory : List ℕ) → Alike count cue (recalled_cue A m p which state cells levels memory).1 (recalled_cue A m p which state cells levels memory).2 e
  recall_alike which levels memory =
      let same = recall_reads A m p which state cells levels memory in
      record {
        marks_long = ap (λ (s : State). length s.marks) same.0 ∙ h.marks_long;
        cells_long = ap (λ (xs : List ℕ). length xs) same.1 ∙ h.cells_long;
        recorded_alike = ap (λ (s : State). (mark_at s cue).recorded) same.0 ∙ h.recorded_alike;
        held_alike = ap (λ (s : State). (mark_at s cue).held) same.0 ∙ h.held_alike;
      }

  record_alike : (which : ℕ) (levels memory : List ℕ) → Alike count cue (recorded_cue A m p which state cells levels memory).1 (recorded_cue A m p which state cells levels memory).2 (booked A m p count cue e (recording which levels memory))
  unfolding recorded_cue
  record_alike = recording_alike (record_check A m p) (λ t which long levels memory f. record_passed A m p which long levels memory t f)

  slip_alike : (which : ℕ) (levels memory : List ℕ) → Alike count cue (recorded_cue_by_slip A m p which state cells levels memory).1 (recorded_cue_by_slip A m p which state cells levels memory).2 (booked A m p count cue e (slip_recording which levels memory))
  unfolding recorded_cue_by_slip
  slip_alike = recording_alike (slip_check A m p) (λ t which long levels memory f. slip_passed A m p which long levels memory t f)

-- every step keeps them alike
module _ (A : Arithmetic) (laws : Lawful A) (m : Meaning) (keeps : Keeps A m) (p : Plan) (few : p.cues ≤ most_cues) (count cue : ℕ) (there : cue < p.cues) where
  pub step_alike : (now : Moment) (e : Entry) (step : Step) → Alike count cue now.state now.cells e → Alike count cue (stepped A m p now step).state (stepped A m p now step).cells (booked A m p count cue e step)
  step_alike now e (damage cell byte) h =
      alike_cells count cue now.state now.cells e h (set now.cells cell byte) (length-set now.cells cell byte)
  step_alike now e (recording which levels memory) h = record_alike A laws m keeps p few count cue there now.state now.cells e h which levels memory
  step_alike now e (slip_recording which levels memory) h = slip_alike A laws m keeps p few count cue there now.state now.cells e h which levels memory
  step_alike now e (holding which) h = hold_alike A laws m keeps p few count cue there now.state now.cells e h which
  step_alike now e (letting_go which) h = let_go_alike A laws m keeps p few count cue there now.state now.cells e h which
  step_alike now e (wiping which) h = wipe_alike A laws m keeps p few count cue there now.state now.cells e h which
  step_alike now e (touching_up which memory) h = touch_up_alike A laws m keeps p few count cue there now.state now.cells e h which memory
  step_alike now e (recalling which levels memory) h = recall_alike A laws m keeps p few count cue there now.state now.cells e h which levels memory
  step_alike now e asking_tally h = h
  step_alike now e starting h = h
  step_alike now e stopping h = h

  run_alike : (run : List Step) (now : Moment) (e : Entry) → Alike count cue now.state now.cells e → Alike count cue (fold (stepped A m p) now run).state (fold (stepped A m p) now run).cells (fold (booked A m p count cue) e run)
  run_alike [] now e h = h
  run_alike (step ∷ run) now e h = run_alike run (stepped A m p now step) (booked A m p count cue e step) (step_alike now e step h)

  pub new_alike : (start : List ℕ) → length start ≡ count → Alike count cue new_state start no_entry
  new_alike start long =
      let blank-there = new_mark cue (omega arith) in
      record {
        marks_long = new_marks;
        cells_long = long;
        recorded_alike = ap (λ (x : CueMark). x.recorded) blank-there;
        held_alike = ap (λ (x : CueMark). x.held) blank-there;
      }

  -- the book and the store are alike after every run
  pub always_alike : (start : List ℕ) (run : List Step) → length start ≡ count → Alike count cue (after A m p start run).state (after A m p start run).cells (book A m p count run cue)
  always_alike start run long = run_alike run (opening start) no_entry (new_alike start long)

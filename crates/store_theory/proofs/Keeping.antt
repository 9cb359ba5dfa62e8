-- What a run leaves of one word of a cue: as long as its stretches of damage are harmless, its toll against the word of what
-- was last recorded is at most what the damage of the present stretch cost. By induction on the run, step by step.
-- Of mending it knows only what proofs/Reached.antt has. Assumes nothing.
use Rattle.std.proofs.Common.{◌≡◌, ℕ, zero, suc, ◌+◌, ◌-◌, ◌<◌, ◌≤◌, Bool, true, false, cond, ◌&&◌, eqb, ltb, leb, List, [], ◌∷◌, map, length, get_or, set, replicate, Some, None, fold, Option, sym, refl, ap, ◌∙◌, subst, ⊎_elim, arith, length-set}
use lib.ListN.{length-replicate}
use Rattle.std.specs.List.{AllByRecursion as All}
use Rattle.std.proofs.ByRecursion.{All-append, All-get_or}
use Rattle.std.proofs.lemmas.List.{get_or-map}
use Rattle.std.proofs.lemmas.Bool.{and_parts, and_cases, ltb-true, ltb-false, leb-true, leb-false, cond_both}
use Rattle.theory.specs.Alphabets.{Arithmetic, Lawful}
use Rattle.theory.specs.Meanings.{Meaning, Keeps}
use Rattle.theory.specs.Memory.{over, part}
use Rattle.theory.specs.Words.{Symbols, toll}
use Rattle.theory.proofs.Overs.{length_part}
use Rattle.theory.proofs.Words.{toll_self}
use Rattle.store_theory.specs.Books.{Entry, no_entry, passes, entering, removing, holding_it, finds_hold, finds_wipe, finds_touch_up, booked, book}
use Rattle.store_theory.specs.Calls.{missing_level, all_levels, recorded_cue_by, recorded_cue, recorded_cue_by_slip, wiped_cue_by, wiped_cue, touched_up_cue_by, touched_up_cue, touched_word}
use Rattle.store_theory.specs.Checks.{record_check, slip_check, wipe_check, touch_check}
use Rattle.store_theory.specs.Costs.{damage_cost, within, Stretch, no_stretch, ending, adding, costed, Account, accounted, stretch_of}
use Rattle.store_theory.specs.Layout.{Plan, word_count, cell_count, cue_cells, cell_of_word, cue_words, messages_of, words_of, together, most_cues}
use Rattle.store_theory.specs.Runs.{Step, damage, recording, slip_recording, holding, letting_go, wiping, touching_up, recalling, asking_tally, starting, stopping, Moment, stepped, opening, after, GivesBytes}
use Rattle.store_theory.specs.States.{State, mark_at}
use Rattle.store_theory.proofs.Agreement.{Alike, by_held, by_recorded, step_alike, new_alike, recall_reads}
use Rattle.store_theory.proofs.Blocks.{all_levels_length, words_long, words_count, messages_count, cue_words_count, touched_long, touched_count, recording_length, touching_length, wiping_length}
use Rattle.store_theory.proofs.Checks.{Enough, record_passed, slip_passed, touch_passed, wipe_passed, seen_from}
use Rattle.store_theory.proofs.Damage.{part_damaged_below, part_damaged_above, part_damaged, toll_damaged}
use Rattle.store_theory.proofs.Levels.{messages_are_messages}
use Rattle.store_theory.proofs.Places.{word_inside, word_read, word_written, word_elsewhere, words_length}
use Rattle.store_theory.proofs.Reached.{near_touched}

same_some : (xs ys : List ℕ) → Some xs ≡ Some ys → xs ≡ ys
same_some xs ys e = cc

-- zeros are bytes
missing_bytes : (count : ℕ) → All (λ level. level < 256) (replicate count missing_level)
missing_bytes zero = tt
missing_bytes (suc count) = (omega arith, missing_bytes count)

pub all_levels_bytes : (p : Plan) (levels : List ℕ) → All (λ level. level < 256) levels → All (λ level. level < 256) (all_levels p levels)
all_levels_bytes p levels h =
    All-append (λ level. level < 256) levels (replicate (p.levels - length levels) missing_level) h (missing_bytes (p.levels - length levels))

module _ (A : Arithmetic) (m : Meaning) (p : Plan) (cue word : ℕ) where
  -- the message that a word of the cue was written for
  abbrev pub message_at : List ℕ → List ℕ
  message_at levels = get_or (messages_of A m p levels) word []

  -- the word as the cells have it
  abbrev pub word_at : List ℕ → List ℕ
  word_at cells = part cells (cell_of_word A m p cue word) m.n

  pub record Kept (cells levels : List ℕ) (s : Stretch) : Type 0 where
    pub room : cell_count A m p ≤ length cells
    pub all : length levels ≡ p.levels
    pub bytes : All (λ level. level < 256) levels
    pub near : s.fine ≡ true → toll A.q (m.word (message_at levels)) (word_at cells) ≤ s.cost

  -- .. of whatever levels the book has
  abbrev pub KeptBy : List ℕ → Entry → Stretch → Type 0
  KeptBy cells e s = (levels : List ℕ) → e.levels ≡ Some levels → Kept cells levels s

  -- cells that have the same word, and as many of them
  pub kept_still : (cells cells' : List ℕ) (e : Entry) (s : Stretch) → length cells' ≡ length cells → word_at cells' ≡ word_at cells → KeptBy cells e s → KeptBy cells' e s
  kept_still cells cells' e s long same k levels is =
      let h = k levels is in
      record {
        room = omega (arith, h.room);
        all = h.all;
        bytes = h.bytes;
        near = λ fine. subst (λ (xs : List ℕ). toll A.q (m.word (message_at levels)) xs ≤ s.cost) (sym same) (h.near fine);
      }

module _ (A : Arithmetic) (laws : Lawful A) (m : Meaning) (keeps : Keeps A m) (p : Plan) (cue word : ℕ) (inside : word < word_count A m p) where
  -- each word of a cue was written for a message of the code
  pub message_there : (levels : List ℕ) → length levels ≡ p.levels → Symbols A.q m.k (message_at A m p cue word levels)
  message_there levels all =
      All-get_or (Symbols A.q m.k) (messages_of A m p levels) word [] (omega (arith, messages_count A m keeps p laws levels all)) (messages_are_messages A m p keeps.some_symbols levels all laws)

  own_toll : (levels : List ℕ) → length levels ≡ p.levels → toll A.q (m.word (message_at A m p cue word levels)) (m.word (message_at A m p cue word levels)) ≡ 0
  own_toll levels all = toll_self A.q (m.word (message_at A m p cue word levels)) (keeps.words (message_at A m p cue word levels) (message_there levels all)).each

  -- a word that stands as it was written costs nothing
  exact : (cells levels : List ℕ) (s : Stretch) → length levels ≡ p.levels → word_at A m p cue word cells ≡ m.word (message_at A m p cue word levels) → toll A.q (m.word (message_at A m p cue word levels)) (word_at A m p cue word cells) ≤ s.cost
  exact cells levels s all is =
      let none : toll A.q (m.word (message_at A m p cue word levels)) (word_at A m p cue word cells) ≡ 0 =
      ap (toll A.q (m.word (message_at A m p cue word levels))) is ∙ own_toll levels all in
      omega arith

  module _ (cells : List ℕ) (e : Entry) (s : Stretch) (k : KeptBy A m p cue word cells e s) where
    -- damage to a cell
    damage_kept : (cell byte : ℕ) → cue < p.cues → KeptBy A m p cue word (set cells cell byte) e (cond (within A m p cue word cell) (adding (damage_cost A byte) s) s)
    damage_kept cell byte there =
        cond_both (within A m p cue word cell) (adding (damage_cost A byte) s) s (λ s'. KeptBy A m p cue word (set cells cell byte) e s') hit missed
      where
        long : length (set cells cell byte) ≡ length cells
        long = length-set cells cell byte

        hit : within A m p cue word cell ≡ true → KeptBy A m p cue word (set cells cell byte) e (adding (damage_cost A byte) s)
        hit t levels is =
            let h = k levels is in
            let w = m.word (message_at A m p cue word levels) in
            let bounds = and_parts (leb (cell_of_word A m p cue word) cell) (ltb cell (cell_of_word A m p cue word + m.n)) t in
            let low = leb-true (cell_of_word A m p cue word) cell bounds.0 in
            let high = ltb-true cell (cell_of_word A m p cue word + m.n) bounds.1 in
            let word_long : length (word_at A m p cue word cells) ≡ m.n = length_part cells (cell_of_word A m p cue word) m.n (word_inside A m p cells cue there h.room word inside) in
            let changed = part_damaged cells (cell_of_word A m p cue word) m.n cell byte low high in
            let grown = toll_damaged A w (word_at A m p cue word cells) (cell - cell_of_word A m p cue word) byte ((keeps.words (message_at A m p cue word levels) (message_there levels h.all)).long ∙ sym word_long) in
            record {
              room = omega (arith, h.room, long);
              all = h.all;
              bytes = h.bytes;
              near = λ fine. subst (λ (xs : List ℕ). toll A.q w xs ≤ s.cost + damage_cost A byte) (sym changed) (omega (arith, h.near fine, grown));
            }

        missed : within A m p cue word cell ≡ false → KeptBy A m p cue word (set cells cell byte) e s
        missed t =
            kept_still A m p cue word cells (set cells cell byte) e s long (⊎_elim below above (and_cases (leb (cell_of_word A m p cue word) cell) (ltb cell (cell_of_word A m p cue word + m.n)) t)) k
          where
            below : leb (cell_of_word A m p cue word) cell ≡ false → word_at A m p cue word (set cells cell byte) ≡ word_at A m p cue word cells
            below f = part_damaged_below cells (cell_of_word A m p cue word) m.n cell byte (leb-false (cell_of_word A m p cue word) cell f)

            above : ltb cell (cell_of_word A m p cue word + m.n) ≡ false → word_at A m p cue word (set cells cell byte) ≡ word_at A m p cue word cells
            above f = part_damaged_above cells (cell_of_word A m p cue word) m.n cell byte (ltb-false cell (cell_of_word A m p cue word + m.n) f)

    module _ (count : ℕ) (state : State) (h : Alike count cue state cells e) where
      -- a recording, by its own check
      recording_kept : (check : Bool → ℕ → ℕ → ℕ → ℕ → Option ℕ) → ((t : Bool) (which long levels memory : ℕ) → check t which long levels memory ≡ None → Enough A m p which long × (levels ≤ p.levels)) → (which : ℕ) (levels memory : List ℕ) → All (λ level. level < 256) levels → let b = eqb which cue && passes (check e.held cue count (length levels) (length memory)) in KeptBy A m p cue word (recorded_cue_by A m p which state cells levels memory (check (mark_at state which).held which (length cells) (length levels) (length memory))).2 (cond b (entering p levels e) e) (cond b no_stretch s)
      recording_kept check passing which levels memory bytes =
          seen_from (λ o b. KeptBy A m p cue word (recorded_cue_by A m p which state cells levels memory o).2 (cond b (entering p levels e) e) (cond b no_stretch s)) which cue (check (mark_at state which).held which (length cells) (length levels) (length memory)) (check e.held cue count (length levels) (length memory)) (by_held count cue state cells e h (λ t c n. check t c n (length levels) (length memory)) which) here elsewhere (λ number. k)
        where
          enough : check (mark_at state which).held which (length cells) (length levels) (length memory) ≡ None → Enough A m p which (length cells) × (length (all_levels p levels) ≡ p.levels)
          enough found =
              let f = passing (mark_at state which).held which (length cells) (length levels) (length memory) found in
              (f.0, all_levels_length p levels f.1)

          at_cue : Enough A m p cue (length cells) → length (all_levels p levels) ≡ p.levels → KeptBy A m p cue word (over cells (cell_of_word A m p cue 0) (together (words_of A m p (all_levels p levels)))) (entering p levels e) no_stretch
          at_cue fits all others is =
              let words = words_of A m p (all_levels p levels) in
              let stands : word_at A m p cue word (over cells (cell_of_word A m p cue 0) (together words)) ≡ m.word (message_at A m p cue word (all_levels p levels)) =
              word_written A m p cells cue fits.there fits.room words (words_long A m keeps p laws (all_levels p levels) all) (words_count A m keeps p laws (all_levels p levels) all) word inside
              ∙ get_or-map m.word (messages_of A m p (all_levels p levels)) word [] [] (omega (arith, messages_count A m keeps p laws (all_levels p levels) all)) in
              subst (λ (ls : List ℕ). Kept A m p cue word (over cells (cell_of_word A m p cue 0) (together words)) ls no_stretch) (same_some (all_levels p levels) others is)
              (record {
                room = omega (arith, fits.room, recording_length A m keeps p cells cue fits.there fits.room laws (all_levels p levels) all);
                all = all;
                bytes = all_levels_bytes p levels bytes;
                near = λ fine. exact (over cells (cell_of_word A m p cue 0) (together words)) (all_levels p levels) no_stretch all stands;
              })

          here : which ≡ cue → check (mark_at state which).held which (length cells) (length levels) (length memory) ≡ None → KeptBy A m p cue word (over cells (cell_of_word A m p which 0) (together (words_of A m p (all_levels p levels)))) (entering p levels e) no_stretch
          here same found =
              let f = enough found in
              subst (λ (c : ℕ). KeptBy A m p cue word (over cells (cell_of_word A m p c 0) (together (words_of A m p (all_levels p levels)))) (entering p levels e) no_stretch) (sym same)
              (at_cue (subst (λ (c : ℕ). Enough A m p c (length cells)) same f.0) f.1)

          elsewhere : (which ≡ cue → ⊥) → check (mark_at state which).held which (length cells) (length levels) (length memory) ≡ None → KeptBy A m p cue word (over cells (cell_of_word A m p which 0) (together (words_of A m p (all_levels p levels)))) e s
          elsewhere differs found =
              let f = enough found in
              let words = words_of A m p (all_levels p levels) in
              kept_still A m p cue word cells (over cells (cell_of_word A m p which 0) (together words)) e s
              (recording_length A m keeps p cells which f.0.there f.0.room laws (all_levels p levels) f.1)
              (word_elsewhere A m p cells which f.0.there f.0.room (together words) (words_length A m p cells which f.0.there f.0.room words (words_long A m keeps p laws (all_levels p levels) f.1) (words_count A m keeps p laws (all_levels p levels) f.1)) cue word differs inside) k

      wipe_kept : (which : ℕ) → KeptBy A m p cue word (wiped_cue A m p which state cells).2 (cond (eqb which cue && passes (finds_wipe A m p count cue e)) (removing e) e) s
      unfolding wiped_cue
      wipe_kept which =
          seen_from (λ o b. KeptBy A m p cue word (wiped_cue_by A m p which state cells o).2 (cond b (removing e) e) s) which cue (wipe_check A m p (mark_at state which).held which (length cells)) (finds_wipe A m p count cue e) (by_held count cue state cells e h (wipe_check A m p) which) here elsewhere (λ number. k)
        where
          here : which ≡ cue → wipe_check A m p (mark_at state which).held which (length cells) ≡ None → KeptBy A m p cue word (over cells (cell_of_word A m p which 0) (replicate (cue_cells A m p) 0)) (removing e) s
          here same found levels is = absurd (let z : ◌≡◌ {A = ℕ} 0 1 = cc in omega arith)

          elsewhere : (which ≡ cue → ⊥) → wipe_check A m p (mark_at state which).held which (length cells) ≡ None → KeptBy A m p cue word (over cells (cell_of_word A m p which 0) (replicate (cue_cells A m p) 0)) e s
          elsewhere differs found =
              let f = wipe_passed A m p which (length cells) 0 0 (mark_at state which).held found in
              kept_still A m p cue word cells (over cells (cell_of_word A m p which 0) (replicate (cue_cells A m p) 0)) e s
              (wiping_length A m keeps p cells which f.there f.room)
              (word_elsewhere A m p cells which f.there f.room (replicate (cue_cells A m p) 0) (length-replicate (cue_cells A m p) 0) cue word differs inside) k

      -- a touch up: a word whose stretch was harmless stands again as it was written
      touch_up_kept : (which : ℕ) (memory : List ℕ) → KeptBy A m p cue word (touched_up_cue A m p which state cells memory).2 e (cond (eqb which cue && passes (finds_touch_up A m p count cue e memory)) (ending m s) s)
      unfolding touched_up_cue
      touch_up_kept which memory =
          seen_from (λ o b. KeptBy A m p cue word (touched_up_cue_by A m p which state cells memory o).2 e (cond b (ending m s) s)) which cue (touch_check A m p (mark_at state which).recorded which (length cells) (length memory)) (finds_touch_up A m p count cue e memory) (by_recorded count cue state cells e h (λ t c n. touch_check A m p t c n (length memory)) which) here elsewhere (λ number. k)
        where
          at_cue : Enough A m p cue (length cells) → KeptBy A m p cue word (over cells (cell_of_word A m p cue 0) (together (map (touched_word A m) (cue_words A m p cells cue)))) e (ending m s)
          at_cue fits levels is =
              let held = k levels is in
              let words = map (touched_word A m) (cue_words A m p cells cue) in
              let message = message_at A m p cue word levels in
              let word_long : length (word_at A m p cue word cells) ≡ m.n = length_part cells (cell_of_word A m p cue word) m.n (word_inside A m p cells cue fits.there fits.room word inside) in
              let stands : word_at A m p cue word (over cells (cell_of_word A m p cue 0) (together words)) ≡ touched_word A m (word_at A m p cue word cells) =
              word_written A m p cells cue fits.there fits.room words (touched_long A m keeps p cells cue fits.there fits.room) (touched_count A m keeps p cells cue) word inside
              ∙ get_or-map (touched_word A m) (cue_words A m p cells cue) word [] [] (omega (arith, cue_words_count A m keeps p cells cue))
              ∙ ap (touched_word A m) (word_read A m p cells cue word inside) in
              record {
                room = omega (arith, fits.room, touching_length A m keeps p cells cue fits.there fits.room);
                all = held.all;
                bytes = held.bytes;
                near = λ fine.
                    let both = and_parts s.fine (ltb s.cost m.d) fine in
                    let near : toll A.q (m.word message) (word_at A m p cue word cells) < m.d = omega (arith, held.near both.0, ltb-true s.cost m.d both.1) in
                    exact (over cells (cell_of_word A m p cue 0) (together words)) levels (ending m s) held.all
                    (stands ∙ near_touched A m keeps (word_at A m p cue word cells) word_long message (message_there levels held.all) near);
              }

          here : which ≡ cue → touch_check A m p (mark_at state which).recorded which (length cells) (length memory) ≡ None → KeptBy A m p cue word (over cells (cell_of_word A m p which 0) (together (map (touched_word A m) (cue_words A m p cells which)))) e (ending m s)
          here same found =
              subst (λ (c : ℕ). KeptBy A m p cue word (over cells (cell_of_word A m p c 0) (together (map (touched_word A m) (cue_words A m p cells c)))) e (ending m s)) (sym same)
              (at_cue (subst (λ (c : ℕ). Enough A m p c (length cells)) same (touch_passed A m p which (length cells) 0 (length memory) (mark_at state which).recorded found)))

          elsewhere : (which ≡ cue → ⊥) → touch_check A m p (mark_at state which).recorded which (length cells) (length memory) ≡ None → KeptBy A m p cue word (over cells (cell_of_word A m p which 0) (together (map (touched_word A m) (cue_words A m p cells which)))) e s
          elsewhere differs found =
              let f = touch_passed A m p which (length cells) 0 (length memory) (mark_at state which).recorded found in
              let words = map (touched_word A m) (cue_words A m p cells which) in
              kept_still A m p cue word cells (over cells (cell_of_word A m p which 0) (together words)) e s
              (touching_length A m keeps p cells which f.there f.room)
              (word_elsewhere A m p cells which f.there f.room (together words) (words_length A m p cells which f.there f.room words (touched_long A m keeps p cells which f.there f.room) (touched_count A m keeps p cells which)) cue word differs inside) k

      -- entries with the same levels
      same_levels : (e' : Entry) → e'.levels ≡ e.levels → KeptBy A m p cue word cells e' s
      same_levels e' same levels is = k levels (sym same ∙ is)

      levels_stay : (b t : Bool) → (cond b (holding_it t e) e).levels ≡ e.levels
      levels_stay true t = refl
      levels_stay false t = refl

      step_kept : (step : Step) → cue < p.cues → GivesBytes step → KeptBy A m p cue word (stepped A m p (record { state = state; cells = cells }) step).cells (booked A m p count cue e step) (costed A m p count cue word e s step)
      unfolding recorded_cue recorded_cue_by_slip
      step_kept (damage cell byte) there bytes = damage_kept cell byte there
      step_kept (recording which levels memory) there bytes =
          recording_kept (record_check A m p) (λ t c long given room f. record_passed A m p c long given room t f) which levels memory bytes
      step_kept (slip_recording which levels memory) there bytes =
          recording_kept (slip_check A m p) (λ t c long given room f. slip_passed A m p c long given room t f) which levels memory bytes
      step_kept (holding which) there bytes =
          same_levels (booked A m p count cue e (holding which)) (levels_stay (eqb which cue && passes (finds_hold p cue e)) true)
      step_kept (letting_go which) there bytes =
          same_levels (booked A m p count cue e (letting_go which)) (levels_stay (eqb which cue && ltb cue p.cues) false)
      step_kept (wiping which) there bytes = wipe_kept which
      step_kept (touching_up which memory) there bytes = touch_up_kept which memory
      step_kept (recalling which levels memory) there bytes =
          subst (λ (xs : List ℕ). KeptBy A m p cue word xs e s) (sym (recall_reads A m p which state cells levels memory).1) k
      step_kept asking_tally there bytes = k
      step_kept starting there bytes = k
      step_kept stopping there bytes = k

-- through a whole run
module _ (A : Arithmetic) (laws : Lawful A) (m : Meaning) (keeps : Keeps A m) (p : Plan) (few : p.cues ≤ most_cues) (cue word : ℕ) (there : cue < p.cues) (inside : word < word_count A m p) (count : ℕ) where
  run_kept : (run : List Step) (now : Moment) (a : Account) → All GivesBytes run → Alike count cue now.state now.cells a.entry → KeptBy A m p cue word now.cells a.entry a.stretch → KeptBy A m p cue word (fold (stepped A m p) now run).cells (fold (accounted A m p count cue word) a run).entry (fold (accounted A m p count cue word) a run).stretch
  run_kept [] now a bytes h k = k
  run_kept (step ∷ run) now a bytes h k =
      run_kept run (stepped A m p now step) (accounted A m p count cue word a step) bytes.1
      (step_alike A laws m keeps p few count cue there now a.entry step h)
      (step_kept A laws m keeps p cue word inside now.cells a.entry a.stretch k count now.state h step there bytes.0)

  -- the account of a run has the book's entry
  account_entry : (run : List Step) (a : Account) → (fold (accounted A m p count cue word) a run).entry ≡ fold (booked A m p count cue) a.entry run
  account_entry [] a = refl
  account_entry (step ∷ run) a = account_entry run (accounted A m p count cue word a step)

  pub always_kept : (start : List ℕ) (run : List Step) → length start ≡ count → All GivesBytes run → KeptBy A m p cue word (after A m p start run).cells (book A m p count run cue) (stretch_of A m p count run cue word)
  always_kept start run long bytes levels is =
      let a : Account = record { entry = no_entry; stretch = no_stretch } in
      run_kept run (opening start) a bytes (new_alike A laws m keeps p few count cue there start long) nothing levels (ap (λ (e : Entry). e.levels) (account_entry run a) ∙ is)
    where
      nothing : KeptBy A m p cue word start no_entry no_stretch
      nothing levels is = absurd (let z : ◌≡◌ {A = ℕ} 0 1 = cc in omega arith)

-- A recall gives what was last recorded: every word of the cue is near enough to the word that was written for it, so the
-- message found in it is the one that was written, and the messages are read as the levels that the book has.
-- Of mending only the laws in proofs/Reached.antt are used. Assumes nothing.
use Rattle.std.proofs.Common.{◌≡◌, ℕ, ◌<◌, ◌≤◌, Bool, true, false, cond, not, ◌&&◌, ◌||◌, eqb, ltb, List, [], ◌∷◌, ◌++◌, map, length, get_or, drop, is_some, Some, None, fold, Option, unwrap_or, sym, refl, ap, ◌∙◌, subst, ⊎_elim, arith}
use Rattle.std.specs.List.{AllByRecursion as All}
use Rattle.std.proofs.ByRecursion.{All-from_get_or}
use Rattle.std.proofs.lemmas.List.{get_or-map, ext_get_or, length-map}
use Rattle.std.proofs.lemmas.Bool.{and_parts, or_from, le-ltb, lt-leb, ltb-true, cond-false, cases_lt}
use Rattle.theory.specs.Alphabets.{Arithmetic, Lawful}
use Rattle.theory.specs.Calls.{accepted}
use Rattle.theory.specs.Meanings.{Meaning, Keeps}
use Rattle.theory.specs.Memory.{part}
use Rattle.theory.specs.Reach.{message_in_reach}
use Rattle.theory.specs.Words.{Symbols, toll}
use Rattle.theory.proofs.Overs.{length_part}
use Rattle.store_theory.specs.Books.{Entry, no_entry, passes, entering, removing, holding_it, finds_record, finds_slip_record, finds_hold, finds_wipe, booked, book}
use Rattle.store_theory.specs.Calls.{StoreAnswer, zeroed, first_place, is_beyond_reach, symbols_found, level_fault, shown_levels, read_words, recalled_cue_by, recalled_cue}
use Rattle.store_theory.specs.Checks.{absent, few_cells, few_bytes, recall_check}
use Rattle.store_theory.specs.Costs.{stretch_of}
use Rattle.store_theory.specs.Layout.{Plan, word_count, cell_count, cell_of_word, cue_words, filled_symbols, messages_of, together}
use Rattle.store_theory.specs.Runs.{Step, damage, recording, slip_recording, holding, letting_go, wiping, touching_up, recalling, asking_tally, starting, stopping, Moment, after}
use Rattle.store_theory.specs.States.{State, mark_at}
use Rattle.store_theory.specs.Statements.{RecallGivesWhatWasLastRecorded}
use Rattle.store_theory.proofs.Agreement.{always_alike}
use Rattle.store_theory.proofs.Blocks.{messages_count, cue_words_count}
use Rattle.store_theory.proofs.Checks.{made_in_range, record_passed, slip_passed}
use Rattle.store_theory.proofs.FirstPlaces.{none_passes}
use Rattle.store_theory.proofs.Keeping.{Kept, message_there, always_kept}
use Rattle.store_theory.proofs.Levels.{some_words, joined_map, messages_together, levels_back, no_level_fault}
use Rattle.store_theory.proofs.Places.{word_inside, word_read}
use Rattle.store_theory.proofs.Reached.{near_found, near_within}

-- the checks of a recall are passed
recall_passes : (A : Arithmetic) (m : Meaning) (p : Plan) (recorded : Bool) (cue cells levels memory : ℕ) → cue < p.cues → cell_count A m p ≤ cells → m.w ≤ memory → p.levels ≤ levels → recorded ≡ true → recall_check A m p recorded cue cells levels memory ≡ None
unfolding recall_check
recall_passes A m p recorded cue cells levels memory there room works given is =
    cond-false (absent p cue) _ _ (lt-leb p.cues cue there)
    ∙ cond-false (few_bytes A m p cells memory || ltb levels p.levels) _ _ (or_from _ _ (or_from (few_cells A m p cells) (ltb memory m.w) (le-ltb cells (cell_count A m p) room) (le-ltb memory m.w works)) (le-ltb levels p.levels given))
    ∙ ap (λ (t : Bool). cond (not t) (Some 15) None) is

module _ (A : Arithmetic) (laws : Lawful A) (m : Meaning) (keeps : Keeps A m) (p : Plan) (cue : ℕ) (there : cue < p.cues) (cells levels : List ℕ) (room : cell_count A m p ≤ length cells) (all : length levels ≡ p.levels) (bytes : All (λ level. level < 256) levels) (near : (word : ℕ) → word < word_count A m p → toll A.q (m.word (get_or (messages_of A m p levels) word [])) (part cells (cell_of_word A m p cue word) m.n) < m.d) where
  words_count : length (cue_words A m p cells cue) ≡ word_count A m p
  words_count = cue_words_count A m keeps p cells cue

  -- each word as it is, its length, and its message
  module _ (word : ℕ) (inside : word < word_count A m p) where
    word_long : length (part cells (cell_of_word A m p cue word) m.n) ≡ m.n
    word_long = length_part cells (cell_of_word A m p cue word) m.n (word_inside A m p cells cue there room word inside)

    is_message : Symbols A.q m.k (get_or (messages_of A m p levels) word [])
    is_message = message_there A laws m keeps p cue word inside levels all

    word_within : is_beyond_reach A m (get_or (cue_words A m p cells cue) word []) ≡ false
    word_within =
        ap (is_beyond_reach A m) (word_read A m p cells cue word inside)
        ∙ near_within A m keeps (part cells (cell_of_word A m p cue word) m.n) word_long (get_or (messages_of A m p levels) word []) is_message (near word inside)

    message_found_lem : unwrap_or (message_in_reach A m (get_or (cue_words A m p cells cue) word [])) [] ≡ get_or (messages_of A m p levels) word []
    message_found_lem =
        ap (λ (xs : List ℕ). unwrap_or (message_in_reach A m xs) []) (word_read A m p cells cue word inside)
        ∙ ap (λ (o : Option (List ℕ)). unwrap_or o []) (near_found A m keeps (part cells (cell_of_word A m p cue word) m.n) word_long (get_or (messages_of A m p levels) word []) is_message (near word inside))

  all_within : first_place (is_beyond_reach A m) (cue_words A m p cells cue) ≡ None
  all_within =
      none_passes (is_beyond_reach A m) (cue_words A m p cells cue) (All-from_get_or (λ xs. is_beyond_reach A m xs ≡ false) (cue_words A m p cells cue) [] (λ i l. word_within i (omega (arith, words_count))))

  symbols_found_lem : symbols_found A m (cue_words A m p cells cue) ≡ filled_symbols A m p levels
  symbols_found_lem =
      let f : List ℕ → List ℕ = λ xs. unwrap_or (message_in_reach A m xs) [] in
      let words = cue_words A m p cells cue in
      let longs : length (map f words) ≡ word_count A m p = length-map words f ∙ words_count in
      joined_map f words
      ∙ ap together (ext_get_or [] (map f words) (messages_of A m p levels) (longs ∙ sym (messages_count A m keeps p laws levels all)) (λ i l. get_or-map f words i [] [] (omega (arith, words_count, longs)) ∙ message_found_lem i (omega (arith, longs))))
      ∙ messages_together A m p keeps.some_symbols levels all

  -- the recall of a recorded cue whose words are all near
  pub recall_gives : (state : State) (given memory : List ℕ) → (mark_at state cue).recorded ≡ true → p.levels ≤ length given → m.w ≤ length memory → recalled_cue A m p cue state cells given memory ≡ (accepted, state, cells, levels ++ drop p.levels given, zeroed m.w memory)
  unfolding recalled_cue
  recall_gives state given memory is enough works =
      let words = cue_words A m p cells cue in
      ap (recalled_cue_by A m p cue state cells given memory) (recall_passes A m p (mark_at state cue).recorded cue (length cells) (length given) (length memory) there room works enough is)
      ∙ ap (read_words A m p cue state cells given memory words) all_within
      ∙ ap (λ (xs : List ℕ). shown_levels A m p cue state cells given memory xs (level_fault A p xs)) symbols_found_lem
      ∙ ap (shown_levels A m p cue state cells given memory (filled_symbols A m p levels)) (no_level_fault A m p keeps.some_symbols levels all laws bytes)
      ∙ ap (λ (ls : List ℕ). answer (ls ++ drop p.levels given)) (levels_back A m p keeps.some_symbols levels all laws bytes)
    where
      answer : List ℕ → StoreAnswer
      answer ls = (accepted, state, cells, ls, zeroed m.w memory)

-- the book has no levels for a cue that is not there
module _ (A : Arithmetic) (m : Meaning) (p : Plan) (count cue : ℕ) (missing : p.cues ≤ cue) where
  kept_out : (o : Option ℕ) (b : Bool) (levels : List ℕ) (e : Entry) → (o ≡ None → cue < p.cues) → e.levels ≡ None → (cond (b && passes o) (entering p levels e) e).levels ≡ None
  kept_out None b levels e h is = absurd (omega (arith, h refl))
  kept_out (Some number) true levels e h is = is
  kept_out (Some number) false levels e h is = is

  none_by_change : (b : Bool) (e e' : Entry) → e.levels ≡ None → e'.levels ≡ None → (cond b e' e).levels ≡ None
  none_by_change true e e' h h' = h'
  none_by_change false e e' h h' = h

  step_none : (e : Entry) (step : Step) → e.levels ≡ None → (booked A m p count cue e step).levels ≡ None
  step_none e (damage cell byte) h = h
  step_none e (recording which levels memory) h =
      kept_out (finds_record A m p count cue e levels memory) (eqb which cue) levels e (λ f. (record_passed A m p cue count (length levels) (length memory) e.held f).0.there) h
  step_none e (slip_recording which levels memory) h =
      kept_out (finds_slip_record A m p count cue e levels memory) (eqb which cue) levels e (λ f. (slip_passed A m p cue count (length levels) (length memory) e.held f).0.there) h
  step_none e (holding which) h = none_by_change (eqb which cue && passes (finds_hold p cue e)) e (holding_it true e) h h
  step_none e (letting_go which) h = none_by_change (eqb which cue && ltb cue p.cues) e (holding_it false e) h h
  step_none e (wiping which) h = none_by_change (eqb which cue && passes (finds_wipe A m p count cue e)) e (removing e) h refl
  step_none e (touching_up which memory) h = h
  step_none e (recalling which levels memory) h = h
  step_none e asking_tally h = h
  step_none e starting h = h
  step_none e stopping h = h

  run_none : (run : List Step) (e : Entry) → e.levels ≡ None → (fold (booked A m p count cue) e run).levels ≡ None
  run_none [] e h = h
  run_none (step ∷ run) e h = run_none run (booked A m p count cue e step) (step_none e step h)

cue_there : (A : Arithmetic) (m : Meaning) (p : Plan) (count cue : ℕ) (run : List Step) (levels : List ℕ) → (book A m p count run cue).levels ≡ Some levels → cue < p.cues
cue_there A m p count cue run levels is =
    ⊎_elim (λ (l : cue < p.cues). l) (λ (l : p.cues ≤ cue). let no = run_none A m p count cue l run no_entry refl in absurd (let z : ◌≡◌ {A = ℕ} 0 1 = cc in omega arith)) (cases_lt cue p.cues)

pub recall_gives_what_was_last_recorded : RecallGivesWhatWasLastRecorded
recall_gives_what_was_last_recorded A laws m keeps p made cue state cells given memory start run bytes leads levels is fine enough works =
    let range = made_in_range A m p made in
    let count = length start in
    let there = cue_there A m p count cue run levels is in
    let same-state : (after A m p start run).state ≡ state = ap (λ (now : Moment). now.state) leads in
    let same-cells : (after A m p start run).cells ≡ cells = ap (λ (now : Moment). now.cells) leads in
    let alike = always_alike A laws m keeps p range.1 count cue there start run refl in
    let recorded : (mark_at state cue).recorded ≡ true =
    ap (λ (s : State). (mark_at s cue).recorded) (sym same-state) ∙ alike.recorded_alike ∙ ap is_some is in
    let kept : (word : ℕ) → word < word_count A m p → Kept A m p cue word cells levels (stretch_of A m p count run cue word) = λ word inside.
    subst (λ (xs : List ℕ). Kept A m p cue word xs levels (stretch_of A m p count run cue word)) same-cells
    (always_kept A laws m keeps p range.1 cue word there inside count start run refl bytes levels is) in
    let first = kept 0 (some_words A m p keeps.some_symbols laws range.2) in
    let near : (word : ℕ) → word < word_count A m p → toll A.q (m.word (get_or (messages_of A m p levels) word [])) (part cells (cell_of_word A m p cue word) m.n) < m.d = λ word inside.
    let s = stretch_of A m p count run cue word in
    let both = and_parts s.fine (ltb s.cost m.d) (fine word inside) in
    omega (arith, (kept word inside).near both.0, ltb-true s.cost m.d both.1) in
    (first.all, recall_gives A laws m keeps p cue there cells levels first.room first.all first.bytes near state given memory recorded enough works)

-- Mending the words of a cue, step by step: copied into the working memory, mended there, and copied back. Assumes nothing.
use Rattle.std.proofs.Common.{◌≡◌, ℕ, ◌+◌, ◌-◌, ◌*◌, ◌<◌, ◌≤◌, Bool, true, false, cond, not, List, [], ◌∷◌, ◌++◌, map, length, get_or, take, drop, replicate, is_some, Some, None, Decides, count_by, Option, unwrap_or, sym, refl, ap, ◌∙◌, ap₂, arith}
use Rattle.std.specs.Int.{from_bool}
use Rattle.std.specs.Option.{option_map}
use Rattle.std.proofs.lemmas.List.{take_at, take_all, get_or-map}
use Rattle.std.proofs.lemmas.List.Sums.{count_by_more_yes, count_by_more_no}
use Rattle.std.proofs.lemmas.Bool.{le-leb, both_ways}
use Rattle.store_theory.specs.Calls.{touched_word, fault_of_code}
use Rattle.store_theory.specs.Layout.{word_count, cell_count, cell_of_word, cue_words, together}
use Rattle.store_theory.proofs.Blocks.{cue_words_count, touched_count, touched_long}
use Rattle.store_theory.proofs.Places.{word_inside, word_read}
use Rattle.store_theory.proofs.Progress.{word_more, word_ahead, over_nothing, over_same}
use Rattle.theory.specs.Alphabets.{Arithmetic}
use Rattle.theory.specs.Calls.{Outcome, Answer, accepted, refused, mended_by, mended}
use Rattle.theory.specs.Meanings.{Meaning}
use Rattle.theory.specs.Memory.{over, part, settled, copied}
use Rattle.theory.specs.Reach.{message_in_reach, same}
use Rattle.theory.proofs.Calls.{paired, mended_by_lem}
use Rattle.theory.proofs.Memory.{drop_settled, take_settled, length_settled, copied_there}
use Rattle.theory.proofs.Overs.{length_part, length_over, drop_over_above}
use Rattle.theory.proofs.Reach.{found_in_reach}
use Rattle.theory.proofs.Trips.{not_accepted}
use Rattle.theory.proofs.Words.{same_true, same_self}
use Rattle.cues.specs.Shapes.{plan_in, Enough}
use Rattle.cues.specs.Steps.{SameBehind, TouchedOne, mended_copy, mended_in_memory, mended_in_memory}
use Rattle.cues.specs.declared.shape.Shape.{Shape}
use Rattle.cues.proofs.Sizes.{KnownStore, cells_are, start_is}

-- one more counted or not
pub count_more : {X : Type 0} (test : X → Bool) (xs : List X) (i : ℕ) (d : X) → i < length xs → count_by test (take i xs) + cond (test (get_or xs i d)) 1 0 ≡ count_by test (take (i + 1) xs)
count_more test xs i d h = go (test (get_or xs i d)) refl
  where
    go : (b : Bool) → test (get_or xs i d) ≡ b → count_by test (take i xs) + cond b 1 0 ≡ count_by test (take (i + 1) xs)
    go true e = sym (count_by_more_yes test xs i d h e)
    go false e = omega (arith, count_by_more_no test xs i d h e)

module _ {A : Arithmetic} {m : Meaning} {shape : Shape} (fit : KnownStore A m shape) (cue : ℕ) (cells memory : List ℕ) (enough : Enough shape cue (length cells) (length memory)) (word : ℕ) (inside : word < shape.words) where
  abbrev found : List ℕ
  found = part cells (cell_of_word A m (plan_in shape) cue word) m.n

  works : m.w ≤ length memory
  works = omega (arith, enough.works, fit.numbers.numbers.working)

  room : cell_count A m (plan_in shape) ≤ length cells
  room = omega (arith, cells_are fit.numbers, enough.room)

  within : word < word_count A m (plan_in shape)
  within = omega (arith, fit.numbers.words)

  ends : cell_of_word A m (plan_in shape) cue word + m.n ≤ length cells
  ends = word_inside A m (plan_in shape) cells cue enough.there room word within

  found_long : length found ≡ m.n
  found_long = length_part cells (cell_of_word A m (plan_in shape) cue word) m.n ends

  -- what mend leaves of the copy
  abbrev mend_copy : Option (List ℕ) → Answer
  mend_copy None = (refused 3 [], settled m.w found memory)
  mend_copy (Some s) = (accepted, settled m.w (m.word s) memory)

  module _ (ys zs : List ℕ) (o : Outcome) (put : ys ≡ copied memory 0 cells (cue * shape.block + word * shape.numbers.length) shape.numbers.length) (mends : paired o zs ≡ mended A m ys) where
    copy_is : ys ≡ over memory 0 found
    copy_is =
        put ∙ ap₂ (λ (a n : ℕ). copied memory 0 cells a n) (start_is fit.numbers cue word) fit.numbers.numbers.length
        ∙ copied_there memory 0 cells (cell_of_word A m (plan_in shape) cue word) m.n (le-leb (cell_of_word A m (plan_in shape) cue word + m.n) (length cells) ends) (le-leb (0 + m.n) (length memory) (omega (arith, works, fit.keeps.room_for_word)))

    fits : 0 + length found ≤ m.w
    fits = omega (arith, found_long, fit.keeps.room_for_word)

    front : take m.n ys ≡ found
    front = ap (take m.n) copy_is ∙ take_at found _ m.n found_long

    behind : drop m.w ys ≡ drop m.w memory
    behind = ap (drop m.w) copy_is ∙ drop_over_above memory 0 found (omega (arith, fits, works)) m.w fits

    long : m.w ≤ length ys
    long = omega (arith, works, ap length copy_is, length_over memory 0 found (omega (arith, fits, works)))

    pub mend_answers : paired o zs ≡ mend_copy (message_in_reach A m found)
    mend_answers =
        mends ∙ mended_by_lem A m ys long (message_in_reach A m found) (ap (message_in_reach A m) front) ∙ go (message_in_reach A m found)
      where
        at : (r : List ℕ) → settled m.w r ys ≡ settled m.w r memory
        at r = ap (λ (zs : List ℕ). r ++ (replicate (m.w - length r) 0 ++ zs)) behind

        go : (r : Option (List ℕ)) → mended_by m ys r ≡ mend_copy r
        go None = ap (λ (xs : List ℕ). paired (refused 3 []) (settled m.w xs ys)) front ∙ ap (paired (refused 3 [])) (at found)
        go (Some s) = ap (paired accepted) (at (m.word s))

    -- the fault of the code, with the cue and the word
    pub mended_copy_lem : paired (fault_of_code cue word o) zs ≡ mended_copy A m (plan_in shape) cue word found memory (message_in_reach A m found)
    mended_copy_lem = ap (λ (p : Answer). paired (fault_of_code cue word p.0) p.1) mend_answers ∙ go (message_in_reach A m found)
      where
        go : (r : Option (List ℕ)) → paired (fault_of_code cue word (mend_copy r).0) (mend_copy r).1 ≡ mended_copy A m (plan_in shape) cue word found memory r
        go None = refl
        go (Some s) = refl

-- a word is mended in the working memory, or found beyond reach
pub record MendedWord {A : Arithmetic} {m : Meaning} {shape : Shape} (fit : KnownStore A m shape) (cue word : ℕ) (cells memory : List ℕ) (o : Outcome) (zs : List ℕ) : Type 0 where
  pub inside : word < shape.words
  pub enough : Enough shape cue (length cells) (length memory)
  pub mends : paired o zs ≡ mended_in_memory A m (plan_in shape) cue word cells memory

module _ {A : Arithmetic} {m : Meaning} {shape : Shape} {fit : KnownStore A m shape} {cue word : ℕ} {cells memory : List ℕ} {o : Outcome} {zs : List ℕ} (w : MendedWord fit cue word cells memory o zs) where
  abbrev copy : List ℕ
  copy = part cells (cell_of_word A m (plan_in shape) cue word) m.n

  enough_works : m.w ≤ length memory
  enough_works = works fit cue cells memory w.enough word w.inside

  copy_ends : cell_of_word A m (plan_in shape) cue word + m.n ≤ length cells
  copy_ends = ends fit cue cells memory w.enough word w.inside

  copy_fits : length copy ≤ m.w
  copy_fits = omega (arith, found_long fit cue cells memory w.enough word w.inside, fit.keeps.room_for_word)

  pub mended_long : (s : List ℕ) → message_in_reach A m copy ≡ Some s → length (m.word s) ≡ m.n
  mended_long s e = (fit.keeps.words s (found_in_reach A m copy s e).message).long

  mended_short : (s : List ℕ) → message_in_reach A m copy ≡ Some s → length (m.word s) ≤ m.w
  mended_short s e = omega (arith, mended_long s e, fit.keeps.room_for_word)

  -- what stands behind is left by every mend
  pub mend_leaves : SameBehind m.w memory zs
  mend_leaves = go (message_in_reach A m copy) refl w.mends
    where
      go : (r : Option (List ℕ)) → message_in_reach A m copy ≡ r → paired o zs ≡ mended_copy A m (plan_in shape) cue word copy memory r → SameBehind m.w memory zs
      go None e a = ap (λ (p : Answer). drop m.w p.1) a ∙ drop_settled m.w copy memory copy_fits
      go (Some s) e a = ap (λ (p : Answer). drop m.w p.1) a ∙ drop_settled m.w (m.word s) memory (mended_short s e)

  -- a word beyond reach stays
  pub touched_beyond : (o ≡ accepted → ⊥) → TouchedOne A m (plan_in shape) cue word cells memory 0 1 cells zs
  touched_beyond never = go (message_in_reach A m copy) refl w.mends
    where
      go : (r : Option (List ℕ)) → message_in_reach A m copy ≡ r → paired o zs ≡ mended_copy A m (plan_in shape) cue word copy memory r → TouchedOne A m (plan_in shape) cue word cells memory 0 1 cells zs
      go None e a =
          record {
            changes_one = ap (λ (b : Bool). cond (not b) 1 0) (sym (ap (λ (q : Option (List ℕ)). same copy (unwrap_or (option_map m.word q) copy)) e ∙ same_self copy));
            beyond_one = ap (λ (q : Option (List ℕ)). cond (not (is_some q)) 1 0) (sym e);
            written = sym (ap (λ (q : Option (List ℕ)). over cells (cell_of_word A m (plan_in shape) cue word) (unwrap_or (option_map m.word q) copy)) e ∙ over_same cells (cell_of_word A m (plan_in shape) cue word) m.n copy_ends);
            rest = mend_leaves;
          }
      go (Some s) e a = absurd (never (ap (λ (p : Answer). p.0) a))

  -- any other is written back as it was mended
  pub touched_mended : o ≡ accepted → (b : Bool) → Decides b (take m.n zs ≡ copy) → (changed : ℕ) → changed ≡ from_bool (not b) → (cells' : List ℕ) → cells' ≡ copied cells (cue * shape.block + word * shape.numbers.length) zs 0 shape.numbers.length → TouchedOne A m (plan_in shape) cue word cells memory changed 0 cells' zs
  touched_mended is b decides changed one cells' c = go (message_in_reach A m copy) refl w.mends
    where
      counted : (t : List ℕ) → take m.n zs ≡ t → (b' : Bool) → Decides b' (take m.n zs ≡ copy) → ◌≡◌ {A = ℕ} (from_bool (not b')) (cond (not (same copy t)) 1 0)
      counted t e true d = ap (λ (x : Bool). cond (not x) 1 0) (sym (ap (same copy) (sym e ∙ d.0 refl) ∙ same_self copy))
      counted t e false d = other (same copy t) refl
        where
          other : (x : Bool) → same copy t ≡ x → ◌≡◌ {A = ℕ} 1 (cond (not x) 1 0)
          other false p = refl
          other true p = absurd (both_ways false refl (d.1 (e ∙ sym (same_true copy t p))))

      go : (r : Option (List ℕ)) → message_in_reach A m copy ≡ r → paired o zs ≡ mended_copy A m (plan_in shape) cue word copy memory r → TouchedOne A m (plan_in shape) cue word cells memory changed 0 cells' zs
      go None e a = absurd (not_accepted 3 (cue ∷ word ∷ []) (sym (ap (λ (p : Answer). p.0) a) ∙ is))
      go (Some s) e a =
          let left : zs ≡ settled m.w (m.word s) memory = ap (λ (p : Answer). p.1) a in
          let mended-front : take m.n zs ≡ m.word s = ap (take m.n) left ∙ take_settled m.w m.n (m.word s) memory (mended_long s e) in
          let same_length : length zs ≡ length memory = ap length left ∙ length_settled m.w (m.word s) memory (mended_short s e) enough_works in
          record {
            changes_one = one ∙ counted (m.word s) mended-front b decides ∙ ap (λ (q : Option (List ℕ)). cond (not (same copy (unwrap_or (option_map m.word q) copy))) 1 0) (sym e);
            beyond_one = ap (λ (q : Option (List ℕ)). cond (not (is_some q)) 1 0) (sym e);
            written = c ∙ ap₂ (λ (x n : ℕ). copied cells x zs 0 n) (start_is fit.numbers cue word) fit.numbers.numbers.length ∙ copied_there cells (cell_of_word A m (plan_in shape) cue word) zs 0 m.n (le-leb (0 + m.n) (length zs) (omega (arith, same_length, enough_works, fit.keeps.room_for_word))) (le-leb (cell_of_word A m (plan_in shape) cue word + m.n) (length cells) copy_ends) ∙ ap (over cells (cell_of_word A m (plan_in shape) cue word)) mended-front ∙ ap (λ (q : Option (List ℕ)). over cells (cell_of_word A m (plan_in shape) cue word) (unwrap_or (option_map m.word q) copy)) (sym e);
            rest = mend_leaves;
          }

-- all words, one after another
module _ {A : Arithmetic} {m : Meaning} {shape : Shape} (fit : KnownStore A m shape) {cue memory : ℕ} (cells : List ℕ) (enough : Enough shape cue (length cells) memory) where
  all_room : cell_count A m (plan_in shape) ≤ length cells
  all_room = omega (arith, cells_are fit.numbers, enough.room)

  abbrev words : List (List ℕ)
  words = cue_words A m (plan_in shape) cells cue

  words_count : length (cue_words A m (plan_in shape) cells cue) ≡ word_count A m (plan_in shape)
  words_count = cue_words_count A m fit.keeps (plan_in shape) cells cue

  pub touch_none : cells ≡ over cells (cell_of_word A m (plan_in shape) cue 0) (together (take 0 (map (touched_word A m) words)))
  touch_none = sym (over_nothing cells (cell_of_word A m (plan_in shape) cue 0))

  module _ {word : ℕ} (inside : word < shape.words) {before : List ℕ} (so_far : before ≡ over cells (cell_of_word A m (plan_in shape) cue 0) (together (take word (map (touched_word A m) words)))) where
    in_words : word < word_count A m (plan_in shape)
    in_words = omega (arith, fit.numbers.words)

    same_word : part before (cell_of_word A m (plan_in shape) cue word) m.n ≡ get_or words word []
    same_word =
        ap (λ (xs : List ℕ). part xs (cell_of_word A m (plan_in shape) cue word) m.n) so_far
        ∙ word_ahead A m (plan_in shape) cells cue enough.there all_room (map (touched_word A m) words) (touched_long A m fit.keeps (plan_in shape) cells cue enough.there all_room) (touched_count A m fit.keeps (plan_in shape) cells cue) word in_words
        ∙ sym (word_read A m (plan_in shape) cells cue word in_words)

    pub touch_more : (after : List ℕ) → after ≡ over before (cell_of_word A m (plan_in shape) cue word) (touched_word A m (part before (cell_of_word A m (plan_in shape) cue word) m.n)) → after ≡ over cells (cell_of_word A m (plan_in shape) cue 0) (together (take (word + 1) (map (touched_word A m) words)))
    touch_more after e =
        let one : touched_word A m (part before (cell_of_word A m (plan_in shape) cue word) m.n) ≡ get_or (map (touched_word A m) words) word [] =
        ap (touched_word A m) same_word ∙ sym (get_or-map (touched_word A m) words word [] [] (omega (arith, words_count, in_words))) in
        e ∙ ap₂ (λ (xs t : List ℕ). over xs (cell_of_word A m (plan_in shape) cue word) t) so_far one
        ∙ word_more A m (plan_in shape) cells cue enough.there all_room (map (touched_word A m) words) (touched_long A m fit.keeps (plan_in shape) cells cue enough.there all_room) (touched_count A m fit.keeps (plan_in shape) cells cue) word in_words

    pub counts_more : (test : List ℕ → Bool) (count one : ℕ) → count ≡ count_by test (take word words) → one ≡ cond (test (part before (cell_of_word A m (plan_in shape) cue word) m.n)) 1 0 → count + one ≡ count_by test (take (word + 1) words)
    counts_more test count one c o =
        ap₂ (λ (x y : ℕ). x + y) c (o ∙ ap (λ (xs : List ℕ). cond (test xs) 1 0) same_word) ∙ count_more test words word [] (omega (arith, words_count, in_words))

  pub touch_all : (word : ℕ) → shape.words ≤ word → (after : List ℕ) → after ≡ over cells (cell_of_word A m (plan_in shape) cue 0) (together (take word (map (touched_word A m) words))) → after ≡ over cells (cell_of_word A m (plan_in shape) cue 0) (together (map (touched_word A m) words))
  touch_all word h after e =
      e ∙ ap (λ (ws : List (List ℕ)). over cells (cell_of_word A m (plan_in shape) cue 0) (together ws)) (take_all word (map (touched_word A m) words) (omega (arith, touched_count A m fit.keeps (plan_in shape) cells cue, fit.numbers.words)))

  pub counts_all : (test : List ℕ → Bool) (word count : ℕ) → shape.words ≤ word → count ≡ count_by test (take word words) → count ≡ count_by test words
  counts_all test word count h c = c ∙ ap (count_by test) (take_all word words (omega (arith, words_count, fit.numbers.words)))

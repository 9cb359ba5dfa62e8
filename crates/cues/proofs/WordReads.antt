-- Reading the words of a cue, step by step: all are gone over for the first beyond reach, and then each is read symbol by
-- symbol. Assumes nothing.
use Rattle.std.proofs.Common.{◌≡◌, ℕ, suc, ◌+◌, ◌*◌, ◌/◌, ◌%◌, ◌<◌, ◌≤◌, Bool, true, false, cond, not, List, [], ◌∷◌, map, length, get_or, take, drop, is_some, Some, None, Option, unwrap_or, sym, refl, ap, ◌∙◌, subst, ⊎_elim, mod-lt, suc-mul, div-add-mod', zero-mul, arith}
use native.Mathlib.Nat.{zero-mod}
use Rattle.std.specs.Option.{option_map}
use Rattle.std.specs.List.{AllByRecursion as All}
use Rattle.std.proofs.lemmas.Nat.{div-mul-add, mod-mul-add}
use Rattle.std.proofs.ByRecursion.{All-append, All-get_or}
use Rattle.std.proofs.lemmas.List.{take_all, take_more, get_or-take, get_or-drop, get_or-map, length-map}
use Rattle.std.proofs.lemmas.Bool.{cases_lt}
use Rattle.store_theory.specs.Calls.{is_beyond_reach, first_place}
use Rattle.store_theory.specs.Layout.{word_count, cell_of_word, cue_words, together}
use Rattle.store_theory.proofs.Blocks.{cue_words_count}
use Rattle.store_theory.proofs.FirstPlaces.{none_passes, first_place_at}
use Rattle.store_theory.proofs.Levels.{joined_map}
use Rattle.store_theory.proofs.Pieces.{Long, length_together, part_together}
use Rattle.store_theory.proofs.Places.{word_read}
use Rattle.theory.specs.Alphabets.{Arithmetic}
use Rattle.theory.specs.Calls.{Outcome, Answer, accepted, read_back}
use Rattle.theory.specs.Meanings.{Meaning}
use Rattle.theory.specs.Memory.{part, settled}
use Rattle.theory.specs.Reach.{message_in_reach}
use Rattle.theory.specs.Words.{Symbols}
use Rattle.theory.proofs.Calls.{paired, read_word}
use Rattle.theory.proofs.Memory.{drop_settled, take_settled, length_settled}
use Rattle.theory.proofs.Reach.{found_in_reach}
use Rattle.theory.proofs.Trips.{not_accepted}
use Rattle.cues.specs.Shapes.{plan_in}
use Rattle.cues.specs.Steps.{mended_copy, reach_outcome, AllReached, symbols_in, Loaded, ReadWord}
use Rattle.cues.specs.declared.shape.Shape.{Shape}
use Rattle.cues.proofs.Sizes.{KnownStore}
use Rattle.cues.proofs.WordMends.{MendedWord, mend_leaves}

-- where none passes, every one fails
pub none_fails : {X : Type 0} (test : X → Bool) (xs : List X) → first_place test xs ≡ None → All (λ x. test x ≡ false) xs
none_fails test [] e = tt
none_fails test (x ∷ xs) e = go (test x) refl (first_place test xs) refl e (none_fails test xs)
  where
    go : (b : Bool) → test x ≡ b → (o : Option ℕ) → first_place test xs ≡ o → cond b (Some 0) (option_map suc o) ≡ None → (first_place test xs ≡ None → All (λ y. test y ≡ false) xs) → (test x ≡ false) × All (λ y. test y ≡ false) xs
    go false t None f h rest = (t, rest f)
    go false t (Some i) f h rest = absurd (let z : ◌≡◌ {A = ℕ} 0 1 = cc in omega arith)
    go true t o f h rest = absurd (let z : ◌≡◌ {A = ℕ} 0 1 = cc in omega arith)

-- one more that fails
pub fails_more : {X : Type 0} (test : X → Bool) (xs : List X) (i : ℕ) (d : X) → i < length xs → All (λ x. test x ≡ false) (take i xs) → test (get_or xs i d) ≡ false → All (λ x. test x ≡ false) (take (i + 1) xs)
fails_more test xs i d h before here =
    subst (All (λ x. test x ≡ false)) (sym (take_more xs i d h)) (All-append (λ x. test x ≡ false) (take i xs) (get_or xs i d ∷ []) before (here, tt))

pub fails_all : {X : Type 0} (test : X → Bool) (xs : List X) (i : ℕ) → length xs ≤ i → All (λ x. test x ≡ false) (take i xs) → first_place test xs ≡ None
fails_all test xs i h all = none_passes test xs (subst (All (λ x. test x ≡ false)) (take_all i xs h) all)

-- the next place is in the same row, unless it begins one
pub same_row : (place k : ℕ) → 1 ≤ k → ((place + 1) % k ≡ 0 → ⊥) → (place + 1) / k ≡ place / k
same_row place k some inside =
    ⊎_elim within ends (cases_lt (place % k + 1) k)
  where
    row : place / k * k + place % k ≡ place
    row = div-add-mod' place k

    within : place % k + 1 < k → (place + 1) / k ≡ place / k
    within h =
        let next : place + 1 ≡ place / k * k + (place % k + 1) = omega (arith, row) in
        ap (λ (j : ℕ). j / k) next ∙ div-mul-add (place / k) k (place % k + 1) h

    ends : k ≤ place % k + 1 → (place + 1) / k ≡ place / k
    ends h =
        let less : place % k < k = mod-lt place some in
        let next : place + 1 ≡ place / k * k + k = omega (arith, row, less, h) in
        let row-end : place / k * k + k ≡ suc (place / k) * k + 0 = omega (arith, suc-mul (place / k) k) in
        absurd (inside (ap (λ (j : ℕ). j % k) (next ∙ row-end) ∙ mod-mul-add (suc (place / k)) k 0 some))

some_is : (o : Option (List ℕ)) → not (is_some o) ≡ false → o ≡ Some (unwrap_or o [])
some_is None e = absurd (let z : ◌≡◌ {A = ℕ} 0 1 = cc in omega arith)
some_is (Some s) e = refl

module _ {A : Arithmetic} {m : Meaning} {shape : Shape} (fit : KnownStore A m shape) (cue : ℕ) (cells : List ℕ) where
  abbrev words : List (List ℕ)
  words = cue_words A m (plan_in shape) cells cue

  words_count : length (cue_words A m (plan_in shape) cells cue) ≡ word_count A m (plan_in shape)
  words_count = cue_words_count A m fit.keeps (plan_in shape) cells cue

  pub reach_all : (word : ℕ) → shape.words ≤ word → All (λ x. is_beyond_reach A m x ≡ false) (take word words) → accepted ≡ reach_outcome A m (plan_in shape) cue (first_place (is_beyond_reach A m) words) accepted
  reach_all word h all =
      ap (λ (o : Option ℕ). reach_outcome A m (plan_in shape) cue o accepted) (sym (fails_all (is_beyond_reach A m) words word (omega (arith, words_count, fit.numbers.words)) all))

  abbrev message_found : List ℕ → List ℕ
  message_found xs = unwrap_or (message_in_reach A m xs) []

  found_message : (xs : List ℕ) → is_beyond_reach A m xs ≡ false → Symbols A.q m.k (message_found xs)
  found_message xs e = (found_in_reach A m xs (message_found xs) (some_is (message_in_reach A m xs) e)).message

  messages_long : (xss : List (List ℕ)) → All (λ x. is_beyond_reach A m x ≡ false) xss → Long m.k (map message_found xss)
  messages_long [] h = tt
  messages_long (xs ∷ xss) h = ((found_message xs h.0).long, messages_long xss h.1)

  module _ (reached : AllReached A m (plan_in shape) cue cells) where
    all_in_reach : All (λ x. is_beyond_reach A m x ≡ false) words
    all_in_reach = none_fails (is_beyond_reach A m) words reached

    symbols_are : symbols_in A m (plan_in shape) cue cells ≡ together (map message_found words)
    symbols_are = joined_map message_found words

    messages_count : length (map message_found words) ≡ word_count A m (plan_in shape)
    messages_count = length-map words message_found ∙ words_count

    pub symbols_count : length (symbols_in A m (plan_in shape) cue cells) ≡ word_count A m (plan_in shape) * m.k
    symbols_count =
        ap length symbols_are ∙ length_together m.k (map message_found words) (messages_long words all_in_reach) ∙ ap (λ (n : ℕ). n * m.k) messages_count

    -- the message of a word, among all symbols
    module _ (word : ℕ) (inside : word < word_count A m (plan_in shape)) where
      in_words : word < length words
      in_words = omega (arith, words_count)

      word_in_reach_lem : is_beyond_reach A m (get_or words word []) ≡ false
      word_in_reach_lem = All-get_or (λ x. is_beyond_reach A m x ≡ false) words word [] in_words all_in_reach

      message_part : part (symbols_in A m (plan_in shape) cue cells) (word * m.k) m.k ≡ message_found (get_or words word [])
      message_part =
          ap (λ (xs : List ℕ). part xs (word * m.k) m.k) symbols_are
          ∙ part_together m.k (map message_found words) word (messages_long words all_in_reach) (omega (arith, messages_count))
          ∙ get_or-map message_found words word [] [] in_words

      pub message_at_lem : message_in_reach A m (part cells (cell_of_word A m (plan_in shape) cue word) m.n) ≡ Some (part (symbols_in A m (plan_in shape) cue cells) (word * m.k) m.k)
      message_at_lem =
          ap (message_in_reach A m) (sym (word_read A m (plan_in shape) cells cue word inside))
          ∙ some_is (message_in_reach A m (get_or words word [])) word_in_reach_lem ∙ ap Some (sym message_part)

      pub message_is : Symbols A.q m.k (part (symbols_in A m (plan_in shape) cue cells) (word * m.k) m.k)
      message_is = subst (Symbols A.q m.k) (sym message_part) (found_message (get_or words word []) word_in_reach_lem)

    -- a symbol of the message that is read
    module _ (place : ℕ) (memory : List ℕ) (read : take m.k memory ≡ part (symbols_in A m (plan_in shape) cue cells) (place / m.k * m.k) m.k) where
      pub symbol_read : get_or memory (place % m.k) 0 ≡ get_or (symbols_in A m (plan_in shape) cue cells) place 0
      symbol_read =
          let small : place % m.k < m.k = mod-lt place fit.keeps.some_symbols in
          sym (get_or-take m.k memory (place % m.k) 0 small) ∙ ap (λ (xs : List ℕ). get_or xs (place % m.k) 0) read
          ∙ get_or-take m.k (drop (place / m.k * m.k) (symbols_in A m (plan_in shape) cue cells)) (place % m.k) 0 small
          ∙ get_or-drop (place / m.k * m.k) (symbols_in A m (plan_in shape) cue cells) (place % m.k) 0
          ∙ ap (λ (j : ℕ). get_or (symbols_in A m (plan_in shape) cue cells) j 0) (div-add-mod' place m.k)

      pub loaded_next : Loaded A m (plan_in shape) cue cells (place + 1) memory
      loaded_next inside =
          read ∙ ap (λ (j : ℕ). part (symbols_in A m (plan_in shape) cue cells) (j * m.k) m.k) (sym (same_row place m.k fit.keeps.some_symbols inside))

module _ {A : Arithmetic} {m : Meaning} {shape : Shape} {fit : KnownStore A m shape} {cue word : ℕ} {cells memory : List ℕ} {o : Outcome} {ys : List ℕ} (w : MendedWord fit cue word cells memory o ys) where
  abbrev found : List ℕ
  found = part cells (cell_of_word A m (plan_in shape) cue word) m.n

  within : word < word_count A m (plan_in shape)
  within = omega (arith, fit.numbers.words, w.inside)

  here : (r : Option (List ℕ)) → message_in_reach A m found ≡ r → is_beyond_reach A m (get_or (words fit cue cells) word []) ≡ not (is_some r)
  here r e = ap (is_beyond_reach A m) (word_read A m (plan_in shape) cells cue word within) ∙ ap (λ (q : Option (List ℕ)). not (is_some q)) e

  pub reach_more : o ≡ accepted → All (λ x. is_beyond_reach A m x ≡ false) (take word (words fit cue cells)) → All (λ x. is_beyond_reach A m x ≡ false) (take (word + 1) (words fit cue cells))
  reach_more is before = go (message_in_reach A m found) refl w.mends
    where
      go : (r : Option (List ℕ)) → message_in_reach A m found ≡ r → paired o ys ≡ mended_copy A m (plan_in shape) cue word found memory r → All (λ x. is_beyond_reach A m x ≡ false) (take (word + 1) (words fit cue cells))
      go None e a = absurd (not_accepted 3 (cue ∷ word ∷ []) (sym (ap (λ (p : Answer). p.0) a) ∙ is))
      go (Some s) e a = fails_more (is_beyond_reach A m) (words fit cue cells) word [] (omega (arith, words_count fit cue cells, within)) before (here (Some s) e)

  pub reach_ends : (o ≡ accepted → ⊥) → All (λ x. is_beyond_reach A m x ≡ false) (take word (words fit cue cells)) → o ≡ reach_outcome A m (plan_in shape) cue (first_place (is_beyond_reach A m) (words fit cue cells)) accepted
  reach_ends never before = go (message_in_reach A m found) refl w.mends
    where
      go : (r : Option (List ℕ)) → message_in_reach A m found ≡ r → paired o ys ≡ mended_copy A m (plan_in shape) cue word found memory r → o ≡ reach_outcome A m (plan_in shape) cue (first_place (is_beyond_reach A m) (words fit cue cells)) accepted
      go None e a =
          ap (λ (p : Answer). p.0) a
          ∙ ap (λ (q : Option ℕ). reach_outcome A m (plan_in shape) cue q accepted) (sym (first_place_at (is_beyond_reach A m) (words fit cue cells) word [] (omega (arith, words_count fit cue cells, within)) before (here None e)))
      go (Some s) e a = absurd (never (ap (λ (p : Answer). p.0) a))

  module _ (reached : AllReached A m (plan_in shape) cue cells) where
    abbrev message : List ℕ
    message = part (symbols_in A m (plan_in shape) cue cells) (word * m.k) m.k

    mended_message : paired o ys ≡ paired accepted (settled m.w (m.word message) memory)
    mended_message = w.mends ∙ ap (mended_copy A m (plan_in shape) cue word found memory) (message_at_lem fit cue cells reached word within)

    pub mend_accepts : o ≡ accepted
    mend_accepts = ap (λ (p : Answer). p.0) mended_message

    pub word_read_back : (zs : List ℕ) (o' : Outcome) → paired o' zs ≡ read_back A m ys → ReadWord A m (plan_in shape) cue word cells memory o' zs
    word_read_back zs o' reads =
        let works : m.w ≤ length memory = omega (arith, w.enough.works, fit.numbers.numbers.working) in
        let left : ys ≡ settled m.w (m.word message) memory = ap (λ (p : Answer). p.1) mended_message in
        let is = message_is fit cue cells reached word within in
        let word_long : length (m.word message) ≡ m.n = (fit.keeps.words message is).long in
        let fits : length (m.word message) ≤ m.w = omega (arith, word_long, fit.keeps.room_for_word) in
        let long : m.w ≤ length ys = omega (arith, works, ap length left, length_settled m.w (m.word message) memory fits works) in
        let front : m.word message ≡ take m.n ys = sym (ap (take m.n) left ∙ take_settled m.w m.n (m.word message) memory word_long) in
        let answer : paired o' zs ≡ paired accepted (settled m.w message ys) = reads ∙ read_word A m ys fit.keeps long message is front in
        let after : zs ≡ settled m.w message ys = ap (λ (p : Answer). p.1) answer in
        record {
          accepts = ap (λ (p : Answer). p.0) answer;
          message = ap (take m.k) after ∙ take_settled m.w m.k message ys is.long;
          rest = ap (drop m.w) after ∙ drop_settled m.w message ys (omega (arith, is.long, fit.keeps.room_for_message)) ∙ mend_leaves w;
        }

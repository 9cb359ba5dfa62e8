-- What the steps of the calls come to: one symbol, one word, one level, and all of them.
use Rattle.std.specs.Prelude.{◌≡◌, ℕ, ◌+◌, ◌-◌, ◌*◌, ◌/◌, ◌%◌, ◌^◌, cond, ltb, List, [], ◌∷◌, map, take, drop, Some, None, Ok, count_by, Option, Result, ◌≢◌, nat_lt, slice_index, slice_index_or}
use Rattle.std.specs.List.{range_with_len}
use Rattle.std.specs.Option.{option_map}
use Rattle.store_theory.specs.Calls.{missing_level, all_levels, touched_word, changes, is_beyond_reach, first_place, symbols_found, level_fault, mend_fault, fault_of_code, zeroed}
use Rattle.store_theory.specs.Layout.{Plan, symbol_count, cell_of_word, cue_words, words_of, together, level_numbers, filling}
use Rattle.theory.specs.Alphabets.{Arithmetic}
use Rattle.theory.specs.Calls.{Outcome, accepted, refused}
use Rattle.theory.specs.Meanings.{Meaning}
use Rattle.theory.specs.Memory.{over, part, settled}
use Rattle.theory.specs.Reach.{message_in_reach}
use Rattle.cues.specs.declared.refusals.StoreRefusal.{StoreRefusal}
use Rattle.cues.specs.declared.shape.Shape.{Shape}

-- symbol `place` of the levels given and the missing ones, and zeros behind the last level
abbrev pub symbol_in : Shape → List ℕ → ℕ → ℕ
symbol_in shape levels place =
    cond (nat_lt (place / shape.width) shape.levels) ((slice_index_or levels (place / shape.width) missing_level / (shape.order ^ (shape.width - 1 - place % shape.width))) % shape.order) 0

-- message `word` of these levels
abbrev pub message_in : Shape → List ℕ → ℕ → List ℕ
message_in shape levels word =
    map (λ place. symbol_in shape levels (word * shape.numbers.dimension + place)) (range_with_len 0 shape.numbers.dimension)

-- a number, if it is at most 255; and one with one more symbol behind it
abbrev pub as_byte : ℕ → Option ℕ
as_byte number = cond (nat_lt 255 number) None (Some number)

abbrev pub carried_byte : Option ℕ → ℕ → ℕ → Option ℕ
carried_byte None order symbol = None
carried_byte (Some number) order symbol = as_byte (number * order + symbol)

-- the working memory behind its first bytes is as it was
abbrev pub SameBehind : ℕ → List ℕ → List ℕ → Type 0
SameBehind count xs ys = drop count ys ≡ drop count xs

module _ (A : Arithmetic) (m : Meaning) (p : Plan) (cue : ℕ) where
  -- one word of a recording is written into its cells; and all of them, with zeros in the working memory
  pub record WroteWord (word : ℕ) (levels cells memory : List ℕ) (answer : Outcome) (cells' memory' : List ℕ) : Type 0 where
    pub accepts : answer ≡ accepted
    pub written : cells' ≡ over cells (cell_of_word A m p cue word) (slice_index_or (words_of A m p (all_levels p levels)) word [])
    pub rest : SameBehind m.w memory memory'

  pub record WroteWords (levels cells memory : List ℕ) (answer : Outcome) (cells' memory' : List ℕ) : Type 0 where
    pub accepts : answer ≡ accepted
    pub written : cells' ≡ over cells (cell_of_word A m p cue 0) (together (words_of A m p (all_levels p levels)))
    pub cleared : memory' ≡ zeroed m.w memory

  -- one word is touched up in its cells, and counted; and all of them
  pub record TouchedOne (word : ℕ) (cells memory : List ℕ) (changed beyond : ℕ) (cells' memory' : List ℕ) : Type 0 where
    pub changes_one : changed ≡ cond (changes A m (part cells (cell_of_word A m p cue word) m.n)) 1 0
    pub beyond_one : beyond ≡ cond (is_beyond_reach A m (part cells (cell_of_word A m p cue word) m.n)) 1 0
    pub written : cells' ≡ over cells (cell_of_word A m p cue word) (touched_word A m (part cells (cell_of_word A m p cue word) m.n))
    pub rest : SameBehind m.w memory memory'

  pub record TouchedAll (cells memory : List ℕ) (changed beyond : ℕ) (cells' memory' : List ℕ) : Type 0 where
    pub changes_all : changed ≡ count_by (changes A m) (cue_words A m p cells cue)
    pub beyond_all : beyond ≡ count_by (is_beyond_reach A m) (cue_words A m p cells cue)
    pub written : cells' ≡ over cells (cell_of_word A m p cue 0) (together (map (touched_word A m) (cue_words A m p cells cue)))
    pub cleared : memory' ≡ zeroed m.w memory

  -- one word is mended in the working memory, or found beyond reach
  abbrev pub mended_copy : ℕ → List ℕ → List ℕ → Option (List ℕ) → Outcome × List ℕ
  mended_copy word found memory None = (fault_of_code cue word (mend_fault m), settled m.w found memory)
  mended_copy word found memory (Some s) = (accepted, settled m.w (m.word s) memory)

  -- that, of a word as it is found in its cells
  abbrev pub mended_in_memory : ℕ → List ℕ → List ℕ → Outcome × List ℕ
  mended_in_memory word cells memory =
      let found = part cells (cell_of_word A m p cue word) m.n in
      mended_copy word found memory (message_in_reach A m found)

  -- the first word beyond reach is the answer; otherwise what follows
  abbrev pub reach_outcome : Option ℕ → Outcome → Outcome
  reach_outcome None after = after
  reach_outcome (Some word) after = fault_of_code cue word (mend_fault m)

  -- every word of the cue is in reach, and these are the symbols found
  abbrev pub AllReached : List ℕ → Type 0
  AllReached cells = first_place (is_beyond_reach A m) (cue_words A m p cells cue) ≡ None

  abbrev pub symbols_in : List ℕ → List ℕ
  symbols_in cells = symbols_found A m (cue_words A m p cells cue)

  -- the working memory has the message that symbol `place` is in, unless that is the message's first symbol
  abbrev pub Loaded : List ℕ → ℕ → List ℕ → Type 0
  Loaded cells place memory =
      (place % m.k ≢ 0) → take m.k memory ≡ part (symbols_in cells) (place / m.k * m.k) m.k

  -- all words are gone over for the first beyond reach
  pub record ReachedAll (cells memory : List ℕ) (answer : Outcome) (memory' : List ℕ) : Type 0 where
    pub answers : answer ≡ reach_outcome (first_place (is_beyond_reach A m) (cue_words A m p cells cue)) accepted
    pub rest : SameBehind m.w memory memory'

  -- one word's message is read, one symbol of all messages, one level
  pub record ReadWord (word : ℕ) (cells memory : List ℕ) (answer : Outcome) (memory' : List ℕ) : Type 0 where
    pub accepts : answer ≡ accepted
    pub message : take m.k memory' ≡ part (symbols_in cells) (word * m.k) m.k
    pub rest : SameBehind m.w memory memory'

  pub record ReadSymbol (place : ℕ) (cells memory : List ℕ) (answer : Result ℕ StoreRefusal) (memory' : List ℕ) : Type 0 where
    pub answers : answer ≡ Ok (slice_index (symbols_in cells) place)
    pub loaded : Loaded cells (place + 1) memory'
    pub rest : SameBehind m.w memory memory'

  pub record ReadLevel (level : ℕ) (cells memory : List ℕ) (answer : Result (Option ℕ) StoreRefusal) (memory' : List ℕ) : Type 0 where
    pub answers : answer ≡ Ok (as_byte (slice_index (level_numbers A p (symbols_in cells)) level))
    pub loaded : Loaded cells ((level + 1) * A.b) memory'
    pub rest : SameBehind m.w memory memory'

  -- a fault of the levels, if there is one
  abbrev pub level_outcome : Option ℕ → Outcome
  level_outcome None = accepted
  level_outcome (Some level) = refused 16 (cue ∷ level ∷ [])

  -- the levels are shown up to the first whose number passes 255
  pub record ShownLevels (cells memory : List ℕ) (answer : Outcome) (levels' memory' : List ℕ) : Type 0 where
    pub answers : answer ≡ level_outcome (first_place (λ number. ltb 255 number) (level_numbers A p (symbols_in cells)))
    pub given : answer ≡ accepted → levels' ≡ level_numbers A p (symbols_in cells)
    pub loaded : answer ≡ accepted → Loaded cells (symbol_count A p) memory'
    pub rest : SameBehind m.w memory memory'

  -- the filling is gone over for a symbol that is not 0
  pub record CheckedFilling (cells memory : List ℕ) (answer : Outcome) (memory' : List ℕ) : Type 0 where
    pub answers : answer ≡ level_outcome (option_map (λ place. p.levels) (first_place (λ symbol. ltb 0 symbol) (filling A p (symbols_in cells))))
    pub rest : SameBehind m.w memory memory'

  -- a recall before anything is zeroed
  pub record ReadLevels (cells memory : List ℕ) (answer : Outcome) (levels' memory' : List ℕ) : Type 0 where
    pub answers : answer ≡ reach_outcome (first_place (is_beyond_reach A m) (cue_words A m p cells cue)) (level_outcome (level_fault A p (symbols_in cells)))
    pub given : answer ≡ accepted → levels' ≡ level_numbers A p (symbols_in cells)
    pub rest : SameBehind m.w memory memory'

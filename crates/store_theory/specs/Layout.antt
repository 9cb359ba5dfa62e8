-- Where a store keeps its cues: its numbers, a cue's words in the cells, and its levels as messages.
use Rattle.std.specs.Prelude.{ℕ, zero, suc, ◌+◌, ◌-◌, ◌*◌, ◌/◌, List, [], ◌∷◌, ◌++◌, map, take, drop, replicate}
use Rattle.std.specs.List.{flat_map}
use Rattle.std.specs.Int.Digits.{number_from_digits}
use Rattle.theory.specs.Alphabets.{Arithmetic}
use Rattle.theory.specs.Levels.{level_symbols}
use Rattle.theory.specs.Meanings.{Meaning}

-- how many cues a store is made for, and how many levels each of them has
pub record Plan : Type 0 where
  pub cues : ℕ
  pub levels : ℕ

abbrev pub plan_of : ℕ → ℕ → Plan
plan_of cues levels = record { cues = cues; levels = levels }

-- no store has more cues, more levels in a cue or more cells than these
abbrev pub most_cues : ℕ
most_cues = 64

abbrev pub most_levels : ℕ
most_levels = 512

abbrev pub most_cells : ℕ
most_cells = 1048576

-- the symbols of the levels of one cue
abbrev pub symbol_count : Arithmetic → Plan → ℕ
symbol_count A p = p.levels * A.b

-- the words of one cue: the least number whose messages have room for these symbols
unfoldable pub word_count : Arithmetic → Meaning → Plan → ℕ
word_count A m p = (symbol_count A p + (m.k - 1)) / m.k

-- the cells of one cue, and of all
abbrev pub cue_cells : Arithmetic → Meaning → Plan → ℕ
cue_cells A m p = word_count A m p * m.n

abbrev pub cell_count : Arithmetic → Meaning → Plan → ℕ
cell_count A m p = p.cues * cue_cells A m p

-- the cell of place 0 of a word of a cue; place i stands i cells further on
abbrev pub cell_of_word : Arithmetic → Meaning → Plan → ℕ → ℕ → ℕ
cell_of_word A m p cue word = (cue * word_count A m p + word) * m.n

-- a list cut into so many pieces of one size, from its front on
abbrev pub pieces : ℕ → ℕ → List ℕ → List (List ℕ)
pieces size zero xs = []
pieces size (suc count) xs = take size xs ∷ pieces size count (drop size xs)

-- pieces put together again
abbrev pub together : List (List ℕ) → List ℕ
together xss = flat_map (λ xs. xs) xss

-- the words of a cue, as its cells have them
abbrev pub cue_words : Arithmetic → Meaning → Plan → List ℕ → ℕ → List (List ℕ)
cue_words A m p cells cue = pieces m.n (word_count A m p) (drop (cell_of_word A m p cue 0) cells)

-- the symbols of all levels, with zeros behind them that fill the last message
abbrev pub filled_symbols : Arithmetic → Meaning → Plan → List ℕ → List ℕ
filled_symbols A m p levels =
    flat_map (level_symbols A) levels ++ replicate (word_count A m p * m.k - symbol_count A p) 0

-- the messages that have these levels, and their words
abbrev pub messages_of : Arithmetic → Meaning → Plan → List ℕ → List (List ℕ)
messages_of A m p levels = pieces m.k (word_count A m p) (filled_symbols A m p levels)

abbrev pub words_of : Arithmetic → Meaning → Plan → List ℕ → List (List ℕ)
words_of A m p levels = map m.word (messages_of A m p levels)

-- back: the number that each b symbols write, which may pass 255, and the filling behind them
abbrev pub level_numbers : Arithmetic → Plan → List ℕ → List ℕ
level_numbers A p symbols = map (number_from_digits A.q) (pieces A.b p.levels symbols)

abbrev pub filling : Arithmetic → Plan → List ℕ → List ℕ
filling A p symbols = drop (symbol_count A p) symbols

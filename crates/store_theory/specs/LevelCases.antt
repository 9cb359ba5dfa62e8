-- Worked examples of levels as symbols, as one statement over a list.
use Rattle.std.specs.Prelude.{◌≡◌, ℕ, List, [], ◌∷◌, length}
use Rattle.std.specs.Int.Digits.{number_from_digits}
use Rattle.std.specs.List.{AllByRecursion}
use Rattle.theory.specs.Alphabets.{Arithmetic, two, three, four}
use Rattle.theory.specs.Cases.{Made}
use Rattle.theory.specs.Levels.{level_symbols}
use Rattle.theory.specs.NamedPiles.{four_pile}
use Rattle.theory.specs.Piles.{Pile, making_of}
use Rattle.store_theory.specs.Layout.{Plan, messages_of, words_of}

pub data LevelCase : Type 0 where
  writing : Arithmetic → ℕ → List ℕ → LevelCase
  reading : Arithmetic → List ℕ → ℕ → LevelCase
  keeping : Arithmetic → Pile → List ℕ → List (List ℕ) → List (List ℕ) → LevelCase

-- this level is written in these symbols; these symbols are read as this number; these levels, all those of a cue, are kept in
-- these messages and words
abbrev pub HoldsOfLevels : LevelCase → Type 0
HoldsOfLevels (writing A level symbols) = level_symbols A level ≡ symbols
HoldsOfLevels (reading A symbols value) = number_from_digits A.q symbols ≡ value
HoldsOfLevels (keeping A pile levels messages words) =
    Made (making_of A pile) (λ m. let p : Plan = record { cues = 1; levels = length levels } in (messages_of A m p levels ≡ messages) × (words_of A m p levels ≡ words))

abbrev pub level_cases : List LevelCase
level_cases =
    writing three 200 (0 ∷ 2 ∷ 1 ∷ 1 ∷ 0 ∷ 2 ∷ [])
    ∷ writing four 200 (3 ∷ 0 ∷ 2 ∷ 0 ∷ [])
    ∷ writing two 7 (0 ∷ 0 ∷ 0 ∷ 0 ∷ 0 ∷ 1 ∷ 1 ∷ 1 ∷ [])
    ∷ reading three (0 ∷ 2 ∷ 1 ∷ 1 ∷ 0 ∷ 2 ∷ []) 200
    ∷ reading three (2 ∷ 2 ∷ 2 ∷ 2 ∷ 2 ∷ 2 ∷ []) 728
    ∷ keeping four four_pile (200 ∷ 7 ∷ []) ((3 ∷ 0 ∷ 2 ∷ 0 ∷ 0 ∷ 0 ∷ 1 ∷ 3 ∷ []) ∷ []) ((3 ∷ 0 ∷ 2 ∷ 0 ∷ 0 ∷ 1 ∷ 3 ∷ 1 ∷ 1 ∷ 2 ∷ 1 ∷ 1 ∷ []) ∷ [])
    ∷ keeping four four_pile (200 ∷ []) ((3 ∷ 0 ∷ 2 ∷ 0 ∷ 0 ∷ 0 ∷ 0 ∷ 0 ∷ []) ∷ []) ((3 ∷ 0 ∷ 2 ∷ 0 ∷ 0 ∷ 1 ∷ 3 ∷ 0 ∷ 2 ∷ 0 ∷ 0 ∷ 1 ∷ []) ∷ [])
    ∷ []

-- every one of them holds
abbrev pub LevelExamplesHold : Type 0
LevelExamplesHold = AllByRecursion HoldsOfLevels level_cases

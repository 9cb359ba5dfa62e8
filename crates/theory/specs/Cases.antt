-- Worked examples of the definitions, as one statement over a list. A mark is 255 in the list, and memory that a call
-- does not read is 170.
use Rattle.std.specs.Prelude.{◌≡◌, ℕ, List, [], ◌∷◌, replicate}
use Rattle.std.specs.List.{AllByRecursion}
use Rattle.theory.specs.Alphabets.{Arithmetic, two, three, four}
use Rattle.theory.specs.Calls.{Outcome, accepted, refused, sent, mended}
use Rattle.theory.specs.Hamming.{hamming}
use Rattle.theory.specs.Hexacode.{hexacode}
use Rattle.theory.specs.Levels.{level_symbols}
use Rattle.theory.specs.Meanings.{Meaning, Making, made, refused_making}
use Rattle.theory.specs.NamedPiles.{reed_muller, four_pile}
use Rattle.theory.specs.Parity.{parity}
use Rattle.theory.specs.Piles.{Pile, leaf, sum_of, shorten_at, making_of}
use Rattle.theory.specs.Repetition.{repetition}

pub data Case : Type 0 where
  sending : Arithmetic → Pile → List ℕ → Outcome → List ℕ → Case
  mending : Arithmetic → Pile → List ℕ → Outcome → List ℕ → Case
  numbering : Arithmetic → Pile → ℕ → ℕ → ℕ → ℕ → Case
  writing : Arithmetic → ℕ → List ℕ → Case

-- it is made, and this holds of its meaning
abbrev pub Made : Making → (Meaning → Type 0) → Type 0
Made (made m) P = P m
Made (refused_making number) P = ⊥

-- a call of the pile with this memory has this outcome and leaves this memory; the pile has these numbers n, k, d and W;
-- this level is written in these symbols
abbrev pub Holds : Case → Type 0
Holds (sending A p before outcome after) = Made (making_of A p) (λ m. sent A m before ≡ (outcome, after))
Holds (mending A p before outcome after) = Made (making_of A p) (λ m. mended A m before ≡ (outcome, after))
Holds (numbering A p n k d w) = Made (making_of A p) (λ m. (m.n ≡ n) × (m.k ≡ k) × (m.d ≡ d) × (m.w ≡ w))
Holds (writing A level symbols) = level_symbols A level ≡ symbols

-- a word of the four-symbol pile, in its working memory
abbrev pub four_pile_word : List ℕ
four_pile_word = 1 ∷ 2 ∷ 3 ∷ 0 ∷ 1 ∷ 1 ∷ 0 ∷ 2 ∷ 3 ∷ 1 ∷ 2 ∷ 3 ∷ replicate 18 0

abbrev pub cases : List Case
cases =
    mending three (leaf (repetition 5)) (2 ∷ 2 ∷ 255 ∷ 0 ∷ 2 ∷ []) accepted (2 ∷ 2 ∷ 2 ∷ 2 ∷ 2 ∷ [])
    ∷ mending three (leaf (repetition 5)) (2 ∷ 2 ∷ 255 ∷ 0 ∷ 1 ∷ []) (refused 3 []) (2 ∷ 2 ∷ 255 ∷ 0 ∷ 1 ∷ [])
    ∷ mending three (leaf (parity three 3)) (1 ∷ 255 ∷ 2 ∷ []) accepted (1 ∷ 0 ∷ 2 ∷ [])
    ∷ mending three (leaf (parity three 3)) (1 ∷ 1 ∷ 2 ∷ []) (refused 3 []) (1 ∷ 1 ∷ 2 ∷ [])
    ∷ sending four (leaf hexacode) (1 ∷ 2 ∷ 3 ∷ 170 ∷ 170 ∷ 170 ∷ []) accepted (1 ∷ 2 ∷ 3 ∷ 0 ∷ 3 ∷ 0 ∷ [])
    ∷ mending four (leaf hexacode) (1 ∷ 0 ∷ 0 ∷ 255 ∷ 255 ∷ 255 ∷ []) accepted (1 ∷ 0 ∷ 0 ∷ 1 ∷ 3 ∷ 2 ∷ [])
    ∷ mending four (leaf hexacode) (1 ∷ 0 ∷ 255 ∷ 255 ∷ 255 ∷ 255 ∷ []) (refused 3 []) (1 ∷ 0 ∷ 255 ∷ 255 ∷ 255 ∷ 255 ∷ [])
    ∷ sending four four_pile (1 ∷ 2 ∷ 3 ∷ 0 ∷ 1 ∷ 1 ∷ 0 ∷ 0 ∷ replicate 22 170) accepted four_pile_word
    ∷ mending four four_pile (1 ∷ 0 ∷ 3 ∷ 0 ∷ 1 ∷ 1 ∷ 255 ∷ 2 ∷ 3 ∷ 1 ∷ 2 ∷ 3 ∷ replicate 18 170) accepted four_pile_word
    ∷ sending two (shorten_at 0 (leaf hamming)) (1 ∷ 0 ∷ 0 ∷ replicate 11 170) accepted (1 ∷ 0 ∷ 0 ∷ 1 ∷ 1 ∷ 0 ∷ replicate 8 0)
    ∷ mending two (sum_of (leaf (repetition 1)) (leaf (repetition 2))) (1 ∷ 0 ∷ 255 ∷ replicate 3 170) (refused 3 []) (1 ∷ 0 ∷ 255 ∷ replicate 3 0)
    ∷ numbering two (reed_muller 5) 32 6 16 125
    ∷ numbering four four_pile 12 8 4 30
    ∷ writing three 200 (0 ∷ 2 ∷ 1 ∷ 1 ∷ 0 ∷ 2 ∷ [])
    ∷ writing four 200 (3 ∷ 0 ∷ 2 ∷ 0 ∷ [])
    ∷ []

-- every one of them holds
abbrev pub WorkedExamplesHold : Type 0
WorkedExamplesHold = AllByRecursion Holds cases

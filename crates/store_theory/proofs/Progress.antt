-- A cue's words and symbols one after another, as a loop goes through them: what is written so far, what is still to be read,
-- and which symbol stands where. Assumes nothing.
use Rattle.std.proofs.Common.{◌≡◌, ℕ, zero, suc, ◌+◌, ◌-◌, ◌*◌, ◌/◌, ◌%◌, ◌^◌, ◌<◌, ◌≤◌, List, [], ◌∷◌, ◌++◌, map, length, get_or, take, drop, replicate, sym, refl, ap, ◌∙◌, ap₂, append_assoc, suc-mul, zero-mul, arith, length-append, length-take}
use lib.ListN.{length-replicate}
use Rattle.std.specs.List.{flat_map}
use Rattle.std.specs.Int.Digits.{number_from_digits}
use Rattle.std.proofs.ByRecursion.{All-take, All-get_or}
use Rattle.std.proofs.lemmas.List.{append-nil, take_at, drop-drop, take_more, take-append-drop, length-take-le, get_or_append_left, get_or-append_right, get_or-replicate, get_or-map, length-map}
use Rattle.std.proofs.lemmas.Bool.{le-leb}
use Rattle.theory.specs.Alphabets.{Arithmetic}
use Rattle.theory.specs.Levels.{digits, level_symbols}
use Rattle.theory.specs.Meanings.{Meaning}
use Rattle.theory.specs.Memory.{over, part, cleared}
use Rattle.theory.proofs.Overs.{drop_over_above, part_above, length_part}
use Rattle.theory.proofs.Memory.{cleared_there}
use Rattle.store_theory.specs.Calls.{zeroed, missing_level, all_levels}
use Rattle.store_theory.specs.Layout.{Plan, word_count, cell_count, cell_of_word, symbol_count, filled_symbols, messages_of, words_of, level_numbers, pieces, together}
use Rattle.store_theory.proofs.Levels.{levels_long, symbols_length, joined_map}
use Rattle.store_theory.proofs.Pieces.{Long, length_pieces, get_or_pieces, length_together}
use Rattle.store_theory.proofs.Places.{row_inside, word_cell, first_cell, cue_inside}

-- nothing written changes nothing
pub over_nothing : (xs : List ℕ) (a : ℕ) → over xs a [] ≡ xs
over_nothing xs a =
    let there : a + 0 ≡ a = omega arith in
    ap (λ (j : ℕ). take a xs ++ drop j xs) there ∙ take-append-drop a xs

-- two writes, one behind the other, are one
pub over_behind : (xs : List ℕ) (a : ℕ) (ys zs : List ℕ) → a + length ys + length zs ≤ length xs → over (over xs a ys) (a + length ys) zs ≡ over xs a (ys ++ zs)
over_behind xs a ys zs fits =
    let rest = drop (a + length ys) xs in
    let end = a + length ys + length zs in
    let long : length (take a xs ++ ys) ≡ a + length ys = simp (length-append, length-take) (omega arith) in
    let both : end ≡ a + length (ys ++ zs) = omega (arith, length-append ys zs) in
    let front : take (a + length ys) (over xs a ys) ≡ take a xs ++ ys =
    ap (take (a + length ys)) (sym (append_assoc (take a xs) ys rest)) ∙ take_at (take a xs ++ ys) rest (a + length ys) long in
    ap₂ (λ (f b : List ℕ). f ++ (zs ++ b)) front (drop_over_above xs a ys (omega arith) end (omega arith))
    ∙ append_assoc (take a xs) ys (zs ++ drop end xs)
    ∙ ap (λ (z : List ℕ). take a xs ++ z) (sym (append_assoc ys zs (drop end xs)))
    ∙ ap (λ (j : ℕ). take a xs ++ ((ys ++ zs) ++ drop j xs)) both

-- what is there, written again, changes nothing
pub over_same : (xs : List ℕ) (a k : ℕ) → a + k ≤ length xs → over xs a (part xs a k) ≡ xs
over_same xs a k fits =
    let long : length (part xs a k) ≡ k = length_part xs a k fits in
    ap (λ (j : ℕ). take a xs ++ (part xs a k ++ drop (a + j) xs)) long
    ∙ ap (λ (z : List ℕ). take a xs ++ (part xs a k ++ z)) (sym (drop-drop k a xs))
    ∙ ap (λ (z : List ℕ). take a xs ++ z) (take-append-drop k (drop a xs)) ∙ take-append-drop a xs

together_append : (xss yss : List (List ℕ)) → together (xss ++ yss) ≡ together xss ++ together yss
together_append [] yss = refl
together_append (xs ∷ xss) yss = ap (λ (z : List ℕ). xs ++ z) (together_append xss yss) ∙ sym (append_assoc xs (together xss) (together yss))

module _ (A : Arithmetic) (m : Meaning) (p : Plan) (cells : List ℕ) (cue : ℕ) (there : cue < p.cues) (room : cell_count A m p ≤ length cells) (words : List (List ℕ)) (long : Long m.n words) (all : length words ≡ word_count A m p) (i : ℕ) (more : i < word_count A m p) where
  so_far : length (together (take i words)) ≡ i * m.n
  so_far =
      length_together m.n (take i words) (All-take (λ xs. length xs ≡ m.n) i words long)
      ∙ ap (λ (j : ℕ). j * m.n) (length-take-le i words (omega (arith, all)))

  here : cell_of_word A m p cue i ≡ cell_of_word A m p cue 0 + length (together (take i words))
  here = omega (arith, so_far, word_cell A m p cue i, first_cell A m p cue)

  inside : cell_of_word A m p cue 0 + (i * m.n + m.n) ≤ length cells
  inside = omega (arith, cue_inside A m p cells cue there room, row_inside i (word_count A m p) m.n more)

  -- one word more
  pub word_more : over (over cells (cell_of_word A m p cue 0) (together (take i words))) (cell_of_word A m p cue i) (get_or words i []) ≡ over cells (cell_of_word A m p cue 0) (together (take (i + 1) words))
  word_more =
      let word = get_or words i [] in
      let word_long : length word ≡ m.n = All-get_or (λ xs. length xs ≡ m.n) words i [] (omega (arith, all)) long in
      let last : together (take (i + 1) words) ≡ together (take i words) ++ word =
      ap together (take_more words i [] (omega (arith, all))) ∙ together_append (take i words) (word ∷ [])
      ∙ ap (λ (z : List ℕ). together (take i words) ++ z) (append-nil word) in
      ap (λ (a : ℕ). over (over cells (cell_of_word A m p cue 0) (together (take i words))) a word) here
      ∙ over_behind cells (cell_of_word A m p cue 0) (together (take i words)) word (omega (arith, so_far, word_long, inside))
      ∙ ap (over cells (cell_of_word A m p cue 0)) (sym last)

  -- the words that are still to come are as they were
  pub word_ahead : part (over cells (cell_of_word A m p cue 0) (together (take i words))) (cell_of_word A m p cue i) m.n ≡ part cells (cell_of_word A m p cue i) m.n
  word_ahead =
      part_above cells (cell_of_word A m p cue 0) (together (take i words)) (omega (arith, so_far, inside)) (cell_of_word A m p cue i) m.n (omega (arith, here))

-- place r of piece i
pub get_or_together : (size : ℕ) (xss : List (List ℕ)) (i r : ℕ) → Long size xss → i < length xss → r < size → get_or (together xss) (i * size + r) 0 ≡ get_or (get_or xss i []) r 0
get_or_together size [] i r h l k = absurd (omega arith)
get_or_together size (xs ∷ xss) zero r h l k =
    let place : zero * size + r ≡ r = omega (arith, zero-mul size) in
    ap (λ (j : ℕ). get_or (xs ++ together xss) j 0) place ∙ get_or_append_left xs (together xss) 0 r (omega (arith, h.0))
get_or_together size (xs ∷ xss) (suc i) r h l k =
    let step = suc-mul i size in
    let place : suc i * size + r - size ≡ i * size + r = omega arith in
    get_or-append_right xs (together xss) size (suc i * size + r) 0 h.0 (omega arith)
    ∙ ap (λ (j : ℕ). get_or (together xss) j 0) place ∙ get_or_together size xss i r h.1 (omega arith) k

-- symbol i of a level
pub get_or_digits : (q b v i : ℕ) → i < b → get_or (digits q b v) i 0 ≡ (v / (q ^ (b - 1 - i))) % q
get_or_digits q zero v i h = absurd (omega arith)
get_or_digits q (suc b) v zero h =
    let place : b ≡ suc b - 1 - 0 = omega arith in
    ap (λ (j : ℕ). (v / (q ^ j)) % q) place
get_or_digits q (suc b) v (suc i) h =
    let place : b - 1 - i ≡ suc b - 1 - suc i = omega arith in
    get_or_digits q b v i (omega arith) ∙ ap (λ (j : ℕ). (v / (q ^ j)) % q) place

module _ (A : Arithmetic) (m : Meaning) (p : Plan) (levels : List ℕ) (all : length levels ≡ p.levels) where
  -- the symbols of a cue: symbol r of level i, and zeros behind the last level
  pub level_symbol : (i r : ℕ) → i < p.levels → r < A.b → get_or (filled_symbols A m p levels) (i * A.b + r) 0 ≡ (get_or levels i 0 / (A.q ^ (A.b - 1 - r))) % A.q
  level_symbol i r l h =
      let symbols = flat_map (level_symbols A) levels in
      let inside : i * A.b + r < length symbols = omega (arith, symbols_length A p levels all, row_inside i p.levels A.b l) in
      get_or_append_left symbols (replicate (word_count A m p * m.k - symbol_count A p) 0) 0 (i * A.b + r) inside
      ∙ ap (λ (xs : List ℕ). get_or xs (i * A.b + r) 0) (joined_map (level_symbols A) levels)
      ∙ get_or_together A.b (map (level_symbols A) levels) i r (levels_long A levels) (omega (arith, all, length-map levels (level_symbols A))) h
      ∙ ap (λ (xs : List ℕ). get_or xs r 0) (get_or-map (level_symbols A) levels i 0 [] (omega (arith, all)))
      ∙ get_or_digits A.q A.b (get_or levels i 0) r h

  pub filling_symbol : (j : ℕ) → symbol_count A p ≤ j → j < word_count A m p * m.k → get_or (filled_symbols A m p levels) j 0 ≡ 0
  filling_symbol j l h =
      get_or-append_right (flat_map (level_symbols A) levels) (replicate (word_count A m p * m.k - symbol_count A p) 0) (symbol_count A p) j 0 (symbols_length A p levels all) l
      ∙ get_or-replicate (word_count A m p * m.k - symbol_count A p) (j - symbol_count A p) 0 0 (omega arith)

-- word i of a recording, and level i of a recall
pub word_of_levels : (A : Arithmetic) (m : Meaning) (p : Plan) (levels : List ℕ) (i : ℕ) → i < word_count A m p → get_or (words_of A m p levels) i [] ≡ m.word (part (filled_symbols A m p levels) (i * m.k) m.k)
word_of_levels A m p levels i h =
    get_or-map m.word (messages_of A m p levels) i [] [] (omega (arith, length_pieces m.k (word_count A m p) (filled_symbols A m p levels)))
    ∙ ap m.word (get_or_pieces m.k (word_count A m p) (filled_symbols A m p levels) i h)

pub level_number : (A : Arithmetic) (p : Plan) (symbols : List ℕ) (i : ℕ) → i < p.levels → get_or (level_numbers A p symbols) i 0 ≡ number_from_digits A.q (part symbols (i * A.b) A.b)
level_number A p symbols i h =
    get_or-map (number_from_digits A.q) (pieces A.b p.levels symbols) i [] 0 (omega (arith, length_pieces A.b p.levels symbols))
    ∙ ap (number_from_digits A.q) (get_or_pieces A.b p.levels symbols i h)

-- the levels of a recording: those given, and the missing ones
pub given_level : (p : Plan) (levels : List ℕ) (i : ℕ) → i < length levels → get_or (all_levels p levels) i 0 ≡ get_or levels i 0
given_level p levels i h = get_or_append_left levels (replicate (p.levels - length levels) missing_level) 0 i h

pub missing_level_lem : (p : Plan) (levels : List ℕ) (i : ℕ) → length levels ≤ i → i < p.levels → get_or (all_levels p levels) i 0 ≡ missing_level
missing_level_lem p levels i l h =
    get_or-append_right levels (replicate (p.levels - length levels) missing_level) (length levels) i 0 refl l
    ∙ get_or-replicate (p.levels - length levels) (i - length levels) missing_level 0 (omega arith)

-- zeros in front, as clearing leaves them
pub cleared_front : (count : ℕ) (xs : List ℕ) → count ≤ length xs → cleared xs 0 count ≡ zeroed count xs
cleared_front count xs h =
    let zeros : 0 + length (replicate {A = ℕ} count 0) ≡ count = omega (arith, length-replicate {A = ℕ} count 0) in
    cleared_there xs 0 count (le-leb (0 + count) (length xs) (omega arith)) ∙ ap (λ (j : ℕ). replicate count 0 ++ drop j xs) zeros

-- Where the words of a cue stand in the cells, and what a write to the cells of one cue leaves of each word. Assumes nothing.
use Rattle.std.proofs.Common.{◌≡◌, ℕ, suc, ◌+◌, ◌*◌, ◌<◌, ◌≤◌, List, [], length, get_or, take, drop, sym, ap, ◌∙◌, ⊎_elim, add-zero, mul-le-mul_right, mul_assoc, suc-mul, add-mul, arith}
use Rattle.std.proofs.lemmas.List.{drop-drop, drop-append-le, take-append-le, length-drop}
use Rattle.std.proofs.lemmas.Bool.{cases_lt}
use Rattle.theory.specs.Alphabets.{Arithmetic}
use Rattle.theory.specs.Meanings.{Meaning}
use Rattle.theory.specs.Memory.{over, part}
use Rattle.theory.proofs.Overs.{length_over, drop_over, part_above, part_below}
use Rattle.store_theory.specs.Layout.{Plan, word_count, cue_cells, cell_count, cell_of_word, cue_words, together}
use Rattle.store_theory.proofs.Pieces.{Long, get_or_pieces, length_together, part_together}

-- row i of so many rows of one size ends within them
pub row_inside : (i count size : ℕ) → i < count → i * size + size ≤ count * size
row_inside i count size h = omega (arith, suc-mul i size, mul-le-mul_right {m = suc i} {n = count} size h)

-- a part that lies within what was written
pub part_inside : (xs : List ℕ) (a : ℕ) (ys : List ℕ) (j k : ℕ) → a + length ys ≤ length xs → j + k ≤ length ys → part (over xs a ys) (a + j) k ≡ part ys j k
part_inside xs a ys j k fits inside =
    let rest = drop (a + length ys) xs in
    ap (take k) (sym (drop-drop j a (over xs a ys)) ∙ ap (drop j) (drop_over xs a ys fits) ∙ drop-append-le j ys rest (omega arith))
    ∙ take-append-le k (drop j ys) rest (simp length-drop (omega arith))

module _ (A : Arithmetic) (m : Meaning) (p : Plan) where
  -- word w of a cue stands w words behind its first
  pub word_cell : (cue word : ℕ) → cell_of_word A m p cue word ≡ cue * cue_cells A m p + word * m.n
  word_cell cue word =
      add-mul (cue * word_count A m p) word m.n ∙ ap (λ (a : ℕ). a + word * m.n) (mul_assoc cue (word_count A m p) m.n)

  pub first_cell : (cue : ℕ) → cell_of_word A m p cue 0 ≡ cue * cue_cells A m p
  first_cell cue = ap (λ (a : ℕ). a * m.n) (add-zero (cue * word_count A m p)) ∙ mul_assoc cue (word_count A m p) m.n

  -- the words of a cue, as its cells have them
  pub word_read : (cells : List ℕ) (cue word : ℕ) → word < word_count A m p → get_or (cue_words A m p cells cue) word [] ≡ part cells (cell_of_word A m p cue word) m.n
  word_read cells cue word h =
      let place : cell_of_word A m p cue 0 + word * m.n ≡ cell_of_word A m p cue word = omega (arith, first_cell cue, word_cell cue word) in
      get_or_pieces m.n (word_count A m p) (drop (cell_of_word A m p cue 0) cells) word h
      ∙ ap (take m.n) (drop-drop (word * m.n) (cell_of_word A m p cue 0) cells) ∙ ap (λ (a : ℕ). take m.n (drop a cells)) place

  -- every cue that is there has its cells
  pub cue_inside : (cells : List ℕ) (cue : ℕ) → cue < p.cues → cell_count A m p ≤ length cells → cell_of_word A m p cue 0 + cue_cells A m p ≤ length cells
  cue_inside cells cue h room = omega (arith, first_cell cue, row_inside cue p.cues (cue_cells A m p) h)

  module _ (cells : List ℕ) (cue : ℕ) (there : cue < p.cues) (room : cell_count A m p ≤ length cells) where
    -- every word of it lies within the cells
    pub word_inside : (word : ℕ) → word < word_count A m p → cell_of_word A m p cue word + m.n ≤ length cells
    word_inside word h =
        omega (arith, word_cell cue word, first_cell cue, row_inside word (word_count A m p) m.n h, cue_inside cells cue there room)

    -- a block of the size of a cue's cells, written there
    module _ (block : List ℕ) (long : length block ≡ cue_cells A m p) where
      fits : cell_of_word A m p cue 0 + length block ≤ length cells
      fits = omega (arith, long, cue_inside cells cue there room)

      pub length_written : length (over cells (cell_of_word A m p cue 0) block) ≡ length cells
      length_written = length_over cells (cell_of_word A m p cue 0) block fits

      -- leaves the words of every other cue as they were
      pub word_elsewhere : (other word : ℕ) → (cue ≡ other → ⊥) → word < word_count A m p → part (over cells (cell_of_word A m p cue 0) block) (cell_of_word A m p other word) m.n ≡ part cells (cell_of_word A m p other word) m.n
      word_elsewhere other word differs h =
          ⊎_elim later earlier (cases_lt cue other)
        where
          within : word * m.n + m.n ≤ cue_cells A m p
          within = row_inside word (word_count A m p) m.n h

          later : cue < other → part (over cells (cell_of_word A m p cue 0) block) (cell_of_word A m p other word) m.n ≡ part cells (cell_of_word A m p other word) m.n
          later l =
              part_above cells (cell_of_word A m p cue 0) block fits (cell_of_word A m p other word) m.n
              (omega (arith, long, first_cell cue, word_cell other word, row_inside cue other (cue_cells A m p) l))

          earlier : other ≤ cue → part (over cells (cell_of_word A m p cue 0) block) (cell_of_word A m p other word) m.n ≡ part cells (cell_of_word A m p other word) m.n
          earlier l =
              let below : other < cue = omega arith in
              part_below cells (cell_of_word A m p cue 0) block fits (cell_of_word A m p other word) m.n
              (omega (arith, within, first_cell cue, word_cell other word, row_inside other cue (cue_cells A m p) below))

    -- words written one behind the other: each stands in its place
    module _ (words : List (List ℕ)) (long : Long m.n words) (all : length words ≡ word_count A m p) where
      pub words_length : length (together words) ≡ cue_cells A m p
      words_length = length_together m.n words long ∙ ap (λ (count : ℕ). count * m.n) all

      pub word_written : (word : ℕ) → word < word_count A m p → part (over cells (cell_of_word A m p cue 0) (together words)) (cell_of_word A m p cue word) m.n ≡ get_or words word []
      word_written word h =
          let place : cell_of_word A m p cue word ≡ cell_of_word A m p cue 0 + word * m.n = omega (arith, first_cell cue, word_cell cue word) in
          let inside : word * m.n + m.n ≤ length (together words) = omega (arith, words_length, row_inside word (word_count A m p) m.n h) in
          ap (λ (a : ℕ). part (over cells (cell_of_word A m p cue 0) (together words)) a m.n) place
          ∙ part_inside cells (cell_of_word A m p cue 0) (together words) (word * m.n) m.n (omega (arith, words_length, cue_inside cells cue there room)) inside
          ∙ part_together m.n words word long (omega (arith, all))

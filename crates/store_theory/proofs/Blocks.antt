-- What the calls write into the cells of a cue: as many words as it has, each of the code's length. Assumes nothing.
use Rattle.std.proofs.Common.{◌≡◌, ℕ, ◌<◌, ◌≤◌, List, [], ◌∷◌, map, length, drop, replicate, ◌∙◌, arith, length-append, length-drop}
use lib.ListN.{length-replicate}
use Rattle.std.specs.List.{AllByRecursion as All}
use Rattle.std.proofs.lemmas.List.{length-map}
use Rattle.theory.specs.Alphabets.{Arithmetic, Lawful}
use Rattle.theory.specs.Meanings.{Meaning, Keeps}
use Rattle.theory.specs.Memory.{over}
use Rattle.theory.specs.Words.{Symbols}
use Rattle.store_theory.specs.Calls.{all_levels, touched_word}
use Rattle.store_theory.specs.Layout.{Plan, word_count, cue_cells, cell_count, cell_of_word, cue_words, filled_symbols, messages_of, words_of, together}
use Rattle.store_theory.proofs.Levels.{messages_are_messages}
use Rattle.store_theory.proofs.Pieces.{Long, length_pieces, pieces_long}
use Rattle.store_theory.proofs.Places.{cue_inside, length_written, words_length}
use Rattle.store_theory.proofs.Reached.{touched_length}

-- the levels given and the missing ones are as many as a cue has
pub all_levels_length : (p : Plan) (levels : List ℕ) → length levels ≤ p.levels → length (all_levels p levels) ≡ p.levels
all_levels_length p levels h = simp (length-append, length-replicate) (omega arith)

module _ (A : Arithmetic) (m : Meaning) (keeps : Keeps A m) (p : Plan) where
  module _ (laws : Lawful A) (levels : List ℕ) (all : length levels ≡ p.levels) where
    words_symbols : (xss : List (List ℕ)) → All (Symbols A.q m.k) xss → Long m.n (map m.word xss)
    words_symbols [] h = tt
    words_symbols (xs ∷ xss) h = ((keeps.words xs h.0).long, words_symbols xss h.1)

    pub words_long : Long m.n (words_of A m p levels)
    words_long = words_symbols (messages_of A m p levels) (messages_are_messages A m p keeps.some_symbols levels all laws)

    pub messages_count : length (messages_of A m p levels) ≡ word_count A m p
    messages_count = length_pieces m.k (word_count A m p) (filled_symbols A m p levels)

    pub words_count : length (words_of A m p levels) ≡ word_count A m p
    words_count = length-map (messages_of A m p levels) m.word ∙ messages_count

  module _ (cells : List ℕ) (cue : ℕ) where
    pub cue_words_count : length (cue_words A m p cells cue) ≡ word_count A m p
    cue_words_count = length_pieces m.n (word_count A m p) (drop (cell_of_word A m p cue 0) cells)

    pub touched_count : length (map (touched_word A m) (cue_words A m p cells cue)) ≡ word_count A m p
    touched_count = length-map (cue_words A m p cells cue) (touched_word A m) ∙ cue_words_count

    module _ (there : cue < p.cues) (room : cell_count A m p ≤ length cells) where
      pub cue_words_long : Long m.n (cue_words A m p cells cue)
      cue_words_long =
          pieces_long m.n (word_count A m p) (drop (cell_of_word A m p cue 0) cells) (simp length-drop (omega (arith, cue_inside A m p cells cue there room)))

      touched_words : (xss : List (List ℕ)) → Long m.n xss → Long m.n (map (touched_word A m) xss)
      touched_words [] h = tt
      touched_words (xs ∷ xss) h = (touched_length A m keeps xs h.0, touched_words xss h.1)

      pub touched_long : Long m.n (map (touched_word A m) (cue_words A m p cells cue))
      touched_long = touched_words (cue_words A m p cells cue) cue_words_long

-- no call changes how many cells there are
module _ (A : Arithmetic) (m : Meaning) (keeps : Keeps A m) (p : Plan) (cells : List ℕ) (cue : ℕ) (there : cue < p.cues) (room : cell_count A m p ≤ length cells) where
  pub recording_length : (laws : Lawful A) (levels : List ℕ) → length levels ≡ p.levels → length (over cells (cell_of_word A m p cue 0) (together (words_of A m p levels))) ≡ length cells
  recording_length laws levels all =
      length_written A m p cells cue there room (together (words_of A m p levels)) (words_length A m p cells cue there room (words_of A m p levels) (words_long A m keeps p laws levels all) (words_count A m keeps p laws levels all))

  pub touching_length : length (over cells (cell_of_word A m p cue 0) (together (map (touched_word A m) (cue_words A m p cells cue)))) ≡ length cells
  touching_length =
      let words = map (touched_word A m) (cue_words A m p cells cue) in
      length_written A m p cells cue there room (together words) (words_length A m p cells cue there room words (touched_long A m keeps p cells cue there room) (touched_count A m keeps p cells cue))

  pub wiping_length : length (over cells (cell_of_word A m p cue 0) (replicate (cue_cells A m p) 0)) ≡ length cells
  wiping_length =
      length_written A m p cells cue there room (replicate (cue_cells A m p) 0) (length-replicate (cue_cells A m p) 0)

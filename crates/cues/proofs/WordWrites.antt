-- Writing the words of a cue, step by step. Assumes nothing.
use Rattle.std.proofs.Common.{◌≡◌, ℕ, ◌+◌, ◌*◌, ◌<◌, ◌≤◌, List, [], ◌++◌, length, get_or, take, drop, replicate, sym, ap, ◌∙◌, subst, ap₂, arith}
use Rattle.std.specs.List.{AllByRecursion as All}
use Rattle.std.proofs.ByRecursion.{All-get_or}
use Rattle.std.proofs.lemmas.List.{take_at, take_all}
use Rattle.std.proofs.lemmas.Bool.{le-leb}
use Rattle.store_theory.specs.Calls.{all_levels, zeroed}
use Rattle.store_theory.specs.Layout.{word_count, cell_of_word, filled_symbols, messages_of, words_of, together}
use Rattle.store_theory.proofs.Blocks.{all_levels_length, messages_count, words_count, words_long}
use Rattle.store_theory.proofs.Levels.{messages_are_messages}
use Rattle.store_theory.proofs.Pieces.{get_or_pieces}
use Rattle.store_theory.proofs.Places.{word_inside}
use Rattle.store_theory.proofs.Progress.{word_of_levels, word_more, cleared_front}
use Rattle.theory.specs.Alphabets.{Arithmetic}
use Rattle.theory.specs.Calls.{Outcome, Answer, accepted, sent}
use Rattle.theory.specs.Meanings.{Meaning}
use Rattle.theory.specs.Memory.{over, settled, copied, cleared}
use Rattle.theory.specs.Words.{Symbols}
use Rattle.theory.proofs.Calls.{paired, sent_message}
use Rattle.theory.proofs.Memory.{drop_settled, take_settled, length_settled, copied_there}
use Rattle.theory.proofs.Overs.{length_over, drop_over_above}
use Rattle.cues.specs.Shapes.{plan_in, Enough}
use Rattle.cues.specs.Steps.{message_in, SameBehind}
use Rattle.cues.specs.declared.shape.Shape.{Shape}
use Rattle.cues.proofs.Messages.{message_is}
use Rattle.cues.proofs.Sizes.{KnownStore, cells_are, start_is}

-- zeros in front of what stands behind
pub cleared_same : (w w' : ℕ) (xs ys : List ℕ) → w ≡ w' → w' ≤ length ys → SameBehind w' xs ys → cleared ys 0 w ≡ zeroed w' xs
cleared_same w w' xs ys e h s =
    ap (cleared ys 0) e ∙ cleared_front w' ys h ∙ ap (λ (zs : List ℕ). replicate w' 0 ++ zs) s

pub memory_cleared : {A : Arithmetic} {m : Meaning} {shape : Shape} (fit : KnownStore A m shape) {cue cells : ℕ} (memory after : List ℕ) → Enough shape cue cells (length memory) → length after ≡ length memory → SameBehind m.w memory after → cleared after 0 shape.numbers.working ≡ zeroed m.w memory
memory_cleared {m = m} {shape = shape} fit memory after enough same =
    let working = fit.numbers.numbers.working in
    cleared_same shape.numbers.working m.w memory after working (omega (arith, enough.works, same, working))

module _ {A : Arithmetic} {m : Meaning} {shape : Shape} (fit : KnownStore A m shape) (cue : ℕ) (cells memory : List ℕ) (enough : Enough shape cue (length cells) (length memory)) (levels : List ℕ) (fewer : length levels ≤ shape.levels) where
  all : length (all_levels (plan_in shape) levels) ≡ shape.levels
  all = all_levels_length (plan_in shape) levels fewer

  works : m.w ≤ length memory
  works = omega (arith, enough.works, fit.numbers.numbers.working)

  module _ (word : ℕ) (inside : word < shape.words) where
    within : word < word_count A m (plan_in shape)
    within = omega (arith, fit.numbers.words)

    is_message : Symbols A.q m.k (message_in shape levels word)
    is_message =
        subst (Symbols A.q m.k) (get_or_pieces m.k (word_count A m (plan_in shape)) (filled_symbols A m (plan_in shape) (all_levels (plan_in shape) levels)) word within ∙ sym (message_is fit.numbers fit.keeps.some_symbols levels fewer word within))
        (All-get_or (Symbols A.q m.k) (messages_of A m (plan_in shape) (all_levels (plan_in shape) levels)) word [] (omega (arith, within, messages_count A m fit.keeps (plan_in shape) fit.laws (all_levels (plan_in shape) levels) all)) (messages_are_messages A m (plan_in shape) fit.keeps.some_symbols (all_levels (plan_in shape) levels) all fit.laws))

    word_is : m.word (message_in shape levels word) ≡ get_or (words_of A m (plan_in shape) (all_levels (plan_in shape) levels)) word []
    word_is =
        ap m.word (message_is fit.numbers fit.keeps.some_symbols levels fewer word within)
        ∙ sym (word_of_levels A m (plan_in shape) (all_levels (plan_in shape) levels) word within)

    module _ (ys zs : List ℕ) (o : Outcome) (put : ys ≡ over memory 0 (message_in shape levels word)) (sends : paired o zs ≡ sent A m ys) where
      fits : 0 + length (message_in shape levels word) ≤ m.w
      fits = omega (arith, is_message.long, fit.keeps.room_for_message)

      front : take m.k ys ≡ message_in shape levels word
      front = ap (take m.k) put ∙ take_at (message_in shape levels word) _ m.k is_message.long

      same_length : length ys ≡ length memory
      same_length = ap length put ∙ length_over memory 0 (message_in shape levels word) (omega (arith, fits, works))

      answer : paired o zs ≡ paired accepted (settled m.w (m.word (message_in shape levels word)) ys)
      answer =
          sends
          ∙ sent_message A m ys (omega (arith, same_length, works)) (subst (All (λ x. x < A.q)) (sym front) is_message.each)
          ∙ ap (λ (s : List ℕ). paired accepted (settled m.w (m.word s) ys)) front

      word_long : length (m.word (message_in shape levels word)) ≡ m.n
      word_long = (fit.keeps.words (message_in shape levels word) is_message).long

      send_accepts : o ≡ accepted
      send_accepts = ap (λ (p : Answer). p.0) answer

      sent_memory : zs ≡ settled m.w (m.word (message_in shape levels word)) ys
      sent_memory = ap (λ (p : Answer). p.1) answer

      send_leaves : SameBehind m.w memory zs
      send_leaves =
          ap (drop m.w) sent_memory
          ∙ drop_settled m.w (m.word (message_in shape levels word)) ys (omega (arith, word_long, fit.keeps.room_for_word))
          ∙ ap (drop m.w) put ∙ drop_over_above memory 0 (message_in shape levels word) (omega (arith, fits, works)) m.w fits

      word_copied : copied cells (cue * shape.block + word * shape.numbers.length) zs 0 shape.numbers.length ≡ over cells (cell_of_word A m (plan_in shape) cue word) (get_or (words_of A m (plan_in shape) (all_levels (plan_in shape) levels)) word [])
      word_copied =
          let sent-length : length zs ≡ length memory =
          ap length sent_memory ∙ length_settled m.w (m.word (message_in shape levels word)) ys (omega (arith, word_long, fit.keeps.room_for_word)) (omega (arith, same_length, works)) ∙ same_length in
          ap₂ (λ (a n : ℕ). copied cells a zs 0 n) (start_is fit.numbers cue word) fit.numbers.numbers.length
          ∙ copied_there cells (cell_of_word A m (plan_in shape) cue word) zs 0 m.n (le-leb (0 + m.n) (length zs) (omega (arith, sent-length, works, fit.keeps.room_for_word))) (le-leb (cell_of_word A m (plan_in shape) cue word + m.n) (length cells) (word_inside A m (plan_in shape) cells cue enough.there (omega (arith, cells_are fit.numbers, enough.room)) word within))
          ∙ ap (λ (s : List ℕ). over cells (cell_of_word A m (plan_in shape) cue word) (take m.n s)) sent_memory
          ∙ ap (over cells (cell_of_word A m (plan_in shape) cue word)) (take_settled m.w m.n (m.word (message_in shape levels word)) ys word_long ∙ word_is)

-- the words so far, and all of them
module _ {A : Arithmetic} {m : Meaning} {shape : Shape} (fit : KnownStore A m shape) {cue : ℕ} (cells memory : List ℕ) (enough : Enough shape cue (length cells) (length memory)) (levels : List ℕ) (fewer : length levels ≤ shape.levels) where
  pub words_more : {word : ℕ} → word < shape.words → {before after : List ℕ} → before ≡ over cells (cell_of_word A m (plan_in shape) cue 0) (together (take word (words_of A m (plan_in shape) (all_levels (plan_in shape) levels)))) → after ≡ over before (cell_of_word A m (plan_in shape) cue word) (get_or (words_of A m (plan_in shape) (all_levels (plan_in shape) levels)) word []) → after ≡ over cells (cell_of_word A m (plan_in shape) cue 0) (together (take (word + 1) (words_of A m (plan_in shape) (all_levels (plan_in shape) levels))))
  words_more {word} inside {before} {after} b a =
      a ∙ ap (λ (z : List ℕ). over z (cell_of_word A m (plan_in shape) cue word) (get_or (words_of A m (plan_in shape) (all_levels (plan_in shape) levels)) word [])) b
      ∙ word_more A m (plan_in shape) cells cue enough.there (omega (arith, cells_are fit.numbers, enough.room)) (words_of A m (plan_in shape) (all_levels (plan_in shape) levels)) (words_long A m fit.keeps (plan_in shape) fit.laws (all_levels (plan_in shape) levels) (all fit cue cells memory enough levels fewer)) (words_count A m fit.keeps (plan_in shape) fit.laws (all_levels (plan_in shape) levels) (all fit cue cells memory enough levels fewer)) word (omega (arith, inside, fit.numbers.words))

  pub words_all : {word : ℕ} → shape.words ≤ word → {after : List ℕ} → after ≡ over cells (cell_of_word A m (plan_in shape) cue 0) (together (take word (words_of A m (plan_in shape) (all_levels (plan_in shape) levels)))) → after ≡ over cells (cell_of_word A m (plan_in shape) cue 0) (together (words_of A m (plan_in shape) (all_levels (plan_in shape) levels)))
  words_all {word} h {after} a =
      a ∙ ap (λ (ws : List (List ℕ)). over cells (cell_of_word A m (plan_in shape) cue 0) (together ws)) (take_all word (words_of A m (plan_in shape) (all_levels (plan_in shape) levels)) (omega (arith, words_count A m fit.keeps (plan_in shape) fit.laws (all_levels (plan_in shape) levels) (all fit cue cells memory enough levels fewer), fit.numbers.words)))

-- a message is sent, whose word is then copied
pub record SentWord {A : Arithmetic} {m : Meaning} {shape : Shape} (fit : KnownStore A m shape) (cue word : ℕ) (levels cells memory message : List ℕ) (o : Outcome) (zs : List ℕ) : Type 0 where
  pub inside : word < shape.words
  pub enough : Enough shape cue (length cells) (length memory)
  pub fewer : length levels ≤ shape.levels
  pub written : message ≡ message_in shape levels word
  pub sends : paired o zs ≡ sent A m (message ++ drop shape.numbers.dimension memory)

module _ {A : Arithmetic} {m : Meaning} {shape : Shape} {fit : KnownStore A m shape} {cue word : ℕ} {levels cells memory message : List ℕ} {o : Outcome} {zs : List ℕ} (w : SentWord fit cue word levels cells memory message o zs) where
  put : message ++ drop shape.numbers.dimension memory ≡ over memory 0 (message_in shape levels word)
  put =
      let long = (is_message fit cue cells memory w.enough levels w.fewer word w.inside).long in
      ap₂ (λ (xs : List ℕ) (n : ℕ). xs ++ drop n memory) w.written (omega (arith, long, fit.numbers.numbers.dimension))

  pub sent_accepts : o ≡ accepted
  sent_accepts = send_accepts fit cue cells memory w.enough levels w.fewer word w.inside (message ++ drop shape.numbers.dimension memory) zs o put w.sends

  pub sent_leaves : SameBehind m.w memory zs
  sent_leaves = send_leaves fit cue cells memory w.enough levels w.fewer word w.inside (message ++ drop shape.numbers.dimension memory) zs o put w.sends

  pub sent_copied : copied cells (cue * shape.block + word * shape.numbers.length) zs 0 shape.numbers.length ≡ over cells (cell_of_word A m (plan_in shape) cue word) (get_or (words_of A m (plan_in shape) (all_levels (plan_in shape) levels)) word [])
  sent_copied = word_copied fit cue cells memory w.enough levels w.fewer word w.inside (message ++ drop shape.numbers.dimension memory) zs o put w.sends

-- Read of a direct sum, way by way: V's part is read first, then U's, behind the word. Assumes nothing.
use Rattle.std.proofs.Common.{◌≡◌, ℕ, ◌+◌, ◌-◌, ◌≤◌, List, [], ◌++◌, length, take, drop, Some, sym, ap, ◌∙◌, ap₂, arith}
use Rattle.std.proofs.lemmas.List.{take-take, drop-take, take_at, drop_at, take-append-drop}
use Rattle.theory.specs.Alphabets.{Arithmetic}
use Rattle.theory.specs.Calls.{Outcome, accepted, refused, read_back}
use Rattle.theory.specs.Joins.{direct_sum}
use Rattle.theory.specs.Meanings.{Meaning, Keeps}
use Rattle.theory.specs.Memory.{over, part, settled, cleared, gathered}
use Rattle.theory.specs.Parts.{call_in_part}
use Rattle.theory.specs.Reach.{message_of_word}
use Rattle.theory.specs.Words.{Symbols}
use Rattle.theory.proofs.Calls.{paired, read_word, read_none}
use Rattle.theory.proofs.PartCalls.{fresh, read_result_of, read_outcome, read_found}
use Rattle.theory.proofs.Reach.{read_is_word, own_word_found}
use Rattle.theory.proofs.TwoCalls.{take_fresh, long_read_u, long_read_v, parts_read}
use Rattle.theory.proofs.Symbols.{symbols_take, symbols_drop, symbols_append}
use Rattle.theory.proofs.TwoParts.{cleared_two, gathered_two}

module _ (A : Arithmetic) (u v : Meaning) (keeps-u : Keeps A u) (keeps-v : Keeps A v) (xs : List ℕ) (room : u.n + v.n + u.w + v.w ≤ length xs) where
  abbrev pub front_u : List ℕ
  front_u = part xs 0 u.n

  abbrev pub front_v : List ℕ
  front_v = part xs u.n v.n

  abbrev result_u : List ℕ
  result_u = read_result_of front_u (message_of_word A u front_u)

  abbrev result_v : List ℕ
  result_v = read_result_of front_v (message_of_word A v front_v)

  fresh_u : length (fresh u.w result_u) ≡ u.w
  fresh_u = long_read_u A u v keeps-u keeps-v (u.n + v.n) xs room 0 u.n (omega arith) (omega arith)

  fresh_v : length (fresh v.w result_v) ≡ v.w
  fresh_v = long_read_v A u v keeps-u keeps-v (u.n + v.n) xs room 0 u.n (omega arith) (omega arith)

  abbrev pub both_read : List ℕ
  both_read = over (over xs (u.n + v.n + u.w) (fresh v.w result_v)) (u.n + v.n) (fresh u.w result_u)

  -- each part answers by its own words, and their results stand behind the word
  pub sum_reads_parts : (o o' : Outcome) (ys zs : List ℕ) → paired o ys ≡ call_in_part (read_back A v) u.n v.n (u.n + v.n + u.w) v.w xs → paired o' zs ≡ call_in_part (read_back A u) 0 u.n (u.n + v.n) u.w ys → (o ≡ read_outcome (message_of_word A v front_v)) × (o' ≡ read_outcome (message_of_word A u front_u)) × (zs ≡ both_read)
  sum_reads_parts = parts_read A u v keeps-u keeps-v (u.n + v.n) xs room 0 u.n (omega arith) (omega arith)

  -- a word of the sum is a word of U and then one of V
  parts_of_word : (s : List ℕ) → Symbols A.q (u.k + v.k) s → (direct_sum u v).word s ≡ take (u.n + v.n) xs → (message_of_word A u front_u ≡ Some (take u.k s)) × (message_of_word A v front_v ≡ Some (drop u.k s))
  parts_of_word s h e =
      let hu = symbols_take A.q u.k v.k s h in
      let hv = symbols_drop A.q u.k v.k s h in
      let wu = u.word (take u.k s) in
      let wv = v.word (drop u.k s) in
      let long = (keeps-u.words (take u.k s) hu).long in
      let is-u : front_u ≡ wu = sym (take-take u.n (u.n + v.n) xs (omega arith)) ∙ ap (take u.n) (sym e) ∙ take_at wu wv u.n long in
      let is-v : front_v ≡ wv = sym (drop-take u.n v.n xs) ∙ ap (drop u.n) (sym e) ∙ drop_at wu wv u.n long in
      (ap (message_of_word A u) is-u ∙ own_word_found A u keeps-u (take u.k s) hu, ap (message_of_word A v) is-v ∙ own_word_found A v keeps-v (drop u.k s) hv)

  pub no_word_by_left : (read_outcome (message_of_word A u front_u) ≡ accepted → ⊥) → (s : List ℕ) → Symbols A.q (u.k + v.k) s → (direct_sum u v).word s ≡ take (u.n + v.n) xs → ⊥
  no_word_by_left refusal s h e = refusal (ap read_outcome (parts_of_word s h e).0)

  pub no_word_by_right : (read_outcome (message_of_word A v front_v) ≡ accepted → ⊥) → (s : List ℕ) → Symbols A.q (u.k + v.k) s → (direct_sum u v).word s ≡ take (u.n + v.n) xs → ⊥
  no_word_by_right refusal s h e = refusal (ap read_outcome (parts_of_word s h e).1)

  -- refused: the bytes stay, and the working memory is cleared
  pub sum_reads_no_word : ((s : List ℕ) → Symbols A.q (u.k + v.k) s → (direct_sum u v).word s ≡ take (u.n + v.n) xs → ⊥) → paired (refused 4 []) (cleared both_read (u.n + v.n) (u.n + v.n + u.w + v.w - (u.n + v.n))) ≡ read_back A (direct_sum u v) xs
  sum_reads_no_word none =
      ap (paired (refused 4 [])) (cleared_two xs (u.n + v.n) u.w v.w (fresh u.w result_u) (fresh v.w result_v) fresh_u fresh_v room)
      ∙ sym (read_none A (direct_sum u v) xs room none)

  -- accepted: the messages of both parts, gathered
  pub sum_reads : Keeps A (direct_sum u v) → read_outcome (message_of_word A u front_u) ≡ accepted → read_outcome (message_of_word A v front_v) ≡ accepted → paired accepted (gathered both_read (u.n + v.n) u.k (u.n + v.n + u.w) v.k (u.n + v.n + u.w + v.w)) ≡ read_back A (direct_sum u v) xs
  sum_reads keeps accepted-u accepted-v = go (read_found (message_of_word A u front_u) accepted-u) (read_found (message_of_word A v front_v) accepted-v)
    where
      go : (s : List ℕ) × (message_of_word A u front_u ≡ Some s) → (t : List ℕ) × (message_of_word A v front_v ≡ Some t) → paired accepted (gathered both_read (u.n + v.n) u.k (u.n + v.n + u.w) v.k (u.n + v.n + u.w + v.w)) ≡ read_back A (direct_sum u v) xs
      go f g =
          let s = f.0 in
          let t = g.0 in
          let hs = read_is_word A u front_u s f.1 in
          let ht = read_is_word A v front_v t g.1 in
          let word : (direct_sum u v).word (s ++ t) ≡ take (u.n + v.n) xs =
          ap₂ (λ (a b : List ℕ). u.word a ++ v.word b) (take_at s t u.k hs.0.long) (drop_at s t u.k hs.0.long) ∙ ap₂ (λ (a b : List ℕ). a ++ b) hs.1 ht.1
          ∙ sym (ap₂ (λ (a b : List ℕ). a ++ b) (take-take u.n (u.n + v.n) xs (omega arith)) (drop-take u.n v.n xs)) ∙ take-append-drop u.n (take (u.n + v.n) xs) in
          ap (paired accepted) (gathered_two xs (u.n + v.n) u.w v.w (fresh u.w result_u) (fresh v.w result_v) fresh_u fresh_v room u.k v.k keeps-u.room_for_message keeps-v.room_for_message)
          ∙ ap₂ (λ (a b : List ℕ). paired accepted (settled (u.n + v.n + u.w + v.w) (take u.k (fresh u.w a) ++ take v.k (fresh v.w b)) xs)) (ap (read_result_of front_u) f.1) (ap (read_result_of front_v) g.1)
          ∙ ap₂ (λ (a b : List ℕ). paired accepted (settled (u.n + v.n + u.w + v.w) (a ++ b) xs)) (take_fresh u.w u.k s hs.0.long) (take_fresh v.w v.k t ht.0.long)
          ∙ sym (read_word A (direct_sum u v) xs keeps room (s ++ t) (symbols_append A.q u.k v.k s t hs.0 ht.0) word)

-- Plotkin's join keeps its meaning, and shows a pair if its parts do. Assumes nothing.
use Rattle.std.proofs.Common.{◌≡◌, ℕ, ◌+◌, ◌*◌, ◌<◌, ◌≤◌, min, Bool, true, false, ltb, leb, List, ◌++◌, length, take, drop, replicate, None, sym, refl, ap, ◌∙◌, ap₂, ⊎_elim, arith}
use Rattle.std.proofs.lemmas.List.{get_or_append_left, get_or-take, take_at, drop_at, append_cancel_left, append_cancel_right}
use Rattle.std.proofs.lemmas.Bool.{ltb-true, le-ltb, leb-true, leb-false, cond-false}
use Rattle.theory.specs.Alphabets.{Arithmetic, Lawful}
use Rattle.theory.specs.Joins.{sums, plotkin}
use Rattle.theory.specs.Meanings.{Meaning, Keeps}
use Rattle.theory.specs.Pairs.{AtDistance}
use Rattle.theory.specs.Piles.{Pair, pair_of_parts, plotkin_pair}
use Rattle.theory.specs.Words.{Symbols, differ}
use Rattle.theory.proofs.Carriers.{carrier_of_part}
use Rattle.theory.proofs.Groups.{zero_symbol}
use Rattle.theory.proofs.Pointwise.{length_zipped, all_sums, differ_same_right, differ_same_left, differ_through}
use Rattle.theory.proofs.Symbols.{symbols_take, symbols_drop, symbols_append, symbols_zeros, same_from_parts}
use Rattle.theory.proofs.Words.{cases_same, differ_append, differ_self}

module _ (A : Arithmetic) (laws : Lawful A) (u v : Meaning) (keeps-u : Keeps A u) (keeps-v : Keeps A v) (same : u.n ≡ v.n) where
  module _ (a b : List ℕ) (ha : Symbols A.q u.k a) (hb : Symbols A.q v.k b) where
    level : length (u.word a) ≡ length (v.word b)
    level = (keeps-u.words a ha).long ∙ same ∙ sym (keeps-v.words b hb).long

    right_half : Symbols A.q u.n (sums A (u.word a) (v.word b))
    right_half =
        record {
          long = length_zipped A.add (u.word a) (v.word b) level ∙ (keeps-u.words a ha).long;
          each = all_sums A laws (u.word a) (v.word b) (keeps-u.words a ha).each (keeps-v.words b hb).each;
        }

  -- how far apart two words are, half by half
  halves_differ : (a b a' b' : List ℕ) → Symbols A.q u.k a → Symbols A.q u.k a' → differ (u.word a ++ sums A (u.word a) (v.word b)) (u.word a' ++ sums A (u.word a') (v.word b')) ≡ differ (u.word a) (u.word a') + differ (sums A (u.word a) (v.word b)) (sums A (u.word a') (v.word b'))
  halves_differ a b a' b' h h' =
      differ_append (u.word a) (u.word a') (sums A (u.word a) (v.word b)) (sums A (u.word a') (v.word b')) ((keeps-u.words a h).long ∙ sym (keeps-u.words a' h').long)

  -- with the same v the halves differ alike
  same_right : (a a' b : List ℕ) → Symbols A.q u.k a → Symbols A.q u.k a' → Symbols A.q v.k b → differ (sums A (u.word a) (v.word b)) (sums A (u.word a') (v.word b)) ≡ differ (u.word a) (u.word a')
  same_right a a' b h h' l =
      differ_same_right A laws (u.word a) (u.word a') (v.word b) (level a b h l) (level a' b h' l) (keeps-u.words a h).each (keeps-u.words a' h').each (keeps-v.words b l).each

  words_apart : (a b a' b' : List ℕ) → Symbols A.q u.k a → Symbols A.q v.k b → Symbols A.q u.k a' → Symbols A.q v.k b' → (a ≡ a' → b ≡ b' → ⊥) → min (2 * u.d) v.d ≤ differ (u.word a ++ sums A (u.word a) (v.word b)) (u.word a' ++ sums A (u.word a') (v.word b'))
  words_apart a b a' b' ha hb ha' hb' other =
      let both = halves_differ a b a' b' ha ha' in
      ⊎_elim
      (λ (e : b ≡ b').
      let far = keeps-u.apart a a' ha ha' (λ p. other p e) in
      let right : differ (sums A (u.word a) (v.word b)) (sums A (u.word a') (v.word b')) ≡ differ (u.word a) (u.word a') =
      ap (λ (z : List ℕ). differ (sums A (u.word a) (v.word b)) (sums A (u.word a') (v.word z))) (sym e) ∙ same_right a a' b ha ha' hb in
      omega (arith, both, far, right))
      (λ (e : b ≡ b' → ⊥).
      omega (arith, both, keeps-v.apart b b' hb hb' e, differ_through A laws (u.word a) (u.word a') (v.word b) (v.word b') (level a b ha hb) (level a' b' ha' hb') (keeps-u.words a ha).each (keeps-u.words a' ha').each (keeps-v.words b hb).each (keeps-v.words b' hb').each))
      (cases_same b b')

  pub plotkin_keeps : 3 * u.n + u.w + v.w ≤ 4096 → Keeps A (plotkin A u v)
  plotkin_keeps short =
      record {
        some_places = omega (arith, keeps-u.some_places);
        some_symbols = omega (arith, keeps-u.some_symbols);
        some_distance = omega (arith, keeps-u.some_distance, keeps-v.some_distance);
        room_for_word = omega (arith, keeps-u.room_for_word);
        room_for_message = omega (arith, keeps-u.room_for_message, keeps-v.room_for_message);
        bounded = short;
        words = λ s h.
            let a = take u.k s in
            let b = drop u.k s in
            let ha = symbols_take A.q u.k v.k s h in
            let hb = symbols_drop A.q u.k v.k s h in
            let double : u.n + u.n ≡ 2 * u.n = omega arith in
            let whole = symbols_append A.q u.n u.n (u.word a) (sums A (u.word a) (v.word b)) (keeps-u.words a ha) (right_half a b ha hb) in
            record { long = whole.long ∙ double; each = whole.each };
        apart = λ s t hs ht other.
            words_apart (take u.k s) (drop u.k s) (take u.k t) (drop u.k t) (symbols_take A.q u.k v.k s hs) (symbols_drop A.q u.k v.k s hs) (symbols_take A.q u.k v.k t ht) (symbols_drop A.q u.k v.k t ht) (λ p r. other (same_from_parts u.k s t p r));
        carrier_within = λ i t e. let p = carrier_of_part (ltb i u.k) (u.carrier i) t e in omega (arith, keeps-u.carrier_within i t p.1);
        carries = λ i t e s h.
            let p = carrier_of_part (ltb i u.k) (u.carrier i) t e in
            let ha = symbols_take A.q u.k v.k s h in
            let a = take u.k s in
            get_or_append_left (u.word a) (sums A (u.word a) (v.word (drop u.k s))) 0 t (omega (arith, keeps-u.carrier_within i t p.1, (keeps-u.words a ha).long))
            ∙ keeps-u.carries i t p.1 a ha ∙ get_or-take u.k s i 0 (ltb-true i u.k p.0);
        carrier_absent = λ i h. cond-false (ltb i u.k) (u.carrier i) None (le-ltb i u.k (omega arith));
      }

  -- a message given by its two parts
  word_of_parts : (a b : List ℕ) → length a ≡ u.k → (plotkin A u v).word (a ++ b) ≡ u.word a ++ sums A (u.word a) (v.word b)
  word_of_parts a b e =
      ap (λ (z : List ℕ). u.word z ++ sums A (u.word z) (v.word (drop u.k (a ++ b)))) (take_at a b u.k e)
      ∙ ap (λ (z : List ℕ). u.word a ++ sums A (u.word a) (v.word z)) (drop_at a b u.k e)

  zeros_u : Symbols A.q u.k (replicate u.k 0)
  zeros_u = symbols_zeros A.q u.k (zero_symbol A laws)

  zeros_v : Symbols A.q v.k (replicate v.k 0)
  zeros_v = symbols_zeros A.q v.k (zero_symbol A laws)

  -- u's pair, each followed by zeros
  left_pair : 2 * u.d ≤ v.d → (s t : List ℕ) → AtDistance A u s t → AtDistance A (plotkin A u v) (s ++ replicate v.k 0) (t ++ replicate v.k 0)
  left_pair near s t h =
      let z = replicate v.k 0 in
      let parts = halves_differ s z t z h.one h.other in
      let alike = same_right s t z h.one h.other zeros_v in
      let exact : differ (u.word s ++ sums A (u.word s) (v.word z)) (u.word t ++ sums A (u.word t) (v.word z)) ≡ min (2 * u.d) v.d = omega (arith, parts, alike, h.exactly) in
      record {
        one = symbols_append A.q u.k v.k s z h.one zeros_v;
        other = symbols_append A.q u.k v.k t z h.other zeros_v;
        different = λ e. h.different (append_cancel_right s t z e);
        exactly = ap₂ differ (word_of_parts s z h.one.long) (word_of_parts t z h.other.long) ∙ exact;
      }

  -- v's pair, each after zeros
  right_pair : v.d < 2 * u.d → (s t : List ℕ) → AtDistance A v s t → AtDistance A (plotkin A u v) (replicate u.k 0 ++ s) (replicate u.k 0 ++ t)
  right_pair near s t h =
      let z = replicate u.k 0 in
      let parts = halves_differ z s z t zeros_u zeros_u in
      let alike = differ_same_left A laws (v.word s) (v.word t) (u.word z) (sym (level z s zeros_u h.one)) (sym (level z t zeros_u h.other)) (keeps-v.words s h.one).each (keeps-v.words t h.other).each (keeps-u.words z zeros_u).each in
      let exact : differ (u.word z ++ sums A (u.word z) (v.word s)) (u.word z ++ sums A (u.word z) (v.word t)) ≡ min (2 * u.d) v.d = omega (arith, parts, alike, h.exactly, differ_self (u.word z)) in
      record {
        one = symbols_append A.q u.k v.k z s zeros_u h.one;
        other = symbols_append A.q u.k v.k z t zeros_u h.other;
        different = λ e. h.different (append_cancel_left z s t e);
        exactly = ap₂ differ (word_of_parts z s zeros_u.long) (word_of_parts z t zeros_u.long) ∙ exact;
      }

  pub plotkin_shows : (of_u of_v : Pair) → AtDistance A u of_u.0 of_u.1 → AtDistance A v of_v.0 of_v.1 → AtDistance A (plotkin A u v) (plotkin_pair u v of_u of_v).0 (plotkin_pair u v of_u of_v).1
  plotkin_shows of_u of_v hu hv = go (leb (2 * u.d) v.d) refl
    where
      go : (b : Bool) → leb (2 * u.d) v.d ≡ b → AtDistance A (plotkin A u v) (pair_of_parts b u v of_u of_v).0 (pair_of_parts b u v of_u of_v).1
      go true e = left_pair (leb-true (2 * u.d) v.d e) of_u.0 of_u.1 hu
      go false e = right_pair (leb-false (2 * u.d) v.d e) of_v.0 of_v.1 hv

-- The direct sum keeps its meaning, and shows a pair if its parts do. Assumes nothing.
use Rattle.std.proofs.Common.{◌≡◌, ℕ, ◌+◌, ◌-◌, ◌<◌, ◌≤◌, min, Bool, true, false, cond, ltb, leb, List, ◌++◌, length, get_or, take, drop, replicate, Some, sym, refl, ap, ◌∙◌, ap₂, ⊎_elim, arith}
use Rattle.std.specs.Option.{option_map}
use Rattle.std.proofs.lemmas.List.{get_or_append_left, get_or-append_right, get_or-take, get_or-drop, take_at, drop_at, append_cancel_left, append_cancel_right}
use Rattle.std.proofs.lemmas.Bool.{ltb-true, ltb-false, le-ltb, leb-true, leb-false, le-leb, lt-leb, cond-true, cond-false}
use Rattle.theory.specs.Alphabets.{Arithmetic, Lawful}
use Rattle.theory.specs.Joins.{direct_sum, direct_sum_making}
use Rattle.theory.specs.Meanings.{Meaning, Keeps, made, refused_making}
use Rattle.theory.specs.Pairs.{AtDistance}
use Rattle.theory.specs.Piles.{Pair, pair_of_parts, sum_pair}
use Rattle.theory.specs.Words.{Symbols, differ}
use Rattle.theory.proofs.Carriers.{carrier_raised}
use Rattle.theory.proofs.Groups.{zero_symbol}
use Rattle.theory.proofs.Symbols.{symbols_take, symbols_drop, symbols_append, symbols_zeros, same_from_parts}
use Rattle.theory.proofs.Words.{cases_same, differ_append, differ_self}

module _ (A : Arithmetic) (laws : Lawful A) (u v : Meaning) (keeps-u : Keeps A u) (keeps-v : Keeps A v) where
  parts_differ : (a b a' b' : List ℕ) → Symbols A.q u.k a → Symbols A.q u.k a' → differ (u.word a ++ v.word b) (u.word a' ++ v.word b') ≡ differ (u.word a) (u.word a') + differ (v.word b) (v.word b')
  parts_differ a b a' b' h h' =
      differ_append (u.word a) (u.word a') (v.word b) (v.word b') ((keeps-u.words a h).long ∙ sym (keeps-u.words a' h').long)

  words_apart : (a b a' b' : List ℕ) → Symbols A.q u.k a → Symbols A.q v.k b → Symbols A.q u.k a' → Symbols A.q v.k b' → (a ≡ a' → b ≡ b' → ⊥) → min u.d v.d ≤ differ (u.word a ++ v.word b) (u.word a' ++ v.word b')
  words_apart a b a' b' ha hb ha' hb' other =
      let both = parts_differ a b a' b' ha ha' in
      ⊎_elim (λ (e : a ≡ a'). omega (arith, both, keeps-v.apart b b' hb hb' (other e))) (λ (e : a ≡ a' → ⊥). omega (arith, both, keeps-u.apart a a' ha ha' e)) (cases_same a a')

  -- the carrier of a message place lies in the part that the place lies in
  module _ (i t : ℕ) (s : List ℕ) (h : Symbols A.q (u.k + v.k) s) where
    carries_left : i < u.k → u.carrier i ≡ Some t → get_or ((direct_sum u v).word s) t 0 ≡ get_or s i 0
    carries_left l e =
        let a = take u.k s in
        let ha = symbols_take A.q u.k v.k s h in
        get_or_append_left (u.word a) (v.word (drop u.k s)) 0 t (omega (arith, keeps-u.carrier_within i t e, (keeps-u.words a ha).long))
        ∙ keeps-u.carries i t e a ha ∙ get_or-take u.k s i 0 l

    carries_right : u.k ≤ i → (x : ℕ) → v.carrier (i - u.k) ≡ Some x → u.n + x ≡ t → get_or ((direct_sum u v).word s) t 0 ≡ get_or s i 0
    carries_right l x e at =
        let b = drop u.k s in
        let hb = symbols_drop A.q u.k v.k s h in
        let place : t - u.n ≡ x = omega arith in
        let index : u.k + (i - u.k) ≡ i = omega arith in
        get_or-append_right (u.word (take u.k s)) (v.word b) u.n t 0 (keeps-u.words (take u.k s) (symbols_take A.q u.k v.k s h)).long (omega arith)
        ∙ ap (λ (j : ℕ). get_or (v.word b) j 0) place
        ∙ keeps-v.carries (i - u.k) x e b hb ∙ get_or-drop u.k s (i - u.k) 0 ∙ ap (λ (j : ℕ). get_or s j 0) index

  within : (i t : ℕ) → (direct_sum u v).carrier i ≡ Some t → t < u.n + v.n
  within i t = go (ltb i u.k)
    where
      go : (b : Bool) → cond b (u.carrier i) (option_map (λ x. u.n + x) (v.carrier (i - u.k))) ≡ Some t → t < u.n + v.n
      go true e = omega (arith, keeps-u.carrier_within i t e)
      go false e = let r = carrier_raised (λ x. u.n + x) (v.carrier (i - u.k)) t e in omega (arith, keeps-v.carrier_within (i - u.k) r.0 r.1, r.2)

  carries : (i t : ℕ) → (direct_sum u v).carrier i ≡ Some t → (s : List ℕ) → Symbols A.q (u.k + v.k) s → get_or ((direct_sum u v).word s) t 0 ≡ get_or s i 0
  carries i t e s h = go (ltb i u.k) refl e
    where
      go : (b : Bool) → ltb i u.k ≡ b → cond b (u.carrier i) (option_map (λ x. u.n + x) (v.carrier (i - u.k))) ≡ Some t → get_or ((direct_sum u v).word s) t 0 ≡ get_or s i 0
      go true p e = carries_left i t s h (ltb-true i u.k p) e
      go false p e = let r = carrier_raised (λ x. u.n + x) (v.carrier (i - u.k)) t e in carries_right i t s h (ltb-false i u.k p) r.0 r.1 r.2

  pub direct_sum_keeps : u.n + v.n + u.w + v.w ≤ 4096 → Keeps A (direct_sum u v)
  direct_sum_keeps short =
      record {
        some_places = omega (arith, keeps-u.some_places);
        some_symbols = omega (arith, keeps-u.some_symbols);
        some_distance = omega (arith, keeps-u.some_distance, keeps-v.some_distance);
        room_for_word = omega arith;
        room_for_message = omega (arith, keeps-u.room_for_message, keeps-v.room_for_message);
        bounded = short;
        words = λ s h.
            symbols_append A.q u.n v.n (u.word (take u.k s)) (v.word (drop u.k s)) (keeps-u.words (take u.k s) (symbols_take A.q u.k v.k s h)) (keeps-v.words (drop u.k s) (symbols_drop A.q u.k v.k s h));
        apart = λ s t hs ht other.
            words_apart (take u.k s) (drop u.k s) (take u.k t) (drop u.k t) (symbols_take A.q u.k v.k s hs) (symbols_drop A.q u.k v.k s hs) (symbols_take A.q u.k v.k t ht) (symbols_drop A.q u.k v.k t ht) (λ p r. other (same_from_parts u.k s t p r));
        carrier_within = within;
        carries = carries;
        carrier_absent = λ i h.
            cond-false (ltb i u.k) (u.carrier i) (option_map (λ x. u.n + x) (v.carrier (i - u.k))) (le-ltb i u.k (omega arith))
            ∙ ap (option_map (λ x. u.n + x)) (keeps-v.carrier_absent (i - u.k) (omega arith));
      }

  word_of_parts : (a b : List ℕ) → length a ≡ u.k → (direct_sum u v).word (a ++ b) ≡ u.word a ++ v.word b
  word_of_parts a b e =
      ap (λ (z : List ℕ). u.word z ++ v.word (drop u.k (a ++ b))) (take_at a b u.k e) ∙ ap (λ (z : List ℕ). u.word a ++ v.word z) (drop_at a b u.k e)

  zeros_u : Symbols A.q u.k (replicate u.k 0)
  zeros_u = symbols_zeros A.q u.k (zero_symbol A laws)

  zeros_v : Symbols A.q v.k (replicate v.k 0)
  zeros_v = symbols_zeros A.q v.k (zero_symbol A laws)

  -- u's pair, each followed by zeros
  left_pair : u.d ≤ v.d → (s t : List ℕ) → AtDistance A u s t → AtDistance A (direct_sum u v) (s ++ replicate v.k 0) (t ++ replicate v.k 0)
  left_pair near s t h =
      let z = replicate v.k 0 in
      let exact : differ (u.word s ++ v.word z) (u.word t ++ v.word z) ≡ min u.d v.d = omega (arith, parts_differ s z t z h.one h.other, differ_self (v.word z), h.exactly) in
      record {
        one = symbols_append A.q u.k v.k s z h.one zeros_v;
        other = symbols_append A.q u.k v.k t z h.other zeros_v;
        different = λ e. h.different (append_cancel_right s t z e);
        exactly = ap₂ differ (word_of_parts s z h.one.long) (word_of_parts t z h.other.long) ∙ exact;
      }

  -- v's pair, each after zeros
  right_pair : v.d < u.d → (s t : List ℕ) → AtDistance A v s t → AtDistance A (direct_sum u v) (replicate u.k 0 ++ s) (replicate u.k 0 ++ t)
  right_pair near s t h =
      let z = replicate u.k 0 in
      let exact : differ (u.word z ++ v.word s) (u.word z ++ v.word t) ≡ min u.d v.d = omega (arith, parts_differ z s z t zeros_u zeros_u, differ_self (u.word z), h.exactly) in
      record {
        one = symbols_append A.q u.k v.k z s zeros_u h.one;
        other = symbols_append A.q u.k v.k z t zeros_u h.other;
        different = λ e. h.different (append_cancel_left z s t e);
        exactly = ap₂ differ (word_of_parts z s zeros_u.long) (word_of_parts z t zeros_u.long) ∙ exact;
      }

  pub direct_sum_shows : (of_u of_v : Pair) → AtDistance A u of_u.0 of_u.1 → AtDistance A v of_v.0 of_v.1 → AtDistance A (direct_sum u v) (sum_pair u v of_u of_v).0 (sum_pair u v of_u of_v).1
  direct_sum_shows of_u of_v hu hv = go (leb u.d v.d) refl
    where
      go : (b : Bool) → leb u.d v.d ≡ b → AtDistance A (direct_sum u v) (pair_of_parts b u v of_u of_v).0 (pair_of_parts b u v of_u of_v).1
      go true e = left_pair (leb-true u.d v.d e) of_u.0 of_u.1 hu
      go false e = right_pair (leb-false u.d v.d e) of_v.0 of_v.1 hv

-- the making, accepted and refused
pub sum_made : (u v : Meaning) → u.n + v.n + u.w + v.w ≤ 4096 → made (direct_sum u v) ≡ direct_sum_making u v
unfolding direct_sum_making
sum_made u v h = sym (cond-true (leb (u.n + v.n + u.w + v.w) 4096) (made (direct_sum u v)) (refused_making 6) (le-leb (u.n + v.n + u.w + v.w) 4096 h))

pub sum_refused : (u v : Meaning) → 4096 < u.n + v.n + u.w + v.w → refused_making 6 ≡ direct_sum_making u v
unfolding direct_sum_making
sum_refused u v h = sym (cond-false (leb (u.n + v.n + u.w + v.w) 4096) (made (direct_sum u v)) (refused_making 6) (lt-leb (u.n + v.n + u.w + v.w) 4096 h))

-- Looking for u once V has found a word: what a try of one half comes to, and what both tries come to. Assumes nothing.
use Rattle.std.proofs.Common.{◌≡◌, ℕ, ◌+◌, ◌*◌, ◌<◌, ◌≤◌, min, Bool, true, false, ltb, ◌⊎◌, List, length, take, Some, None, Option, sym, refl, ap, ◌∙◌, subst, ap₂, inl, inr, ⊎_elim, arith}
use Rattle.std.proofs.lemmas.Bool.{lt-ltb, le-ltb, cases_lt}
use Rattle.theory.specs.Alphabets.{Arithmetic, Lawful, plus}
use Rattle.theory.specs.Calls.{Answer, mended}
use Rattle.theory.specs.Combining.{combined}
use Rattle.theory.specs.Halves.{byte_less, whole_toll, tried_by, tried, sought_by, sought}
use Rattle.theory.specs.Joins.{sums, less}
use Rattle.theory.specs.Meanings.{Meaning, Keeps}
use Rattle.theory.specs.Memory.{part}
use Rattle.theory.specs.Parts.{call_in_part}
use Rattle.theory.specs.Reach.{message_in_reach}
use Rattle.theory.specs.Words.{Symbols, toll}
use Rattle.theory.proofs.HalfCalls.{halves_of, plus_sums, half_a, half_b, long_a, long_b, held, held_a, held_b, held_e, held_l, held_r, put_together, left_mended}
use Rattle.theory.proofs.PartCalls.{fresh, length_fresh, mend_result, mend_outcome}
use Rattle.theory.proofs.Pointwise.{length_zipped}
use Rattle.theory.proofs.Reach.{found_in_reach}
use Rattle.theory.proofs.TwoCalls.{take_fresh}

-- whether u was found, and the memory with it
abbrev pub answered : Bool → List ℕ → Bool × List ℕ
answered b zs = (b, zs)

module _ (A : Arithmetic) (laws : Lawful A) (u v : Meaning) (keeps-u : Keeps A u) (keeps-v : Keeps A v) (same : u.n ≡ v.n) (xs : List ℕ) (room : 3 * u.n + u.w + v.w ≤ length xs) (t : List ℕ) (found-v : Symbols A.q v.k t) where
  -- V's working part, with the word of t in front
  abbrev pub right_part_lem : List ℕ
  right_part_lem = fresh v.w (v.word t)

  word_v : Symbols A.q v.n (v.word t)
  word_v = keeps-v.words t found-v

  pub long_right_part : length right_part_lem ≡ v.w
  long_right_part = length_fresh v.w (v.word t) (omega (arith, word_v.long, keeps-v.room_for_word))

  -- the right half of the word of s and t, and what the whole word costs
  abbrev pub right_half : List ℕ → List ℕ
  right_half s = sums A (u.word s) (v.word t)

  abbrev pub whole_cost : List ℕ → ℕ
  whole_cost s = toll A.q (u.word s) (half_a A u v xs room) + toll A.q (right_half s) (half_b A u v xs room)

  -- U found s in rs, the whole word of s and t is near, and it stands ready
  pub record Hit (rs zs : List ℕ) : Type 0 where
    pub s : List ℕ
    pub found : message_in_reach A u rs ≡ Some s
    pub near : whole_cost s < min (2 * u.d) v.d
    pub ready : zs ≡ held A u v xs room (right_half s) (fresh u.w (u.word s)) right_part_lem

  -- what U finds in rs, if anything, is far
  abbrev pub Far : List ℕ → Type 0
  Far rs = (s : List ℕ) → message_in_reach A u rs ≡ Some s → min (2 * u.d) v.d ≤ whole_cost s

  -- the received word, and V's part, are still there
  pub record Kept (zs : List ℕ) : Type 0 where
    pub e : List ℕ
    pub l : List ℕ
    pub long_e : length e ≡ u.n
    pub long_l : length l ≡ u.w
    pub is : zs ≡ held A u v xs room e l right_part_lem

  abbrev TryWays : List ℕ → Bool × List ℕ → Type 0
  TryWays rs answer = ((zs : List ℕ) × (answer ≡ answered true zs) × Hit rs zs) ⊎ ((zs : List ℕ) × (answer ≡ answered false zs) × Far rs × Kept zs)

  word_u : (rs s : List ℕ) → message_in_reach A u rs ≡ Some s → Symbols A.q u.n (u.word s)
  word_u rs s f = keeps-u.words s (found_in_reach A u rs s f).message

  long_right_half : (rs s : List ℕ) → message_in_reach A u rs ≡ Some s → length (right_half s) ≡ u.n
  long_right_half rs s f = length_zipped A.add (u.word s) (v.word t) ((word_u rs s f).long ∙ same ∙ sym word_v.long) ∙ (word_u rs s f).long

  long_left_part : (rs s : List ℕ) → message_in_reach A u rs ≡ Some s → length (fresh u.w (u.word s)) ≡ u.w
  long_left_part rs s f = length_fresh u.w (u.word s) (omega (arith, (word_u rs s f).long, keeps-u.room_for_word))

  -- v's word stands in V's part
  right_stands : take u.n right_part_lem ≡ v.word t
  right_stands = take_fresh v.w u.n (v.word t) (word_v.long ∙ sym same)

  try_half : (e l : List ℕ) (long_e : length e ≡ u.n) (long_l : length l ≡ u.w) (from : ℕ) (rs : List ℕ) → from + u.n ≤ 3 * u.n → length rs ≡ u.n → part (held A u v xs room e l right_part_lem) from u.n ≡ rs → TryWays rs (tried A u (halves_of u v) from (held A u v xs room e l right_part_lem))
  unfolding tried
  try_half e l long_e long_l from rs below long is = go (message_in_reach A u rs) refl
    where
      -- U's answer, once it is known what it finds
      left_answers : (o : Option (List ℕ)) → message_in_reach A u rs ≡ o → tried_by A (halves_of u v) (call_in_part (mended A u) from u.n (3 * u.n) u.w (held A u v xs room e l right_part_lem)).0 (call_in_part (mended A u) from u.n (3 * u.n) u.w (held A u v xs room e l right_part_lem)).1 ≡ tried_by A (halves_of u v) (mend_outcome o) (held A u v xs room e (fresh u.w (mend_result u rs o)) right_part_lem)
      left_answers o f =
          ap (λ (p : Answer). tried_by A (halves_of u v) p.0 p.1) (left_mended A laws u v keeps-u keeps-v same xs room e l right_part_lem long_e long_l long_right_part from rs below is)
          ∙ ap (λ (p : Option (List ℕ)). tried_by A (halves_of u v) (mend_outcome p) (held A u v xs room e (fresh u.w (mend_result u rs p)) right_part_lem)) f

      -- u + v written behind the word
      added : (s : List ℕ) → message_in_reach A u rs ≡ Some s → combined (plus A) (held A u v xs room e (fresh u.w (u.word s)) right_part_lem) (3 * u.n) (3 * u.n + u.w) u.n (2 * u.n) ≡ held A u v xs room (right_half s) (fresh u.w (u.word s)) right_part_lem
      added s f =
          let stands-l = held_l A u v xs room e (fresh u.w (u.word s)) right_part_lem long_e (long_left_part rs s f) long_right_part u.n keeps-u.room_for_word ∙ take_fresh u.w u.n (u.word s) (word_u rs s f).long in
          let stands-r = held_r A u v xs room e (fresh u.w (u.word s)) right_part_lem long_e (long_left_part rs s f) long_right_part u.n (omega (arith, same, keeps-v.room_for_word)) ∙ right_stands in
          put_together A laws u v keeps-u keeps-v same xs room (plus A) e (fresh u.w (u.word s)) right_part_lem long_e (long_left_part rs s f) long_right_part (3 * u.n) (3 * u.n + u.w) (u.word s) (v.word t) (omega (arith, keeps-u.room_for_word)) (omega (arith, same, keeps-v.room_for_word)) (inl (omega arith)) (inl (omega arith)) stands-l stands-r (word_u rs s f).long (word_v.long ∙ sym same)
          ∙ ap (λ (z : List ℕ). held A u v xs room z (fresh u.w (u.word s)) right_part_lem) (plus_sums A laws (u.word s) (v.word t) (word_u rs s f).each word_v.each)

      -- what the whole word costs, counted where it stands
      counted : (s : List ℕ) → message_in_reach A u rs ≡ Some s → whole_toll A (halves_of u v) (held A u v xs room (right_half s) (fresh u.w (u.word s)) right_part_lem) ≡ whole_cost s
      counted s f =
          let le = long_right_half rs s f in
          let ll = long_left_part rs s f in
          ap₂ (λ (a b : ℕ). a + b)
          (ap₂ (toll A.q) (held_l A u v xs room (right_half s) (fresh u.w (u.word s)) right_part_lem le ll long_right_part u.n keeps-u.room_for_word ∙ take_fresh u.w u.n (u.word s) (word_u rs s f).long) (held_a A u v xs room (right_half s) (fresh u.w (u.word s)) right_part_lem le ll long_right_part))
          (ap₂ (toll A.q) (held_e A u v xs room (right_half s) (fresh u.w (u.word s)) right_part_lem le ll long_right_part) (held_b A u v xs room (right_half s) (fresh u.w (u.word s)) right_part_lem le ll long_right_part))

      go : (o : Option (List ℕ)) → message_in_reach A u rs ≡ o → TryWays rs (tried_by A (halves_of u v) (call_in_part (mended A u) from u.n (3 * u.n) u.w (held A u v xs room e l right_part_lem)).0 (call_in_part (mended A u) from u.n (3 * u.n) u.w (held A u v xs room e l right_part_lem)).1)
      go None f =
          inr (held A u v xs room e (fresh u.w rs) right_part_lem, left_answers None f, (λ s g. absurd (let z : ◌≡◌ {A = ℕ} 0 1 = cc in omega arith)), record { e = e; l = fresh u.w rs; long_e = long_e; long_l = length_fresh u.w rs (omega (arith, keeps-u.room_for_word)); is = refl })
      go (Some s) f =
          let zs = held A u v xs room (right_half s) (fresh u.w (u.word s)) right_part_lem in
          let answer : tried_by A (halves_of u v) (call_in_part (mended A u) from u.n (3 * u.n) u.w (held A u v xs room e l right_part_lem)).0 (call_in_part (mended A u) from u.n (3 * u.n) u.w (held A u v xs room e l right_part_lem)).1 ≡ answered (ltb (whole_cost s) (min (2 * u.d) v.d)) zs =
          left_answers (Some s) f
          ∙ ap (λ (z : List ℕ). answered (ltb (whole_toll A (halves_of u v) z) (min (2 * u.d) v.d)) z) (added s f)
          ∙ ap (λ (c : ℕ). answered (ltb c (min (2 * u.d) v.d)) zs) (counted s f) in
          ⊎_elim
          (λ (h : whole_cost s < min (2 * u.d) v.d). inl (zs, answer ∙ ap (λ (b : Bool). answered b zs) (lt-ltb (whole_cost s) (min (2 * u.d) v.d) h), record { s = s; found = f; near = h; ready = refl }))
          (λ (h : min (2 * u.d) v.d ≤ whole_cost s). inr (zs, answer ∙ ap (λ (b : Bool). answered b zs) (le-ltb (whole_cost s) (min (2 * u.d) v.d) h), (λ s' g. let e : s ≡ s' = cc in subst (λ (x : List ℕ). min (2 * u.d) v.d ≤ whole_cost x) e h), record { e = right_half s; l = fresh u.w (u.word s); long_e = long_right_half rs s f; long_l = long_left_part rs s f; is = refl }))
          (cases_lt (whole_cost s) (min (2 * u.d) v.d))

  -- the right half less v
  abbrev pub right_less : List ℕ
  right_less = less A (half_b A u v xs room) (v.word t)

  long_right_less : length right_less ≡ u.n
  long_right_less = length_zipped (byte_less A) (half_b A u v xs room) (v.word t) (long_b A u v xs room ∙ same ∙ sym word_v.long) ∙ long_b A u v xs room

  abbrev pub SeekWays : Bool × List ℕ → Type 0
  SeekWays answer =
      ((zs : List ℕ) × (answer ≡ answered true zs) × ((rs : List ℕ) × Hit rs zs)) ⊎ ((zs : List ℕ) × (answer ≡ answered false zs) × Far (half_a A u v xs room) × Far right_less × Kept zs)

  pub seek : (e l : List ℕ) → length e ≡ u.n → length l ≡ u.w → SeekWays (sought A u (halves_of u v) (held A u v xs room e l right_part_lem))
  unfolding sought
  seek e l long_e long_l =
      ⊎_elim
      (λ (w : (zs : List ℕ) × (tried A u (halves_of u v) 0 (held A u v xs room e l right_part_lem) ≡ answered true zs) × Hit (half_a A u v xs room) zs). inl (w.0, ap (λ (p : Bool × List ℕ). sought_by A u (halves_of u v) p.0 p.1) w.1, (half_a A u v xs room, w.2)))
      (λ (w : (zs : List ℕ) × (tried A u (halves_of u v) 0 (held A u v xs room e l right_part_lem) ≡ answered false zs) × Far (half_a A u v xs room) × Kept zs). second w.0 (ap (λ (p : Bool × List ℕ). sought_by A u (halves_of u v) p.0 p.1) w.1) w.2 w.3)
      (try_half e l long_e long_l 0 (half_a A u v xs room) (omega arith) (long_a A u v xs room) (held_a A u v xs room e l right_part_lem long_e long_l long_right_part))
    where
      second : (zs : List ℕ) → sought_by A u (halves_of u v) (tried A u (halves_of u v) 0 (held A u v xs room e l right_part_lem)).0 (tried A u (halves_of u v) 0 (held A u v xs room e l right_part_lem)).1 ≡ tried A u (halves_of u v) (2 * u.n) (combined (byte_less A) zs u.n (3 * u.n + u.w) u.n (2 * u.n)) → Far (half_a A u v xs room) → Kept zs → SeekWays (sought_by A u (halves_of u v) (tried A u (halves_of u v) 0 (held A u v xs room e l right_part_lem)).0 (tried A u (halves_of u v) 0 (held A u v xs room e l right_part_lem)).1)
      second zs eq far kept =
          let le = kept.long_e in
          let ll = kept.long_l in
          let stands-r = held_r A u v xs room kept.e kept.l right_part_lem le ll long_right_part u.n (omega (arith, same, keeps-v.room_for_word)) ∙ right_stands in
          let lessened : combined (byte_less A) zs u.n (3 * u.n + u.w) u.n (2 * u.n) ≡ held A u v xs room right_less kept.l right_part_lem =
          ap (λ (z : List ℕ). combined (byte_less A) z u.n (3 * u.n + u.w) u.n (2 * u.n)) kept.is
          ∙ put_together A laws u v keeps-u keeps-v same xs room (byte_less A) kept.e kept.l right_part_lem le ll long_right_part u.n (3 * u.n + u.w) (half_b A u v xs room) (v.word t) (omega arith) (omega (arith, same, keeps-v.room_for_word)) (inr (omega arith)) (inl (omega arith)) (held_b A u v xs room kept.e kept.l right_part_lem le ll long_right_part) stands-r (long_b A u v xs room) (word_v.long ∙ sym same) in
          let whole = eq ∙ ap (tried A u (halves_of u v) (2 * u.n)) lessened in
          ⊎_elim
          (λ (w : (ys : List ℕ) × (tried A u (halves_of u v) (2 * u.n) (held A u v xs room right_less kept.l right_part_lem) ≡ answered true ys) × Hit right_less ys). inl (w.0, whole ∙ w.1, (right_less, w.2)))
          (λ (w : (ys : List ℕ) × (tried A u (halves_of u v) (2 * u.n) (held A u v xs room right_less kept.l right_part_lem) ≡ answered false ys) × Far right_less × Kept ys). inr (w.0, whole ∙ w.1, far, w.2, w.3))
          (try_half right_less kept.l long_right_less ll (2 * u.n) right_less (omega arith) long_right_less (held_e A u v xs room right_less kept.l right_part_lem long_right_less ll long_right_part))

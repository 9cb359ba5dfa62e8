-- The memory of a Plotkin join while it mends, and what it holds once u was looked for. Assumes nothing.
use Rattle.std.proofs.Common.{◌≡◌, ℕ, ◌+◌, ◌*◌, ◌<◌, ◌≤◌, min, ◌⊎◌, List, [], ◌∷◌, length, take, drop, sym, refl, ap, ◌∙◌, ap₂, inr, arith}
use Rattle.std.specs.List.{AllByRecursion as All}
use Rattle.std.proofs.lemmas.List.{length-take-le, take_all, take-take, drop-take}
use Rattle.theory.specs.Alphabets.{Arithmetic, Lawful, plus}
use Rattle.theory.specs.Calls.{mended}
use Rattle.theory.specs.Combining.{combined}
use Rattle.theory.specs.Halves.{Halves, byte_less}
use Rattle.theory.specs.Joins.{zipped, sums, less}
use Rattle.theory.specs.Meanings.{Meaning, Keeps}
use Rattle.theory.specs.Memory.{over, part}
use Rattle.theory.specs.Parts.{call_in_part}
use Rattle.theory.specs.Reach.{message_in_reach}
use Rattle.theory.proofs.Blocks.{blocks, as_blocks, length_blocks, at_front, at_first, at_second, at_third, over_first, over_second, over_third}
use Rattle.theory.proofs.Calls.{paired}
use Rattle.theory.proofs.Combining.{combined_is}
use Rattle.theory.proofs.Groups.{plus_symbols}
use Rattle.theory.proofs.Overs.{length_part}
use Rattle.theory.proofs.PartCalls.{fresh, length_fresh, mend_result, mend_outcome, mend_result_long, mended_result}
use Rattle.theory.proofs.Pointwise.{length_zipped}

abbrev pub halves_of : Meaning → Meaning → Halves
halves_of u v = record { n = u.n; ku = u.k; kv = v.k; wu = u.w; wv = v.w; d = min (2 * u.d) v.d }

-- adding symbols is adding bytes
pub plus_sums : (A : Arithmetic) → Lawful A → (xs ys : List ℕ) → All (λ x. x < A.q) xs → All (λ x. x < A.q) ys → zipped (plus A) xs ys ≡ sums A xs ys
plus_sums A laws [] ys h k = refl
plus_sums A laws (x ∷ xs) [] h k = refl
plus_sums A laws (x ∷ xs) (y ∷ ys) h k = ap₂ (λ (z : ℕ) (zs : List ℕ). z ∷ zs) (plus_symbols A laws x y h.0 k.0) (plus_sums A laws xs ys h.1 k.1)

module _ (A : Arithmetic) (u v : Meaning) (xs : List ℕ) (room : 3 * u.n + u.w + v.w ≤ length xs) where
  abbrev pub half_a : List ℕ
  half_a = part xs 0 u.n

  abbrev pub half_b : List ℕ
  half_b = part xs u.n u.n

  -- the received word in front, one more half, the two working parts, and what lies behind
  abbrev pub held : List ℕ → List ℕ → List ℕ → List ℕ
  held e l r = blocks (take (2 * u.n) xs) e l r (drop (3 * u.n + u.w + v.w) xs)

  pub long_a : length half_a ≡ u.n
  long_a = length_part xs 0 u.n (omega arith)

  pub long_b : length half_b ≡ u.n
  long_b = length_part xs u.n u.n (omega arith)

  pub long_front : length (take (2 * u.n) xs) ≡ 2 * u.n
  long_front = length-take-le (2 * u.n) xs (omega arith)

  pub first_held : xs ≡ held (part xs (2 * u.n) u.n) (part xs (3 * u.n) u.w) (part xs (3 * u.n + u.w) v.w)
  first_held = as_blocks xs u.n u.w v.w (2 * u.n) (3 * u.n) (3 * u.n + u.w) (omega arith) refl

  module _ (e l r : List ℕ) (long_e : length e ≡ u.n) (long_l : length l ≡ u.w) (long-r : length r ≡ v.w) where
    to_l : 2 * u.n + length e ≡ 3 * u.n
    to_l = omega arith

    to_r : 3 * u.n + length l ≡ 3 * u.n + u.w
    to_r = omega arith

    to_end : 3 * u.n + u.w + length r ≡ 3 * u.n + u.w + v.w
    to_end = omega arith

    pub held_long : 3 * u.n + u.w + v.w ≤ length (held e l r)
    held_long =
        omega (arith, length_blocks (take (2 * u.n) xs) e l r (drop (3 * u.n + u.w + v.w) xs) (2 * u.n) (3 * u.n) (3 * u.n + u.w) (3 * u.n + u.w + v.w) long_front to_l to_r to_end)

    pub held_a : part (held e l r) 0 u.n ≡ half_a
    held_a =
        at_front (take (2 * u.n) xs) e l r (drop (3 * u.n + u.w + v.w) xs) (2 * u.n) (3 * u.n) (3 * u.n + u.w) (3 * u.n + u.w + v.w) long_front to_l to_r to_end 0 u.n (omega arith)
        ∙ take-take u.n (2 * u.n) xs (omega arith)

    pub held_b : part (held e l r) u.n u.n ≡ half_b
    held_b =
        at_front (take (2 * u.n) xs) e l r (drop (3 * u.n + u.w + v.w) xs) (2 * u.n) (3 * u.n) (3 * u.n + u.w) (3 * u.n + u.w + v.w) long_front to_l to_r to_end u.n u.n (omega arith)
        ∙ ap (λ (k : ℕ). part (take k xs) u.n u.n) (omega arith)
        ∙ ap (take u.n) (drop-take u.n u.n xs) ∙ take-take u.n u.n (drop u.n xs) (omega arith)

    pub held_e : part (held e l r) (2 * u.n) u.n ≡ e
    held_e =
        at_first (take (2 * u.n) xs) e l r (drop (3 * u.n + u.w + v.w) xs) (2 * u.n) (3 * u.n) (3 * u.n + u.w) (3 * u.n + u.w + v.w) long_front to_l to_r to_end u.n (omega arith)
        ∙ take_all u.n e (omega arith)

    pub held_l : (k : ℕ) → k ≤ u.w → part (held e l r) (3 * u.n) k ≡ take k l
    held_l k h =
        at_second (take (2 * u.n) xs) e l r (drop (3 * u.n + u.w + v.w) xs) (2 * u.n) (3 * u.n) (3 * u.n + u.w) (3 * u.n + u.w + v.w) long_front to_l to_r to_end k (omega arith)

    pub held_r : (k : ℕ) → k ≤ v.w → part (held e l r) (3 * u.n + u.w) k ≡ take k r
    held_r k h =
        at_third (take (2 * u.n) xs) e l r (drop (3 * u.n + u.w + v.w) xs) (2 * u.n) (3 * u.n) (3 * u.n + u.w) (3 * u.n + u.w + v.w) long_front to_l to_r to_end k (omega arith)

    pub put_e : (ys : List ℕ) → length ys ≡ u.n → over (held e l r) (2 * u.n) ys ≡ held ys l r
    put_e ys h =
        over_first (take (2 * u.n) xs) e l r (drop (3 * u.n + u.w + v.w) xs) (2 * u.n) (3 * u.n) (3 * u.n + u.w) (3 * u.n + u.w + v.w) long_front to_l to_r to_end ys (omega arith)

    pub put_l : (ys : List ℕ) → length ys ≡ u.w → over (held e l r) (3 * u.n) ys ≡ held e ys r
    put_l ys h =
        over_second (take (2 * u.n) xs) e l r (drop (3 * u.n + u.w + v.w) xs) (2 * u.n) (3 * u.n) (3 * u.n + u.w) (3 * u.n + u.w + v.w) long_front to_l to_r to_end ys (omega arith)

    pub put_r : (ys : List ℕ) → length ys ≡ v.w → over (held e l r) (3 * u.n + u.w) ys ≡ held e l ys
    put_r ys h =
        over_third (take (2 * u.n) xs) e l r (drop (3 * u.n + u.w + v.w) xs) (2 * u.n) (3 * u.n) (3 * u.n + u.w) (3 * u.n + u.w + v.w) long_front to_l to_r to_end ys (omega arith)

module _ (A : Arithmetic) (laws : Lawful A) (u v : Meaning) (keeps-u : Keeps A u) (keeps-v : Keeps A v) (same : u.n ≡ v.n) (xs : List ℕ) (room : 3 * u.n + u.w + v.w ≤ length xs) where
  -- two halves put together behind the word, each read where it stands
  pub put_together : (f : ℕ → ℕ → ℕ) (e l r : List ℕ) (long_e : length e ≡ u.n) (long_l : length l ≡ u.w) (long-r : length r ≡ v.w) (left right : ℕ) (ls rs : List ℕ) → left + u.n ≤ 3 * u.n + u.w + v.w → right + u.n ≤ 3 * u.n + u.w + v.w → (2 * u.n ≤ left) ⊎ (left + u.n ≤ 2 * u.n) → (2 * u.n ≤ right) ⊎ (right + u.n ≤ 2 * u.n) → part (held A u v xs room e l r) left u.n ≡ ls → part (held A u v xs room e l r) right u.n ≡ rs → length ls ≡ u.n → length rs ≡ u.n → combined f (held A u v xs room e l r) left right u.n (2 * u.n) ≡ held A u v xs room (zipped f ls rs) l r
  put_together f e l r long_e long_l long-r left right ls rs in-l in-r reads-l reads-r is-l is-r long-ls long-rs =
      let whole = held_long A u v xs room e l r long_e long_l long-r in
      combined_is f (held A u v xs room e l r) left right u.n (2 * u.n) (omega arith) (omega arith) (omega arith) reads-l reads-r
      ∙ ap₂ (λ (a b : List ℕ). over (held A u v xs room e l r) (2 * u.n) (zipped f a b)) is-l is-r
      ∙ put_e A u v xs room e l r long_e long_l long-r (zipped f ls rs) (length_zipped f ls rs (long-ls ∙ sym long-rs) ∙ long-ls)

  -- U mends a half
  pub left_mended : (e l r : List ℕ) (long_e : length e ≡ u.n) (long_l : length l ≡ u.w) (long-r : length r ≡ v.w) (from : ℕ) (rs : List ℕ) → from + u.n ≤ 3 * u.n → part (held A u v xs room e l r) from u.n ≡ rs → call_in_part (mended A u) from u.n (3 * u.n) u.w (held A u v xs room e l r) ≡ paired (mend_outcome (message_in_reach A u rs)) (held A u v xs room e (fresh u.w (mend_result u rs (message_in_reach A u rs))) r)
  left_mended e l r long_e long_l long-r from rs below is =
      let whole = held_long A u v xs room e l r long_e long_l long-r in
      let long : length rs ≡ u.n = ap length (sym is) ∙ length_part (held A u v xs room e l r) from u.n (omega arith) in
      mended_result A u keeps-u from (3 * u.n) (held A u v xs room e l r) (omega arith) (omega arith)
      ∙ ap (λ (z : List ℕ). paired (mend_outcome (message_in_reach A u z)) (over (held A u v xs room e l r) (3 * u.n) (fresh u.w (mend_result u z (message_in_reach A u z))))) is
      ∙ ap (paired (mend_outcome (message_in_reach A u rs))) (put_l A u v xs room e l r long_e long_l long-r (fresh u.w (mend_result u rs (message_in_reach A u rs))) (length_fresh u.w (mend_result u rs (message_in_reach A u rs)) (omega (arith, mend_result_long A u keeps-u rs long, keeps-u.room_for_word))))

  -- the difference of the halves, which V mends
  abbrev pub difference : List ℕ
  difference = less A (half_b A u v xs room) (half_a A u v xs room)

  pub long_difference : length difference ≡ u.n
  long_difference = length_zipped (byte_less A) (half_b A u v xs room) (half_a A u v xs room) (long_b A u v xs room ∙ sym (long_a A u v xs room)) ∙ long_b A u v xs room

  abbrev pub old_l : List ℕ
  old_l = part xs (3 * u.n) u.w

  abbrev pub old_r : List ℕ
  old_r = part xs (3 * u.n + u.w) v.w

  pub long_old_l : length old_l ≡ u.w
  long_old_l = length_part xs (3 * u.n) u.w (omega arith)

  pub long_old_r : length old_r ≡ v.w
  long_old_r = length_part xs (3 * u.n + u.w) v.w (omega arith)

  pub long_old_e : length (part xs (2 * u.n) u.n) ≡ u.n
  long_old_e = length_part xs (2 * u.n) u.n (omega arith)

  pub differences_held : combined (byte_less A) xs u.n 0 u.n (2 * u.n) ≡ held A u v xs room difference old_l old_r
  differences_held =
      ap (λ (z : List ℕ). combined (byte_less A) z u.n 0 u.n (2 * u.n)) (first_held A u v xs room)
      ∙ put_together (byte_less A) (part xs (2 * u.n) u.n) old_l old_r long_old_e long_old_l long_old_r u.n 0 (half_b A u v xs room) (half_a A u v xs room) (omega arith) (omega arith) (inr (omega arith)) (inr (omega arith)) (held_b A u v xs room (part xs (2 * u.n) u.n) old_l old_r long_old_e long_old_l long_old_r) (held_a A u v xs room (part xs (2 * u.n) u.n) old_l old_r long_old_e long_old_l long_old_r) (long_b A u v xs room) (long_a A u v xs room)

  -- V answers by its reach
  abbrev pub right_result : List ℕ
  right_result = mend_result v difference (message_in_reach A v difference)

  pub long_right : length (fresh v.w right_result) ≡ v.w
  long_right = length_fresh v.w right_result (omega (arith, mend_result_long A v keeps-v difference (long_difference ∙ same), keeps-v.room_for_word))

  pub right_mended : call_in_part (mended A v) (2 * u.n) u.n (3 * u.n + u.w) v.w (held A u v xs room difference old_l old_r) ≡ paired (mend_outcome (message_in_reach A v difference)) (held A u v xs room difference old_l (fresh v.w right_result))
  right_mended =
      let whole = held_long A u v xs room difference old_l old_r long_difference long_old_l long_old_r in
      let is : part (held A u v xs room difference old_l old_r) (2 * u.n) v.n ≡ difference = ap (part (held A u v xs room difference old_l old_r) (2 * u.n)) (sym same) ∙ held_e A u v xs room difference old_l old_r long_difference long_old_l long_old_r in
      ap (λ (k : ℕ). call_in_part (mended A v) (2 * u.n) k (3 * u.n + u.w) v.w (held A u v xs room difference old_l old_r)) same
      ∙ mended_result A v keeps-v (2 * u.n) (3 * u.n + u.w) (held A u v xs room difference old_l old_r) (omega arith) (omega arith)
      ∙ ap (λ (z : List ℕ). paired (mend_outcome (message_in_reach A v z)) (over (held A u v xs room difference old_l old_r) (3 * u.n + u.w) (fresh v.w (mend_result v z (message_in_reach A v z))))) is
      ∙ ap (paired (mend_outcome (message_in_reach A v difference))) (put_r A u v xs room difference old_l old_r long_difference long_old_l long_old_r (fresh v.w right_result) long_right)

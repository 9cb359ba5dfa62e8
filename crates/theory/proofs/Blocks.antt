-- Memory as a word in front, three blocks behind it, and a rest: what stands where, and what writes and clearings leave.
-- Assumes nothing.
use Rattle.std.proofs.Common.{◌≡◌, ℕ, ◌+◌, ◌-◌, ◌≤◌, List, ◌++◌, length, take, drop, replicate, sym, ap, ◌∙◌, ap₂, append_assoc, arith, length-append}
use Rattle.std.proofs.lemmas.List.{take_at, drop_at, take-append-le, take-append-drop, drop-drop, drop-take}
use Rattle.std.proofs.lemmas.Bool.{le-leb}
use Rattle.theory.specs.Memory.{over, part, settled, cleared, gathered}
use Rattle.theory.proofs.Memory.{cleared_there, settled_over}
use Rattle.theory.proofs.Overs.{gathered_is}

-- a block behind a front
pub part_block : (p b r : List ℕ) (a k : ℕ) → length p ≡ a → k ≤ length b → part (p ++ (b ++ r)) a k ≡ take k b
part_block p b r a k e h = ap (take k) (drop_at p (b ++ r) a e) ∙ take-append-le k b r h

pub over_block : (p b r : List ℕ) (a : ℕ) (ys : List ℕ) → length p ≡ a → length ys ≡ length b → over (p ++ (b ++ r)) a ys ≡ p ++ (ys ++ r)
over_block p b r a ys e f =
    let behind : length (p ++ b) ≡ a + length ys = length-append p b ∙ omega arith in
    ap₂ (λ (f r : List ℕ). f ++ (ys ++ r)) (take_at p (b ++ r) a e) (ap (drop (a + length ys)) (sym (append_assoc p b r)) ∙ drop_at (p ++ b) r (a + length ys) behind)

-- a part of the front
pub part_front : (p r : List ℕ) (a k : ℕ) → a + k ≤ length p → part (p ++ r) a k ≡ part p a k
part_front p r a k h = sym (drop-take a k (p ++ r)) ∙ ap (drop a) (take-append-le (a + k) p r h) ∙ drop-take a k p

-- memory cut at a place
pub cut_at : (xs : List ℕ) (a k : ℕ) → drop a xs ≡ part xs a k ++ drop (a + k) xs
cut_at xs a k = sym (take-append-drop k (drop a xs)) ∙ ap (λ (z : List ℕ). part xs a k ++ z) (drop-drop k a xs)

-- a word, three blocks and a rest
abbrev pub blocks : List ℕ → List ℕ → List ℕ → List ℕ → List ℕ → List ℕ
blocks f e u v r = f ++ (e ++ (u ++ (v ++ r)))

-- any memory that is long enough is such
pub as_blocks : (xs : List ℕ) (a b c : ℕ) (at-e at-u at-v : ℕ) → at-e + a ≡ at-u → at-u + b ≡ at-v → xs ≡ blocks (take at-e xs) (part xs at-e a) (part xs at-u b) (part xs at-v c) (drop (at-v + c) xs)
as_blocks xs a b c at-e at-u at-v e f =
    sym (take-append-drop at-e xs)
    ∙ ap (λ (z : List ℕ). take at-e xs ++ z) (cut_at xs at-e a ∙ ap (λ (z : List ℕ). part xs at-e a ++ z) (ap (λ (j : ℕ). drop j xs) e ∙ cut_at xs at-u b ∙ ap (λ (z : List ℕ). part xs at-u b ++ z) (ap (λ (j : ℕ). drop j xs) f ∙ cut_at xs at-v c)))

module _ (f e u v r : List ℕ) (at-e at-u at-v end : ℕ) (long-f : length f ≡ at-e) (long_e : at-e + length e ≡ at-u) (long-u : at-u + length u ≡ at-v) (long-v : at-v + length v ≡ end) where
  -- regrouped, with each block behind one front
  front_u : blocks f e u v r ≡ (f ++ e) ++ (u ++ (v ++ r))
  front_u = sym (append_assoc f e (u ++ (v ++ r)))

  front_v : blocks f e u v r ≡ ((f ++ e) ++ u) ++ (v ++ r)
  front_v = front_u ∙ sym (append_assoc (f ++ e) u (v ++ r))

  front_r : blocks f e u v r ≡ (((f ++ e) ++ u) ++ v) ++ r
  front_r = front_v ∙ sym (append_assoc ((f ++ e) ++ u) v r)

  to_u : length (f ++ e) ≡ at-u
  to_u = length-append f e ∙ omega arith

  to_v : length ((f ++ e) ++ u) ≡ at-v
  to_v = length-append (f ++ e) u ∙ omega (arith, to_u)

  to_r : length (((f ++ e) ++ u) ++ v) ≡ end
  to_r = length-append ((f ++ e) ++ u) v ∙ omega (arith, to_v)

  pub length_blocks : length (blocks f e u v r) ≡ end + length r
  length_blocks = ap length front_r ∙ length-append (((f ++ e) ++ u) ++ v) r ∙ ap (λ (k : ℕ). k + length r) to_r

  -- what stands where
  pub at_front : (a k : ℕ) → a + k ≤ at-e → part (blocks f e u v r) a k ≡ part f a k
  at_front a k h = part_front f (e ++ (u ++ (v ++ r))) a k (omega arith)

  pub at_first : (k : ℕ) → k ≤ length e → part (blocks f e u v r) at-e k ≡ take k e
  at_first k h = part_block f e (u ++ (v ++ r)) at-e k long-f h

  pub at_second : (k : ℕ) → k ≤ length u → part (blocks f e u v r) at-u k ≡ take k u
  at_second k h = ap (λ (z : List ℕ). part z at-u k) front_u ∙ part_block (f ++ e) u (v ++ r) at-u k to_u h

  pub at_third : (k : ℕ) → k ≤ length v → part (blocks f e u v r) at-v k ≡ take k v
  at_third k h = ap (λ (z : List ℕ). part z at-v k) front_v ∙ part_block ((f ++ e) ++ u) v r at-v k to_v h

  pub rest_is : drop end (blocks f e u v r) ≡ r
  rest_is = ap (drop end) front_r ∙ drop_at (((f ++ e) ++ u) ++ v) r end to_r

  -- a block written over
  pub over_first : (ys : List ℕ) → length ys ≡ length e → over (blocks f e u v r) at-e ys ≡ blocks f ys u v r
  over_first ys h = over_block f e (u ++ (v ++ r)) at-e ys long-f h

  pub over_second : (ys : List ℕ) → length ys ≡ length u → over (blocks f e u v r) at-u ys ≡ blocks f e ys v r
  over_second ys h =
      ap (λ (z : List ℕ). over z at-u ys) front_u ∙ over_block (f ++ e) u (v ++ r) at-u ys to_u h ∙ append_assoc f e (ys ++ (v ++ r))

  pub over_third : (ys : List ℕ) → length ys ≡ length v → over (blocks f e u v r) at-v ys ≡ blocks f e u ys r
  over_third ys h =
      ap (λ (z : List ℕ). over z at-v ys) front_v ∙ over_block ((f ++ e) ++ u) v r at-v ys to_v h ∙ append_assoc (f ++ e) u (ys ++ r) ∙ append_assoc f e (u ++ (ys ++ r))

  -- the blocks cleared away
  pub cleared_blocks : cleared (blocks f e u v r) at-e (end - at-e) ≡ f ++ (replicate (end - at-e) 0 ++ r)
  cleared_blocks =
      cleared_there (blocks f e u v r) at-e (end - at-e) (le-leb (at-e + (end - at-e)) (length (blocks f e u v r)) (omega (arith, length_blocks)))
      ∙ settled_over end at-e (blocks f e u v r) (omega arith) (omega (arith, length_blocks))
      ∙ ap₂ (λ (p s : List ℕ). p ++ (replicate (end - length p) 0 ++ s)) (take_at f (e ++ (u ++ (v ++ r))) at-e long-f) rest_is
      ∙ ap (λ (k : ℕ). f ++ (replicate (end - k) 0 ++ r)) long-f

  -- results gathered in front: of the second block and then of the first, or of the second and then of the third
  pub gathered_second_first : (i j : ℕ) → i ≤ length u → j ≤ length e → i ≤ at-e → gathered (blocks f e u v r) at-u i at-e j end ≡ (take i u ++ take j e) ++ (replicate (end - length (take i u ++ take j e)) 0 ++ r)
  gathered_second_first i j hi hj below =
      gathered_is (blocks f e u v r) at-u i at-e j end (omega arith) (omega arith) below (omega arith) (omega (arith, length_blocks))
      ∙ ap₂ (λ (p s : List ℕ). settled end (p ++ s) (blocks f e u v r)) (at_second i hi) (at_first j hj)
      ∙ ap (λ (s : List ℕ). (take i u ++ take j e) ++ (replicate (end - length (take i u ++ take j e)) 0 ++ s)) rest_is

  pub gathered_second_third : (i j : ℕ) → i ≤ length u → j ≤ length v → gathered (blocks f e u v r) at-u i at-v j end ≡ (take i u ++ take j v) ++ (replicate (end - length (take i u ++ take j v)) 0 ++ r)
  gathered_second_third i j hi hj =
      gathered_is (blocks f e u v r) at-u i at-v j end (omega arith) (omega arith) (omega arith) (omega arith) (omega (arith, length_blocks))
      ∙ ap₂ (λ (p s : List ℕ). settled end (p ++ s) (blocks f e u v r)) (at_second i hi) (at_third j hj)
      ∙ ap (λ (s : List ℕ). (take i u ++ take j v) ++ (replicate (end - length (take i u ++ take j v)) 0 ++ s)) rest_is

-- Two working parts behind the first p bytes, the right one written first, then the left one. Assumes nothing.
use Rattle.std.proofs.Common.{◌≡◌, ℕ, ◌+◌, ◌-◌, ◌≤◌, List, ◌++◌, length, take, drop, replicate, ap, ◌∙◌, ap₂, arith}
use Rattle.std.proofs.lemmas.Bool.{le-leb}
use Rattle.theory.specs.Memory.{over, part, settled, cleared, gathered}
use Rattle.theory.proofs.Memory.{cleared_there, settled_over}
use Rattle.theory.proofs.Overs.{length_over, drop_over_above, part_over, part_above, part_below, gathered_is}

module _ (xs : List ℕ) (p wu wv : ℕ) (left right : List ℕ) (long_left : length left ≡ wu) (long_right : length right ≡ wv) (room : p + wu + wv ≤ length xs) where
  right_in : p + wu + length right ≤ length xs
  right_in = omega arith

  -- after the right part
  pub length_one : length (over xs (p + wu) right) ≡ length xs
  length_one = length_over xs (p + wu) right right_in

  pub part_one : (a k : ℕ) → a + k ≤ p + wu → part (over xs (p + wu) right) a k ≡ part xs a k
  part_one a k h = part_below xs (p + wu) right right_in a k h

  left_in : p + length left ≤ length (over xs (p + wu) right)
  left_in = omega (arith, length_one)

  -- after both
  pub length_two : length (over (over xs (p + wu) right) p left) ≡ length xs
  length_two = length_over (over xs (p + wu) right) p left left_in ∙ length_one

  pub left_stands : (k : ℕ) → k ≤ wu → part (over (over xs (p + wu) right) p left) p k ≡ take k left
  left_stands k h = part_over (over xs (p + wu) right) p left left_in k (omega arith)

  pub right_stands : (k : ℕ) → k ≤ wv → part (over (over xs (p + wu) right) p left) (p + wu) k ≡ take k right
  right_stands k h =
      part_above (over xs (p + wu) right) p left left_in (p + wu) k (omega arith) ∙ part_over xs (p + wu) right right_in k (omega arith)

  pub part_two : (a k : ℕ) → a + k ≤ p → part (over (over xs (p + wu) right) p left) a k ≡ part xs a k
  part_two a k h = part_below (over xs (p + wu) right) p left left_in a k h ∙ part_one a k (omega arith)

  pub beyond : drop (p + wu + wv) (over (over xs (p + wu) right) p left) ≡ drop (p + wu + wv) xs
  beyond =
      drop_over_above (over xs (p + wu) right) p left left_in (p + wu + wv) (omega arith) ∙ drop_over_above xs (p + wu) right right_in (p + wu + wv) (omega arith)

  -- both cleared away: what was found stays in front
  pub cleared_two : cleared (over (over xs (p + wu) right) p left) p (p + wu + wv - p) ≡ settled (p + wu + wv) (take p xs) xs
  cleared_two =
      cleared_there (over (over xs (p + wu) right) p left) p (p + wu + wv - p) (le-leb (p + (p + wu + wv - p)) (length (over (over xs (p + wu) right) p left)) (omega (arith, length_two)))
      ∙ settled_over (p + wu + wv) p (over (over xs (p + wu) right) p left) (omega arith) (omega (arith, length_two))
      ∙ ap₂ (λ (f r : List ℕ). f ++ (replicate (p + wu + wv - length f) 0 ++ r)) (part_two 0 p (omega arith)) beyond

  -- both results gathered in front
  pub gathered_two : (a b : ℕ) → a ≤ wu → b ≤ wv → gathered (over (over xs (p + wu) right) p left) p a (p + wu) b (p + wu + wv) ≡ settled (p + wu + wv) (take a left ++ take b right) xs
  gathered_two a b ha hb =
      gathered_is (over (over xs (p + wu) right) p left) p a (p + wu) b (p + wu + wv) (omega arith) (omega arith) (omega arith) (omega arith) (omega (arith, length_two))
      ∙ ap₂ (λ (f g : List ℕ). settled (p + wu + wv) (f ++ g) (over (over xs (p + wu) right) p left)) (left_stands a ha) (right_stands b hb)
      ∙ ap (λ (r : List ℕ). (take a left ++ take b right) ++ (replicate (p + wu + wv - length (take a left ++ take b right)) 0 ++ r)) beyond

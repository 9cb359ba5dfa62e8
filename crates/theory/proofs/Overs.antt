-- What stands where after a write into memory. Assumes nothing.
use Rattle.std.proofs.Common.{◌≡◌, ℕ, ◌+◌, ◌-◌, ◌≤◌, leb, List, ◌++◌, length, take, drop, replicate, sym, refl, ap, ◌∙◌, ap₂, append_assoc, arith, length-append, length-drop, length-take}
use Rattle.std.proofs.lemmas.List.{take_at, drop_at, drop-drop, drop_all, append-nil, length-take-le, take-append-le, take-take, drop-take}
use Rattle.std.proofs.lemmas.Bool.{le-leb, cond-true}
use Rattle.theory.specs.Memory.{over, part, settled, cleared, moved, gathered}
use Rattle.theory.proofs.Memory.{moved_there, cleared_there, settled_over}

pub length_part : (xs : List ℕ) (a k : ℕ) → a + k ≤ length xs → length (part xs a k) ≡ k
length_part xs a k h = simp (length-take, length-drop) (omega arith)

module _ (xs : List ℕ) (a : ℕ) (ys : List ℕ) (fits : a + length ys ≤ length xs) where
  pub length_over : length (over xs a ys) ≡ length xs
  length_over = simp (length-append, length-take, length-drop) (omega arith)

  front : length (take a xs) ≡ a
  front = length-take-le a xs (omega arith)

  -- what lies below, what lies above, and what was written
  pub take_over_below : (n : ℕ) → n ≤ a → take n (over xs a ys) ≡ take n xs
  take_over_below n h = take-append-le n (take a xs) (ys ++ drop (a + length ys) xs) (omega (arith, front)) ∙ take-take n a xs h

  pub drop_over : drop a (over xs a ys) ≡ ys ++ drop (a + length ys) xs
  drop_over = drop_at (take a xs) (ys ++ drop (a + length ys) xs) a front

  pub part_over : (k : ℕ) → k ≤ length ys → part (over xs a ys) a k ≡ take k ys
  part_over k h = ap (take k) drop_over ∙ take-append-le k ys (drop (a + length ys) xs) h

  pub drop_over_above : (n : ℕ) → a + length ys ≤ n → drop n (over xs a ys) ≡ drop n xs
  drop_over_above n h =
      let split : n ≡ a + (length ys + (n - (a + length ys))) = omega arith in
      let rest = n - (a + length ys) in
      let back : a + length ys + rest ≡ n = omega arith in
      ap (λ (j : ℕ). drop j (over xs a ys)) split
      ∙ sym (drop-drop (length ys + rest) a (over xs a ys)) ∙ ap (drop (length ys + rest)) drop_over
      ∙ sym (drop-drop rest (length ys) (ys ++ drop (a + length ys) xs)) ∙ ap (drop rest) (drop_at ys (drop (a + length ys) xs) (length ys) refl)
      ∙ drop-drop rest (a + length ys) xs ∙ ap (λ (j : ℕ). drop j xs) back

  pub part_above : (b k : ℕ) → a + length ys ≤ b → part (over xs a ys) b k ≡ part xs b k
  part_above b k h = ap (take k) (drop_over_above b h)

  pub part_below : (b k : ℕ) → b + k ≤ a → part (over xs a ys) b k ≡ part xs b k
  part_below b k h = sym (drop-take b k (over xs a ys)) ∙ ap (drop b) (take_over_below (b + k) h) ∙ drop-take b k xs

-- two writes at the front, one behind the other
module _ (xs p r : List ℕ) (fits : length p + length r ≤ length xs) where
  first_in : 0 + length p ≤ length xs
  first_in = omega arith

  pub second_in : length p + length r ≤ length (over xs 0 p)
  second_in = omega (arith, length_over xs 0 p first_in)

  first_written : take (length p) (over xs 0 p) ≡ p
  first_written = take_at p (drop (0 + length p) xs) (length p) refl

  pub take_both : take (length p + length r) (over (over xs 0 p) (length p) r) ≡ p ++ r
  take_both =
      whole ∙ ap (λ (z : List ℕ). z ++ r) first_written
    where
      long : length (take (length p) (over xs 0 p)) ≡ length p
      long = ap length first_written

      whole : take (length p + length r) (over (over xs 0 p) (length p) r) ≡ take (length p) (over xs 0 p) ++ r
      whole =
          ap (take (length p + length r)) (sym (append_assoc (take (length p) (over xs 0 p)) r (drop (length p + length r) (over xs 0 p))))
          ∙ take_at (take (length p) (over xs 0 p) ++ r) (drop (length p + length r) (over xs 0 p)) (length p + length r) (length-append (take (length p) (over xs 0 p)) r ∙ ap (λ (k : ℕ). k + length r) long)

  pub drop_both : (n : ℕ) → length p + length r ≤ n → drop n (over (over xs 0 p) (length p) r) ≡ drop n xs
  drop_both n h = drop_over_above (over xs 0 p) (length p) r second_in n h ∙ drop_over_above xs 0 p first_in n (omega arith)

  pub length_both : length (over (over xs 0 p) (length p) r) ≡ length xs
  length_both = length_over (over xs 0 p) (length p) r second_in ∙ length_over xs 0 p first_in

  -- and zeros behind them
  pub cleared_both : (end : ℕ) → length p + length r ≤ end → end ≤ length xs → cleared (over (over xs 0 p) (length p) r) (length p + length r) (end - (length p + length r)) ≡ settled end (p ++ r) xs
  cleared_both end h room =
      let k = length p + length r in
      cleared_there (over (over xs 0 p) (length p) r) k (end - k) (le-leb (k + (end - k)) (length (over (over xs 0 p) (length p) r)) (omega (arith, length_both)))
      ∙ settled_over end k (over (over xs 0 p) (length p) r) h (omega (arith, length_both))
      ∙ ap (λ (z : List ℕ). settled end z (over (over xs 0 p) (length p) r)) take_both
      ∙ ap (λ (z : List ℕ). (p ++ r) ++ (replicate (end - length (p ++ r)) 0 ++ z)) (drop_both end h)

-- gathering two parts that are all there, the right one not below where the left one goes
pub gathered_is : (xs : List ℕ) (left a right b end : ℕ) → left + a ≤ end → right + b ≤ end → a ≤ right → a + b ≤ end → end ≤ length xs → gathered xs left a right b end ≡ settled end (part xs left a ++ part xs right b) xs
unfolding gathered
gathered_is xs left a right b end left_in right_in apart both room =
    cond-true (leb (a + b) end) _ xs (le-leb (a + b) end both)
    ∙ ap (λ (z : List ℕ). cleared (moved z right b a) (a + b) (end - (a + b))) (moved_there xs left a 0 (le-leb (left + a) (length xs) (omega arith)) (le-leb (0 + a) (length xs) (omega arith)))
    ∙ ap (λ (z : List ℕ). cleared z (a + b) (end - (a + b))) step
    ∙ ap₂ (λ (i j : ℕ). cleared (over (over xs 0 (part xs left a)) i (part xs right b)) (i + j) (end - (i + j))) (sym la) (sym lb)
    ∙ cleared_both xs (part xs left a) (part xs right b) (omega (arith, la, lb)) end (omega (arith, la, lb)) room
  where
    la : length (part xs left a) ≡ a
    la = simp (length-take, length-drop) (omega arith)

    lb : length (part xs right b) ≡ b
    lb = simp (length-take, length-drop) (omega arith)

    first_fits : 0 + length (part xs left a) ≤ length xs
    first_fits = omega (arith, la)

    same_length : length (over xs 0 (part xs left a)) ≡ length xs
    same_length = length_over xs 0 (part xs left a) first_fits

    step : moved (over xs 0 (part xs left a)) right b a ≡ over (over xs 0 (part xs left a)) a (part xs right b)
    step =
        moved_there (over xs 0 (part xs left a)) right b a (le-leb (right + b) (length (over xs 0 (part xs left a))) (omega (arith, same_length))) (le-leb (a + b) (length (over xs 0 (part xs left a))) (omega (arith, same_length)))
        ∙ ap (over (over xs 0 (part xs left a)) a) (part_above xs 0 (part xs left a) first_fits right b (omega (arith, la)))

-- only the longer, later one is left of two writes at one place
pub over_again : (xs : List ℕ) (a : ℕ) (ys zs : List ℕ) → a + length zs ≤ length xs → length ys ≤ length zs → over (over xs a ys) a zs ≡ over xs a zs
over_again xs a ys zs fits longer =
    let inside : a + length ys ≤ length xs = omega arith in
    ap₂ (λ (f r : List ℕ). f ++ (zs ++ r)) (take_over_below xs a ys inside a (omega arith)) (drop_over_above xs a ys inside (a + length zs) (omega arith))

-- a result in a working part that it is handed whole
pub settled_part : (w n : ℕ) (result xs : List ℕ) → length xs ≡ w → length result ≡ n → settled w result xs ≡ result ++ replicate (w - n) 0
settled_part w n result xs e f =
    ap₂ (λ (k : ℕ) (r : List ℕ). result ++ (replicate (w - k) 0 ++ r)) f (drop_all w xs (omega arith)) ∙ ap (λ (r : List ℕ). result ++ r) (append-nil (replicate (w - n) 0))

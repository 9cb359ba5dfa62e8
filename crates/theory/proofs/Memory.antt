-- Laws of lent memory. Assumes nothing.
use Rattle.std.proofs.Common.{◌≡◌, ℕ, suc, ◌+◌, ◌-◌, ◌≤◌, true, false, ◌&&◌, leb, List, ◌∷◌, ◌++◌, length, take, drop, set, replicate, sym, ap, ◌∙◌, append_assoc, arith, length-append, length-drop, length-take}
use native.Mathlib.Nat.{sub-zero}
use borrow.Rule.Slice.PartMut.{put_mid, post_of}
use lib.ListN.{length-replicate}
use lib.Seq.{paste}
use Rattle.std.proofs.lemmas.List.{take_at, drop_at, drop-drop, length-take-le, take-append-drop, take-replicate, drop-replicate, replicate-append-replicate, set-append_left, set_split}
use Rattle.std.proofs.lemmas.Bool.{cond-true, cond-false, and_from, and_left, and_right, le-leb}
use Rattle.theory.specs.Memory.{over, settled, moved, cleared, copied}

module _ (w : ℕ) (result xs : List ℕ) (fits : length result ≤ w) where
  settled_front : settled w result xs ≡ (result ++ replicate (w - length result) 0) ++ drop w xs
  settled_front = sym (append_assoc result (replicate (w - length result) 0) (drop w xs))

  length_front : length (result ++ replicate (w - length result) 0) ≡ w
  length_front = simp (length-append, length-replicate) (omega arith)

  pub length_settled : w ≤ length xs → length (settled w result xs) ≡ length xs
  length_settled h = simp (length-append, length-replicate, length-drop) (omega arith)

  pub drop_settled : drop w (settled w result xs) ≡ drop w xs
  drop_settled = ap (drop w) settled_front ∙ drop_at (result ++ replicate (w - length result) 0) (drop w xs) w length_front

  -- only the later result is left of two
  pub settled_settled : (later : List ℕ) → settled w later (settled w result xs) ≡ settled w later xs
  settled_settled later = ap (λ (rest : List ℕ). later ++ (replicate (w - length later) 0 ++ rest)) drop_settled

pub take_settled : (w n : ℕ) (result xs : List ℕ) → length result ≡ n → take n (settled w result xs) ≡ result
take_settled w n result xs e = take_at result (replicate (w - length result) 0 ++ drop w xs) n e

-- a write to a lent part, as the check has it
pub put_mid_over : (a k : ℕ) (xs ys : List ℕ) → length ys ≡ k → put_mid a k xs ys ≡ over xs a ys
put_mid_over a k xs ys e =
    ap (λ (z : List ℕ). take a xs ++ (ys ++ z)) (drop-drop k a xs ∙ ap (λ (m : ℕ). drop (a + m) xs) (sym e))

pub paste_over : (a k : ℕ) (xs ys : List ℕ) → k ≤ length ys → paste xs a ys k ≡ over xs a (take k ys)
paste_over a k xs ys h =
    append_assoc (take a xs) (take k ys) (drop (a + k) xs) ∙ ap (λ (m : ℕ). take a xs ++ (take k ys ++ drop (a + m) xs)) (sym (length-take-le k ys h))

-- the three ways of writing into lent memory, where the ranges are there and where one is not
module _ (xs : List ℕ) (from count to : ℕ) where
  pub moved_there : leb (from + count) (length xs) ≡ true → leb (to + count) (length xs) ≡ true → moved xs from count to ≡ over xs to (take count (drop from xs))
  unfolding moved
  moved_there f t = cond-true (leb (from + count) (length xs) && leb (to + count) (length xs)) _ xs (and_from _ _ f t)

  pub moved_no_source : leb (from + count) (length xs) ≡ false → moved xs from count to ≡ xs
  unfolding moved
  moved_no_source f = cond-false (leb (from + count) (length xs) && leb (to + count) (length xs)) _ xs (and_left _ _ f)

  pub moved_no_target : leb (to + count) (length xs) ≡ false → moved xs from count to ≡ xs
  unfolding moved
  moved_no_target t = cond-false (leb (from + count) (length xs) && leb (to + count) (length xs)) _ xs (and_right _ _ t)

module _ (xs : List ℕ) (to : ℕ) (ys : List ℕ) (from count : ℕ) where
  pub copied_there : leb (from + count) (length ys) ≡ true → leb (to + count) (length xs) ≡ true → copied xs to ys from count ≡ over xs to (take count (drop from ys))
  unfolding copied
  copied_there f t = cond-true (leb (from + count) (length ys) && leb (to + count) (length xs)) _ xs (and_from _ _ f t)

  pub copied_no_source : leb (from + count) (length ys) ≡ false → copied xs to ys from count ≡ xs
  unfolding copied
  copied_no_source f = cond-false (leb (from + count) (length ys) && leb (to + count) (length xs)) _ xs (and_left _ _ f)

  pub copied_no_target : leb (to + count) (length xs) ≡ false → copied xs to ys from count ≡ xs
  unfolding copied
  copied_no_target t = cond-false (leb (from + count) (length ys) && leb (to + count) (length xs)) _ xs (and_right _ _ t)

module _ (xs : List ℕ) (from count : ℕ) where
  pub cleared_there : leb (from + count) (length xs) ≡ true → cleared xs from count ≡ over xs from (replicate count 0)
  unfolding cleared
  cleared_there f = cond-true (leb (from + count) (length xs)) _ xs f

  pub cleared_not : leb (from + count) (length xs) ≡ false → cleared xs from count ≡ xs
  unfolding cleared
  cleared_not f = cond-false (leb (from + count) (length xs)) _ xs f

-- what `copy_within` and a copy into a lent part leave
pub paste_range : (xs : List ℕ) (from count to : ℕ) → from + count ≤ length xs → paste xs to (drop from xs) (from + count - from) ≡ over xs to (take count (drop from xs))
paste_range xs from count to h =
    ap (λ (k : ℕ). paste xs to (drop from xs) k) (omega arith) ∙ paste_over to count xs (drop from xs) (omega (arith, length-drop from xs))

pub put_mid_range : (xs : List ℕ) (to : ℕ) (ys : List ℕ) (from count : ℕ) (part : List ℕ) → from + count ≤ length ys → part ≡ take (from + count - from) (drop from ys) → put_mid to (to + count - to) xs part ≡ over xs to (take count (drop from ys))
put_mid_range xs to ys from count part h e =
    let part-is : part ≡ take count (drop from ys) = e ∙ ap (λ (k : ℕ). take k (drop from ys)) (omega arith) in
    put_mid_over to (to + count - to) xs part (ap length part-is ∙ length-take-le count (drop from ys) (omega (arith, length-drop from ys)) ∙ omega arith)
    ∙ ap (over xs to) part-is

-- what a fill of a lent part leaves
pub put_mid_fill : (xs : List ℕ) (from count : ℕ) (part : List ℕ) (v : ℕ) → from + count ≤ length xs → part ≡ replicate (length (take (from + count - from) (drop from xs))) v → put_mid from (from + count - from) xs part ≡ over xs from (replicate count v)
put_mid_fill xs from count part v h e =
    let long : length (take (from + count - from) (drop from xs)) ≡ count = simp (length-take, length-drop) (omega arith) in
    let part-is : part ≡ replicate count v = e ∙ ap (λ (k : ℕ). replicate k v) long in
    put_mid_over from (from + count - from) xs part (ap length part-is ∙ length-replicate count v ∙ omega arith) ∙ ap (over xs from) part-is

-- a result that fills the working part is only written over it
pub settled_full : (w : ℕ) (result xs : List ℕ) → length result ≡ w → settled w result xs ≡ over xs 0 result
settled_full w result xs e =
    let none : w - length result ≡ 0 = omega arith in
    let all : w ≡ 0 + length result = omega arith in
    ap (λ (k : ℕ). result ++ (replicate k 0 ++ drop w xs)) none ∙ ap (λ (k : ℕ). result ++ drop k xs) all

-- what was found in the whole working part leaves the memory as it was
pub settled_found : (w : ℕ) (xs : List ℕ) → w ≤ length xs → settled w (take w xs) xs ≡ xs
settled_found w xs h =
    let all : 0 + length (take w xs) ≡ w = omega (arith, length-take-le w xs h) in
    settled_full w (take w xs) xs (length-take-le w xs h) ∙ ap (λ (k : ℕ). take w xs ++ drop k xs) all ∙ take-append-drop w xs

-- zeros written behind a result settle it
pub settled_over : (w k : ℕ) (xs : List ℕ) → k ≤ w → w ≤ length xs → over xs k (replicate (w - k) 0) ≡ settled w (take k xs) xs
settled_over w k xs l h =
    let rest : k + length (replicate {A = ℕ} (w - k) 0) ≡ w = omega (arith, length-replicate {A = ℕ} (w - k) 0) in
    ap (λ (j : ℕ). take k xs ++ (replicate (w - k) 0 ++ drop j xs)) rest
    ∙ ap (λ (j : ℕ). take k xs ++ (replicate (w - j) 0 ++ drop w xs)) (sym (length-take-le k xs (omega arith)))

-- the part `[0..n]`, as the check has it, and what a fill of it leaves
pub front_is : (n : ℕ) (xs : List ℕ) → take (n - 0) xs ≡ take n xs
front_is n xs = ap (λ (k : ℕ). take k xs) (sub-zero n)

pub front_fill : (xs : List ℕ) (n : ℕ) (part : List ℕ) (v : ℕ) → n ≤ length xs → part ≡ replicate (length (take (n - 0) xs)) v → part ++ post_of 0 (n - 0) xs ≡ over xs 0 (replicate n v)
front_fill xs n part v h e =
    let long : length (take (n - 0) xs) ≡ n = ap length (front_is n xs) ∙ length-take-le n xs h in
    let part-is : part ≡ replicate n v = e ∙ ap (λ (k : ℕ). replicate k v) long in
    put_mid_over 0 (n - 0) xs part (ap length part-is ∙ length-replicate n v ∙ sym (sub-zero n)) ∙ ap (over xs 0) part-is

-- zeros but for a 1 at place p, over a cleared working part
pub settled_one : (w p j : ℕ) (xs : List ℕ) → p + 1 + j ≤ w → w ≤ length xs → set (cleared xs 0 w) p 1 ≡ settled w (replicate p 0 ++ (1 ∷ replicate j 0)) xs
settled_one w p j xs fits room =
    let zeros = replicate {A = ℕ} w 0 in
    let long = length-replicate {A = ℕ} w 0 in
    let tail = 0 + length zeros in
    let all : 0 + length zeros ≡ w = omega (arith, long) in
    let later : w - suc p ≡ j + (w - (p + (1 + j))) = omega arith in
    let shape : length (replicate {A = ℕ} p 0 ++ (1 ∷ replicate j 0)) ≡ p + (1 + j) =
    simp (length-append, length-replicate) (omega (arith, length-replicate {A = ℕ} j 0)) in
    ap (λ (ys : List ℕ). set ys p 1) (cleared_there xs 0 w (le-leb (0 + w) (length xs) (omega arith)))
    ∙ set-append_left zeros (drop tail xs) p 1 (omega (arith, long))
    ∙ ap (λ (ys : List ℕ). ys ++ drop tail xs) (set_split zeros p 1 (omega (arith, long)) ∙ ap (λ (ys : List ℕ). ys ++ (1 ∷ drop (suc p) zeros)) (take-replicate p w 0 (omega arith)) ∙ ap (λ (ys : List ℕ). replicate p 0 ++ (1 ∷ ys)) (drop-replicate (suc p) w 0 ∙ ap (λ (k : ℕ). replicate k 0) later ∙ sym (replicate-append-replicate j (w - (p + (1 + j))) 0)) ∙ sym (append_assoc (replicate p 0) (1 ∷ replicate j 0) (replicate (w - (p + (1 + j))) 0)))
    ∙ append_assoc (replicate p 0 ++ (1 ∷ replicate j 0)) (replicate (w - (p + (1 + j))) 0) (drop tail xs)
    ∙ ap (λ (k : ℕ). (replicate p 0 ++ (1 ∷ replicate j 0)) ++ (replicate (w - (p + (1 + j))) 0 ++ drop k xs)) all
    ∙ ap (λ (k : ℕ). (replicate p 0 ++ (1 ∷ replicate j 0)) ++ (replicate (w - k) 0 ++ drop w xs)) (sym shape)

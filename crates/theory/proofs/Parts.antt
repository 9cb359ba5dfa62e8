-- Calls in a middle part of memory, as the check has them. Assumes nothing.
use Rattle.std.proofs.Common.{◌≡◌, ℕ, ◌+◌, ◌-◌, true, false, leb, List, [], length, take, drop, sym, ap, ◌∙◌, arith, length-drop, length-take}
use borrow.Rule.Slice.PartMut.{put_mid}
use Rattle.std.proofs.lemmas.Bool.{cond-true, cond-false, leb-true}
use Rattle.theory.specs.Calls.{Outcome, Answer, refused}
use Rattle.theory.specs.Memory.{over, moved, part}
use Rattle.theory.specs.Parts.{Call, in_part, call_in_part}
use Rattle.theory.proofs.Calls.{paired}
use Rattle.theory.proofs.Memory.{put_mid_over}

module _ (call : Call) (from count at w : ℕ) (xs : List ℕ) where
  pub part_missing : leb (at + w) (length xs) ≡ false → paired (refused 1 []) xs ≡ call_in_part call from count at w xs
  unfolding call_in_part
  part_missing e = sym (cond-false (leb (at + w) (length xs)) (in_part call at w (moved xs from count at)) (refused 1 [], xs) e)

  pub part_there : leb (at + w) (length xs) ≡ true → call_in_part call from count at w xs ≡ in_part call at w (moved xs from count at)
  unfolding call_in_part
  part_there e = cond-true (leb (at + w) (length xs)) (in_part call at w (moved xs from count at)) (refused 1 [], xs) e

  -- the call on the lent part, and what the memory holds after it
  pub part_called : leb (at + w) (length xs) ≡ true → (ys : List ℕ) → length ys ≡ length xs → ys ≡ moved xs from count at → (o : Outcome) (last : List ℕ) → length last ≡ length (take (at + w - at) (drop at ys)) → paired o last ≡ call (take (at + w - at) (drop at ys)) → paired o (put_mid at (at + w - at) ys last) ≡ call_in_part call from count at w xs
  part_called e ys same is o last long f =
      let width : at + w - at ≡ w = omega arith in
      let room = leb-true (at + w) (length xs) e in
      let size : length last ≡ at + w - at = long ∙ simp (length-take, length-drop) (omega arith) in
      let answer : paired o last ≡ call (part ys at w) = f ∙ ap (λ (k : ℕ). call (take k (drop at ys))) width in
      ap (paired o) (put_mid_over at (at + w - at) ys last size)
      ∙ ap (λ (p : Answer). paired p.0 (over ys at p.1)) answer
      ∙ ap (in_part call at w) is ∙ sym (part_there e)

-- Calls that work in a middle part of the memory.
use Rattle.std.specs.Prelude.{ℕ, ◌+◌, cond, List, [], length, nat_le}
use Rattle.theory.specs.Calls.{Answer, refused}
use Rattle.theory.specs.Memory.{over, moved, part}

-- a call of a code: from the whole memory that it is lent to the outcome and the whole memory afterwards
abbrev pub Call : Type 0
Call = List ℕ → Answer

-- the call works in the w bytes from place `at` on, and nothing else changes
abbrev pub in_part : Call → ℕ → ℕ → List ℕ → Answer
in_part call at w xs = ((call (part xs at w)).0, over xs at (call (part xs at w)).1)

-- count bytes from place `from` on are written into the part first; refused where the part is not all there
unfoldable pub call_in_part : Call → ℕ → ℕ → ℕ → ℕ → List ℕ → Answer
call_in_part call from count at w xs =
    cond (nat_le (at + w) (length xs)) (in_part call at w (moved xs from count at)) (refused 1 [], xs)

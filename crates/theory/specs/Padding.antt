-- A message of a part as one of the whole: zeros in front of it and behind it.
use Rattle.std.specs.Prelude.{ℕ, ◌+◌, ◌/◌, cond, ◌&&◌, List, [], ◌++◌, length, replicate, nat_le}
use Rattle.theory.specs.Calls.{Answer, accepted, refused}
use Rattle.theory.specs.Memory.{settled}
use Rattle.theory.specs.Meanings.{Meaning}

abbrev pub padded : ℕ → ℕ → List ℕ → List ℕ
padded before after s = replicate before 0 ++ (s ++ replicate after 0)

-- two messages, each with zeros before and after it, and zeros up to place `end`; refused where the memory, or the room up
-- to `end`, is too short for them or for the part's own showing
unfoldable pub shown_padded : Meaning → List ℕ → List ℕ → ℕ → ℕ → ℕ → List ℕ → Answer
shown_padded m s t before after end xs =
    cond (nat_le end (length xs) && (nat_le (before + (m.k + after)) (end / 2) && nat_le m.w (end / 2))) (accepted, settled end (padded before after s ++ padded before after t) xs) (refused 1 [], xs)

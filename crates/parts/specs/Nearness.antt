-- The toll of a word in two pieces, each with what was received in the same memory.
use Rattle.std.specs.Prelude.{ℕ, ◌+◌, Bool, ◌&&◌, List, length, nat_le, nat_lt}
use Rattle.parts.specs.declared.placed.Placed.{Placed}
use Rattle.theory.specs.Memory.{part}
use Rattle.theory.specs.Words.{toll}

-- memory of this length has the word and what was received
abbrev pub is_placed : ℕ → Placed → Bool
is_placed len p = nat_le (p.word + p.count) len && nat_le (p.received + p.count) len

abbrev pub placed_toll : ℕ → List ℕ → Placed → ℕ
placed_toll q xs p = toll q (part xs p.word p.count) (part xs p.received p.count)

-- both pieces are there, and have together a toll below the distance
abbrev pub both_near : ℕ → List ℕ → Placed → Placed → ℕ → Bool
both_near q xs a b distance =
    is_placed (length xs) a && (is_placed (length xs) b && nat_lt (placed_toll q xs a + placed_toll q xs b) distance)

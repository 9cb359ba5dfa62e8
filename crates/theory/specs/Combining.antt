-- Two words in memory put together place by place.
use Rattle.std.specs.Prelude.{ℕ, ◌+◌, Bool, cond, ◌&&◌, ◌||◌, List, length, nat_le}
use Rattle.theory.specs.Joins.{zipped}
use Rattle.theory.specs.Memory.{over, part}

-- count bytes from place `from` on are each read before a write that goes up from place `to` reaches them
abbrev pub readable : ℕ → ℕ → ℕ → Bool
readable from count to = nat_le to from || nat_le (from + count) to

-- all three ranges are there, and both words can be read while the third is written
abbrev pub combinable : ℕ → ℕ → ℕ → ℕ → ℕ → Bool
combinable len left right count to =
    nat_le (left + count) len && (nat_le (right + count) len && (nat_le (to + count) len && (readable left count to && readable right count to)))

-- the count bytes from place `left` on and those from place `right` on, put together and written from place `to` on;
-- unchanged where that cannot be
unfoldable pub combined : (ℕ → ℕ → ℕ) → List ℕ → ℕ → ℕ → ℕ → ℕ → List ℕ
combined f xs left right count to =
    cond (combinable (length xs) left right count to) (over xs to (zipped f (part xs left count) (part xs right count))) xs

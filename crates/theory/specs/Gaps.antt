-- Writing bytes of lent memory elsewhere with a place more, or with a place less.
use Rattle.std.specs.Prelude.{ℕ, ◌+◌, ◌-◌, Bool, cond, ◌&&◌, List, length, nat_le, nat_lt}
use Rattle.std.specs.List.{insert, remove}
use Rattle.theory.specs.Memory.{over, part, cleared}

-- in memory of so many bytes there is room to write the count bytes from place `from` on over those from place `to` on,
-- which is not below, with a place more
abbrev pub widens : ℕ → ℕ → ℕ → ℕ → ℕ → Bool
widens len from count place to = nat_le place count && (nat_le from to && nat_le (to + count + 1) len)

-- the count bytes from place `from` on, with a value put in at a place of theirs, written from place `to` on; unchanged
-- where there is no room for that
unfoldable pub widened : List ℕ → ℕ → ℕ → ℕ → ℕ → ℕ → List ℕ
widened xs from count place value to =
    cond (widens (length xs) from count place to) (over xs to (insert (part xs from count) place value)) xs

-- memory of so many bytes has the count bytes from place `from` on, to be written over those from place `to` on, which is
-- not above, with a place less
abbrev pub narrows : ℕ → ℕ → ℕ → ℕ → ℕ → Bool
narrows len from count place to = nat_lt place count && (nat_le to from && nat_le (from + count) len)

-- the count bytes from place `from` on, without a place of theirs, written from place `to` on; unchanged where they are
-- not all there
unfoldable pub narrowed : List ℕ → ℕ → ℕ → ℕ → ℕ → List ℕ
narrowed xs from count place to =
    cond (narrows (length xs) from count place to) (over xs to (remove (part xs from count) place)) xs

-- the same to the front, and zeros behind up to place `end`; unchanged where they would pass it or have no such place
unfoldable pub narrowed_to_front : List ℕ → ℕ → ℕ → ℕ → ℕ → List ℕ
narrowed_to_front xs from count place end =
    cond (nat_lt place count && nat_le count end) (cleared (narrowed xs from count place 0) (count - 1) (end - (count - 1))) xs

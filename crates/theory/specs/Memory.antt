-- Lists of bytes as lent memory: what is written, and what stays.
use Rattle.std.specs.Prelude.{ℕ, ◌+◌, ◌-◌, cond, ◌&&◌, List, ◌++◌, length, take, drop, replicate, nat_le}

-- xs with ys written from place a on
abbrev pub over : List ℕ → ℕ → List ℕ → List ℕ
over xs a ys = take a xs ++ (ys ++ drop (a + length ys) xs)

-- k bytes from place a on
abbrev pub part : List ℕ → ℕ → ℕ → List ℕ
part xs a k = take k (drop a xs)

-- the result in front, zeros behind it up to place w, and from there on what was there before
abbrev pub settled : ℕ → List ℕ → List ℕ → List ℕ
settled w result xs = result ++ (replicate (w - length result) 0 ++ drop w xs)

-- count bytes from place `from` on, written from place `to` on; unchanged where either range is not all there
unfoldable pub moved : List ℕ → ℕ → ℕ → ℕ → List ℕ
moved xs from count to =
    cond (nat_le (from + count) (length xs) && nat_le (to + count) (length xs)) (over xs to (take count (drop from xs))) xs

-- count zeros from place `from` on; unchanged where that range is not all there
unfoldable pub cleared : List ℕ → ℕ → ℕ → List ℕ
cleared xs from count = cond (nat_le (from + count) (length xs)) (over xs from (replicate count 0)) xs

-- count bytes of ys from place `from` on, written into xs from place `to` on; unchanged where either range is not all there
unfoldable pub copied : List ℕ → ℕ → List ℕ → ℕ → ℕ → List ℕ
copied xs to ys from count =
    cond (nat_le (from + count) (length ys) && nat_le (to + count) (length xs)) (over xs to (take count (drop from ys))) xs

-- a bytes from place `left` on and b bytes from place `right` on, one after the other in front, and zeros behind them up to
-- place `end`; unchanged where they would pass it
unfoldable pub gathered : List ℕ → ℕ → ℕ → ℕ → ℕ → ℕ → List ℕ
gathered xs left a right b end =
    cond (nat_le (a + b) end) (cleared (moved (moved xs left a 0) right b a) (a + b) (end - (a + b))) xs

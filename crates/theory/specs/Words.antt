-- Words: lists of symbols, the places in which two of them differ, and the toll of a word against what was received.
use Rattle.std.specs.Prelude.{◌≡◌, ℕ, ◌+◌, ◌*◌, ◌<◌, cond, List, [], ◌∷◌, length, ◌==◌, nat_lt}
use Rattle.std.specs.List.{AllByRecursion}

-- xs is a list of n symbols of an alphabet of q
pub record Symbols (q n : ℕ) (xs : List ℕ) : Type 0 where
  pub long : length xs ≡ n
  pub each : AllByRecursion (λ x. x < q) xs

-- in how many places two words differ (the Hamming distance)
abbrev pub differ : List ℕ → List ℕ → ℕ
differ [] ys = 0
differ (x ∷ xs) [] = 0
differ (x ∷ xs) (y ∷ ys) = cond (x == y) 0 1 + differ xs ys

-- how many of the received places are marked
abbrev pub marked : ℕ → List ℕ → ℕ
marked q [] = 0
marked q (r ∷ rs) = cond (nat_lt r q) 0 1 + marked q rs

-- how many of the received places are wrong for a word: unmarked, and another symbol than the word's
abbrev pub wrong : ℕ → List ℕ → List ℕ → ℕ
wrong q [] rs = 0
wrong q (x ∷ xs) [] = 0
wrong q (x ∷ xs) (r ∷ rs) = cond (nat_lt r q) (cond (x == r) 0 1) 0 + wrong q xs rs

-- twice the wrong places (errors) and once the marked ones (erasures)
abbrev pub toll : ℕ → List ℕ → List ℕ → ℕ
toll q word received = 2 * wrong q word received + marked q received

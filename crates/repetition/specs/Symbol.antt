-- The symbol of which a received word still tells.
use Rattle.std.specs.Prelude.{ℕ, ◌<◌, ◌≤◌, List, length, replicate, Some, None, Option}
use Rattle.theory.specs.Words.{toll}

-- a symbol whose copies have a toll below their number, or none where no symbol's have
abbrev pub TellsSymbol : ℕ → List ℕ → Option ℕ → Type 0
TellsSymbol q rs None = (x : ℕ) → x < q → length rs ≤ toll q (replicate (length rs) x) rs
TellsSymbol q rs (Some x) = (x < q) × (toll q (replicate (length rs) x) rs < length rs)

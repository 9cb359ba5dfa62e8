use Rattle.std.proofs.Common.{ℕ, ◌<◌, ◌≤◌, length, replicate}
use Rattle.theory.specs.Words.{toll}
use Rattle.repetition.proofs.symbol_in_reach.Given as goal

-- the copies of no symbol so far are near enough
abbrev pub invariant-loop-symbol : goal.invariant-loop-symbol
invariant-loop-symbol g l = (x : ℕ) → x < l.symbol → length l.received ≤ toll g.S.Alphabet.symbols.q (replicate (length l.received) x) l.received

use Rattle.std.proofs.Common.{ℕ, ◌<◌, ◌≤◌, ◌++◌}
use Rattle.theory.specs.Levels.{digits}
use Rattle.theory.specs.Words.{toll}
use Rattle.systematic.proofs.word_in_reach.Given as goal

-- no message so far is in reach
abbrev pub invariant-loop-index : goal.invariant-loop-index
invariant-loop-index g l =
    let q = g.C.Symbols.Alphabet.symbols.q in
    (i : ℕ) → i < l.index → g.C.Systematic.DISTANCE ≤ toll q (digits q g.row.K i ++ g.C.Systematic.checks (digits q g.row.K i)) l.received

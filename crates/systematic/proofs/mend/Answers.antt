use Rattle.std.proofs.Common.{ℕ, List, [], ◌++◌, drop, sym, ap, ◌∙◌}
use Rattle.std.proofs.lemmas.List.{take-append-drop}
use Rattle.theory.specs.Calls.{refused}
use Rattle.theory.specs.Reach.{word_in_reach}
use Rattle.theory.proofs.Calls.{mended_short, paired}
use Rattle.theory.proofs.SystematicCalls.{mend_word_lem, mend_none}
use Rattle.systematic.specs.Systematic.{meaning_of}
use Rattle.systematic.proofs.mend.Goals as goal

pub returns-in_default : goal.returns-in_default
returns-in_default g c =
    sym (mended_short g.C.Symbols.Alphabet.symbols (meaning_of g.row.N g.row.K g.C.Systematic.DISTANCE g.C.Systematic.checks) c.args.memory.now c.in_default.ensures.cases)

pub returns-in_default-word_in_reach : goal.returns-in_default-word_in_reach
returns-in_default-word_in_reach g c =
    let A = g.C.Symbols.Alphabet.symbols in
    let chunk = c.in-Some.ensures.cases in
    ap (λ (ys : List ℕ). paired (refused 3 []) (ys ++ drop g.row.N c.args.memory.now)) chunk.same
    ∙ ap (paired (refused 3 [])) (take-append-drop g.row.N c.args.memory.now)
    ∙ mend_none A g.row.N g.row.K g.C.Systematic.DISTANCE g.C.Systematic.checks g.met.C.Systematic.keeps c.args.memory.now chunk.enough
    (c.in_default-word_in_reach.ensures ∙ ap (word_in_reach A (meaning_of g.row.N g.row.K g.C.Systematic.DISTANCE g.C.Systematic.checks)) chunk.same)

pub returns : goal.returns
returns g c =
    let A = g.C.Symbols.Alphabet.symbols in
    let chunk = c.in-Some.ensures.cases in
    mend_word_lem A g.row.N g.row.K g.C.Systematic.DISTANCE g.C.Systematic.checks g.met.C.Systematic.keeps c.args.memory.now chunk.enough c.in-Some-word_in_reach.word
    (c.in-Some-word_in_reach.ensures ∙ ap (word_in_reach A (meaning_of g.row.N g.row.K g.C.Systematic.DISTANCE g.C.Systematic.checks)) chunk.same)

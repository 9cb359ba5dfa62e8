use Rattle.std.proofs.Common.{ℕ, List, [], ◌∷◌, ◌++◌, drop, sym, ap, ◌∙◌}
use Rattle.std.proofs.lemmas.List.{take-append-drop}
use Rattle.theory.specs.Calls.{refused, first_mark}
use Rattle.theory.proofs.Calls.{sent_short, paired}
use Rattle.theory.proofs.SystematicCalls.{send_mark, send_word}
use Rattle.systematic.specs.Systematic.{meaning_of}
use Rattle.systematic.proofs.Fronts.{front_of_front}
use Rattle.systematic.proofs.send.Goals as goal

pub returns-in_default : goal.returns-in_default
returns-in_default g c =
    sym (sent_short g.C.Symbols.Alphabet.symbols (meaning_of g.row.N g.row.K g.C.Systematic.DISTANCE g.C.Systematic.checks) c.args.memory.now c.in_default.ensures.cases)

pub returns-in-Some-first_mark : goal.returns-in-Some-first_mark
returns-in-Some-first_mark g c =
    let A = g.C.Symbols.Alphabet.symbols in
    let xs = c.args.memory.now in
    let word = c.in-Some.ensures.cases in
    let is = front_of_front g.row.K g.row.N c.in-Some-first_chunk.message.now c.in-Some.word.now xs g.met.C.Systematic.keeps.room_for_message c.in-Some-first_chunk.ensures.cases.same word.same in
    ap (λ (ys : List ℕ). paired (refused 2 (c.in-Some-first_mark.place ∷ [])) (ys ++ drop g.row.N xs)) word.same
    ∙ ap (paired (refused 2 (c.in-Some-first_mark.place ∷ []))) (take-append-drop g.row.N xs)
    ∙ send_mark A g.row.N g.row.K g.C.Systematic.DISTANCE g.C.Systematic.checks g.met.C.Systematic.keeps xs word.enough c.in-Some-first_mark.place (sym (c.in-Some-first_mark.ensures ∙ ap (first_mark A.q) is))

pub returns : goal.returns
returns g c =
    let A = g.C.Symbols.Alphabet.symbols in
    let xs = c.args.memory.now in
    let word = c.in-Some.ensures.cases in
    let is = front_of_front g.row.K g.row.N c.in-Some-first_chunk.message.now c.in-Some.word.now xs g.met.C.Systematic.keeps.room_for_message c.in-Some-first_chunk.ensures.cases.same word.same in
    send_word A g.row.N g.row.K g.C.Systematic.DISTANCE g.C.Systematic.checks g.met.C.Systematic.keeps xs word.enough (sym (c.in_default-first_mark.ensures ∙ ap (first_mark A.q) is)) c.word.result
    (c.word.ensures ∙ ap (λ (s : List ℕ). s ++ g.C.Systematic.checks s) is)

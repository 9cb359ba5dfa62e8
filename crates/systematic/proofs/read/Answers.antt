use Rattle.std.proofs.Common.{ℕ, List, ◌+◌, ◌*◌, ◌++◌, length, take, sym, ap, ◌∙◌, arith}
use Rattle.std.proofs.lemmas.Bool.{ltb-true, ltb-false}
use Rattle.theory.specs.Calls.{accepted}
use Rattle.theory.specs.Words.{wrong, marked}
use Rattle.theory.proofs.Calls.{read_short, paired}
use Rattle.theory.proofs.SystematicCalls.{read_message, read_other}
use Rattle.systematic.specs.Systematic.{meaning_of}
use Rattle.systematic.proofs.Fronts.{front_of_front}
use Rattle.systematic.proofs.read.Goals as goal

pub returns-in_default : goal.returns-in_default
returns-in_default g c =
    sym (read_short g.C.Symbols.Alphabet.symbols (meaning_of g.row.N g.row.K g.C.Systematic.DISTANCE g.C.Systematic.checks) c.args.memory.now c.in_default.ensures.cases)

pub returns-then-not-toll_below : goal.returns-then-not-toll_below
returns-then-not-toll_below g c =
    let A = g.C.Symbols.Alphabet.symbols in
    let xs = c.args.memory.now in
    let word = c.word-word.result in
    let found = c.in-Some.ensures.cases in
    let is = front_of_front g.row.K g.row.N c.in-Some-first_chunk.message.now c.in-Some.found.now xs g.met.C.Systematic.keeps.room_for_message c.in-Some-first_chunk.ensures.cases.same found.same in
    read_other A g.row.N g.row.K g.C.Systematic.DISTANCE g.C.Systematic.checks g.met.C.Systematic.keeps xs found.enough word (c.word-word.ensures ∙ ap (λ (s : List ℕ). s ++ g.C.Systematic.checks s) is) c.word-word.type_inv.1.1.0.1
    (omega (arith, ltb-false _ _ (sym c.if-not-toll_below.ensures), c.damage_between.ensures.errors, c.damage_between.ensures.erasures, ap (λ (ys : List ℕ). 2 * wrong A.q word ys + marked A.q (take (length word) ys)) found.same))

pub returns : goal.returns
returns g c =
    let A = g.C.Symbols.Alphabet.symbols in
    let xs = c.args.memory.now in
    let word = c.word-word.result in
    let found = c.in-Some.ensures.cases in
    let is = front_of_front g.row.K g.row.N c.in-Some-first_chunk.message.now c.in-Some.found.now xs g.met.C.Systematic.keeps.room_for_message c.in-Some-first_chunk.ensures.cases.same found.same in
    ap (paired accepted) c.clear.ensures
    ∙ read_message A g.row.N g.row.K g.C.Systematic.DISTANCE g.C.Systematic.checks g.met.C.Systematic.keeps xs found.enough word (c.word-word.ensures ∙ ap (λ (s : List ℕ). s ++ g.C.Systematic.checks s) is) c.word-word.type_inv.1.1.0.1
    (omega (arith, ltb-true _ _ (sym c.if-not-toll_below.ensures), c.damage_between.ensures.errors, c.damage_between.ensures.erasures, ap (λ (ys : List ℕ). 2 * wrong A.q word ys + marked A.q (take (length word) ys)) found.same))

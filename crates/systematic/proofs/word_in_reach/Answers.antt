use Rattle.std.proofs.Common.{sym, ap, ◌∙◌, arith, below_more}
use Rattle.std.proofs.lemmas.Bool.{ltb-true, ltb-false}
use Rattle.theory.proofs.Search.{damage_of, search_finds, search_fails}
use Rattle.systematic.specs.Systematic.{meaning_of}
use Rattle.systematic.proofs.word_in_reach.Goals as goal

pub loop-index-init : goal.loop-index-init
loop-index-init g c i below = absurd (omega arith)

pub returns-then-toll_below : goal.returns-then-toll_below
returns-then-toll_below g c =
    let m = meaning_of g.row.N g.row.K g.C.Systematic.DISTANCE g.C.Systematic.checks in
    search_finds g.C.Symbols.Alphabet.symbols g.met.C.Symbols.Alphabet.lawful m g.met.C.Systematic.keeps c.args.received.now c.told-received c.loop-index.index c.word-word.result (c.word-word.ensures ∙ ap m.word c.message.ensures)
    (omega (arith, ltb-true _ _ (sym c.if-toll_below.ensures), c.damage_between.ensures.errors, c.damage_between.ensures.erasures, c.DISTANCE.ensures))

pub loop-index-preserved : goal.loop-index-preserved
loop-index-preserved g c =
    let m = meaning_of g.row.N g.row.K g.C.Systematic.DISTANCE g.C.Systematic.checks in
    below_more _ _ c.loop-index.invariant
    (omega (arith, ltb-false _ _ (sym c.if-toll_below.ensures), c.damage_between.ensures.errors, c.damage_between.ensures.erasures, c.DISTANCE.ensures, damage_of g.C.Symbols.Alphabet.symbols g.met.C.Symbols.Alphabet.lawful m g.met.C.Systematic.keeps c.args.received.now c.told-received c.loop-index.index c.word-word.result (c.word-word.ensures ∙ ap m.word c.message.ensures)))

pub returns : goal.returns
returns g c =
    search_fails g.C.Symbols.Alphabet.symbols g.met.C.Symbols.Alphabet.lawful (meaning_of g.row.N g.row.K g.C.Systematic.DISTANCE g.C.Systematic.checks) g.met.C.Systematic.keeps c.args.received.now c.told-received g.C.Systematic.MESSAGES g.met.C.Systematic.all (λ i below. c.loop-index.invariant i (omega (arith, c.loop-index-test.false, c.MESSAGES-index-end.ensures)))

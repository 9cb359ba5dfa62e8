use Rattle.std.proofs.Common.{Err, sym, ap, ◌∙◌}
use Rattle.std.proofs.lemmas.Result.{err_from_is_err_and}
use Rattle.cues.specs.Refusals.{store_outcome}
use Rattle.cues.proofs.Outcomes.{err_is_refused}
use Rattle.cues.proofs.Sizes.{fit_store, still_enough}
use Rattle.cues.proofs.WordMends.{MendedWord, mend_leaves}
use Rattle.cues.proofs.WordReads.{reach_all, reach_more, reach_ends}
use Rattle.cues.proofs.store.Store.mend_words.Goals as goal

pub returns-in_err-mend_word : goal.returns-in_err-mend_word
returns-in_err-mend_word g c h =
    let w : MendedWord (fit_store g.met.C.Symbols.Alphabet.lawful (g.met.C.Code.keeps c.args.self.now.code h) (c.args.self.now.fits h)) c.args.cue c.loop-word.word c.args.cells.now c.loop-word.memory (store_outcome c.mend_word.result) c.mend_word.new.memory = record { inside = c.loop-word-test.true; enough = still_enough c.requires c.loop-word.auto.memory; mends = c.mend_word.ensures h } in
    let before = c.loop-word.invariant h in
    let p = err_from_is_err_and c.from_residual.result c.from_residual.ensures.1 in
    record {
      answers = ap store_outcome (p.1 ∙ ap Err p.2) ∙ sym (ap store_outcome c.in_err-mend_word.was) ∙ reach_ends w (err_is_refused c.mend_word.result c.in_err-mend_word.field-0.0 c.in_err-mend_word.was) before.0;
      rest = mend_leaves w ∙ before.1;
    }

pub loop-word-preserved : goal.loop-word-preserved
loop-word-preserved g c h =
    let w : MendedWord (fit_store g.met.C.Symbols.Alphabet.lawful (g.met.C.Code.keeps c.args.self.now.code h) (c.args.self.now.fits h)) c.args.cue c.loop-word.word c.args.cells.now c.loop-word.memory (store_outcome c.mend_word.result) c.mend_word.new.memory = record { inside = c.loop-word-test.true; enough = still_enough c.requires c.loop-word.auto.memory; mends = c.mend_word.ensures h } in
    let before = c.loop-word.invariant h in
    (reach_more w (ap store_outcome c.in_ok-mend_word.was) before.0, mend_leaves w ∙ before.1)

pub returns : goal.returns
returns g c h =
    let fit = fit_store g.met.C.Symbols.Alphabet.lawful (g.met.C.Code.keeps c.args.self.now.code h) (c.args.self.now.fits h) in
    let before = c.loop-word.invariant h in
    record { answers = reach_all fit c.args.cue c.args.cells.now c.loop-word.word c.loop-word-test.false before.0; rest = before.1 }

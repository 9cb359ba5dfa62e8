use Rattle.std.proofs.Common.{ℕ, sym, ap, ◌∙◌, arith}
use Rattle.std.proofs.lemmas.Slice.Eq.{slice_eq-Decides}
use Rattle.std.proofs.lemmas.Bool.Decides.{Decides-eqb}
use Rattle.theory.specs.Memory.{copied}
use Rattle.cues.specs.Refusals.{store_outcome}
use Rattle.cues.proofs.Outcomes.{err_refuses, ok_accepts}
use Rattle.cues.proofs.Sizes.{fit_store, compared}
use Rattle.cues.proofs.WordMends.{MendedWord, touched_beyond, touched_mended}
use Rattle.cues.proofs.store.Store.touch_word.Goals as goal

pub returns-then-is_err : goal.returns-then-is_err
returns-then-is_err g c =
    record {
      small = (omega arith, omega arith);
      answer = λ h.
          let w : MendedWord (fit_store g.met.C.Symbols.Alphabet.lawful (g.met.C.Code.keeps c.args.self.now.code h) (c.args.self.now.fits h)) c.args.cue c.args.word c.args.cells.now c.args.memory.now (store_outcome c.mend_word.result) c.mend_word.new.memory = record { inside = c.requires.there; enough = c.requires.enough; mends = c.mend_word.ensures h } in
          touched_beyond w (err_refuses c.mend_word.result (sym c.is_err.ensures.value ∙ c.if-is_err.true));
    }

pub returns-clause-answer : goal.returns-clause-answer
returns-clause-answer g c h =
    let w : MendedWord (fit_store g.met.C.Symbols.Alphabet.lawful (g.met.C.Code.keeps c.args.self.now.code h) (c.args.self.now.fits h)) c.args.cue c.args.word c.args.cells.now c.args.memory.now (store_outcome c.mend_word.result) c.mend_word.new.memory = record { inside = c.requires.there; enough = c.requires.enough; mends = c.mend_word.ensures h } in
    let length = c.args.self.now.shape.numbers.length in
    touched_mended w (ok_accepts c.mend_word.result (sym c.is_err.ensures.value ∙ c.if-is_err.false)) c.eq-same.result (compared (c.args.self.now.fits h) c.args.cue c.args.word c.word_start-start.result c.word_start-start.ensures c.mend_word.new.memory c.args.cells.now c.eq-same.result (slice_eq-Decides Decides-eqb _ _ _ c.eq-same.ensures)) c.from.result c.from.ensures c.copy_between.new.memory (c.copy_between.ensures ∙ ap (λ (a : ℕ). copied c.args.cells.now a c.mend_word.new.memory 0 length) c.word_start-start.ensures)

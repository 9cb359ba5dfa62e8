use Rattle.std.proofs.Common.{ap, ◌∙◌}
use Rattle.codes.specs.Refusals.{outcome}
use Rattle.store_theory.specs.Calls.{fault_of_code}
use Rattle.cues.specs.Refusals.{store_outcome}
use Rattle.cues.proofs.Outcomes.{err_is_refused}
use Rattle.cues.proofs.Sizes.{fit_store}
use Rattle.cues.proofs.WordMends.{MendedWord}
use Rattle.cues.proofs.WordReads.{mend_accepts, word_read_back}
use Rattle.cues.proofs.store.Store.read_word.Goals as goal

pub returns-in_err-mend_word : goal.returns-in_err-mend_word
returns-in_err-mend_word g c h reached =
    let w : MendedWord (fit_store g.met.C.Symbols.Alphabet.lawful (g.met.C.Code.keeps c.args.self.now.code h) (c.args.self.now.fits h)) c.args.cue c.args.word c.args.cells.now c.args.memory.now (store_outcome c.mend_word.result) c.mend_word.new.memory = record { inside = c.requires.there; enough = c.requires.enough; mends = c.mend_word.ensures h } in
    absurd (err_is_refused c.mend_word.result c.in_err-mend_word.field-0.0 c.in_err-mend_word.was (mend_accepts w reached))

pub returns : goal.returns
returns g c h reached =
    let w : MendedWord (fit_store g.met.C.Symbols.Alphabet.lawful (g.met.C.Code.keeps c.args.self.now.code h) (c.args.self.now.fits h)) c.args.cue c.args.word c.args.cells.now c.args.memory.now (store_outcome c.mend_word.result) c.mend_word.new.memory = record { inside = c.requires.there; enough = c.requires.enough; mends = c.mend_word.ensures h } in
    let back = word_read_back w reached c.read.new.memory (outcome c.read.result) (c.read.ensures h) in
    record { accepts = c.of_word.ensures ∙ ap (fault_of_code c.args.cue c.args.word) back.accepts; message = back.message; rest = back.rest }

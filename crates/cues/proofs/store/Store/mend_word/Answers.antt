use Rattle.std.proofs.Common.{ℕ, ap, ◌∙◌}
use Rattle.codes.specs.Refusals.{outcome}
use Rattle.theory.specs.Memory.{copied}
use Rattle.theory.proofs.Calls.{paired}
use Rattle.cues.proofs.Sizes.{fit_store}
use Rattle.cues.proofs.WordMends.{mended_copy_lem}
use Rattle.cues.proofs.store.Store.mend_word.Goals as goal

pub returns : goal.returns
returns g c h =
    let length = c.args.self.now.shape.numbers.length in
    ap (λ o. paired o c.mend.new.memory) c.of_word.ensures
    ∙ mended_copy_lem (fit_store g.met.C.Symbols.Alphabet.lawful (g.met.C.Code.keeps c.args.self.now.code h) (c.args.self.now.fits h)) c.args.cue c.args.cells.now c.args.memory.now c.requires.enough c.args.word c.requires.there c.copy_between.new.memory c.mend.new.memory (outcome c.mend.result) (c.copy_between.ensures ∙ ap (λ (a : ℕ). copied c.args.memory.now 0 c.args.cells.now a length) c.word_start-start.ensures) (c.mend.ensures h)

use Rattle.std.proofs.Common.{refl, ◌∙◌}
use Rattle.cues.proofs.Sizes.{fit_store}
use Rattle.cues.proofs.WordWrites.{memory_cleared, words_more, words_all}
use Rattle.cues.proofs.store.Store.write_words.Goals as goal

pub loop-word-preserved : goal.loop-word-preserved
loop-word-preserved g c h =
    let fit = fit_store g.met.C.Symbols.Alphabet.lawful (g.met.C.Code.keeps c.args.self.now.code h) (c.args.self.now.fits h) in
    let before = c.loop-word.invariant h in
    let wrote = c.write_word.ensures h in
    (words_more fit c.args.cells.now c.args.memory.now c.requires.enough c.args.levels.now c.requires.fewer c.loop-word-test.true before.0 wrote.written, wrote.rest ∙ before.1)

pub returns : goal.returns
returns g c h =
    let fit = fit_store g.met.C.Symbols.Alphabet.lawful (g.met.C.Code.keeps c.args.self.now.code h) (c.args.self.now.fits h) in
    let before = c.loop-word.invariant h in
    record {
      accepts = refl;
      written = words_all fit c.args.cells.now c.args.memory.now c.requires.enough c.args.levels.now c.requires.fewer c.loop-word-test.false before.0;
      cleared = c.clear.ensures ∙ memory_cleared fit c.args.memory.now c.loop-word.memory c.requires.enough c.loop-word.auto.memory before.1;
    }

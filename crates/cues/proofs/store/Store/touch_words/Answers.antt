use Rattle.std.proofs.Common.{refl, ◌∙◌, arith}
use Rattle.store_theory.specs.Calls.{changes, is_beyond_reach}
use Rattle.cues.proofs.Sizes.{fit_store}
use Rattle.cues.proofs.WordMends.{touch_none, touch_more, touch_all, counts_more, counts_all}
use Rattle.cues.proofs.WordWrites.{memory_cleared}
use Rattle.cues.proofs.store.Store.touch_words.Goals as goal

pub loop-word-init : goal.loop-word-init
loop-word-init g c =
    (omega arith, omega arith, λ h. let fit = fit_store g.met.C.Symbols.Alphabet.lawful (g.met.C.Code.keeps c.args.self.now.code h) (c.args.self.now.fits h) in (refl, refl, touch_none fit c.args.cells.now c.requires, refl))

pub loop-word-preserved : goal.loop-word-preserved
loop-word-preserved g c =
    let A = g.C.Symbols.Alphabet.symbols in
    let m = g.C.Code.meaning c.args.self.now.code in (
      omega (arith, c.loop-word.invariant.0, c.touch_word-touched.ensures.small.0),
      omega (arith, c.loop-word.invariant.1, c.touch_word-touched.ensures.small.1),
      λ h.
          let fit = fit_store g.met.C.Symbols.Alphabet.lawful (g.met.C.Code.keeps c.args.self.now.code h) (c.args.self.now.fits h) in
          let before = c.loop-word.invariant.2 h in
          let one = c.touch_word-touched.ensures.answer h in (
            counts_more fit c.args.cells.now c.requires c.loop-word-test.true before.2 (changes A m) c.loop-word.changed c.touch_word-touched.result.changed before.0 one.changes_one,
            counts_more fit c.args.cells.now c.requires c.loop-word-test.true before.2 (is_beyond_reach A m) c.loop-word.beyond_reach c.touch_word-touched.result.beyond_reach before.1 one.beyond_one,
            touch_more fit c.args.cells.now c.requires c.loop-word-test.true before.2 c.touch_word-touched.new.cells one.written,
            one.rest ∙ before.3,
          ),
    )

pub returns : goal.returns
returns g c h =
    let fit = fit_store g.met.C.Symbols.Alphabet.lawful (g.met.C.Code.keeps c.args.self.now.code h) (c.args.self.now.fits h) in
    let A = g.C.Symbols.Alphabet.symbols in
    let m = g.C.Code.meaning c.args.self.now.code in
    let before = c.loop-word.invariant.2 h in
    record {
      changes_all = counts_all fit c.args.cells.now c.requires (changes A m) c.loop-word.word c.loop-word.changed c.loop-word-test.false before.0;
      beyond_all = counts_all fit c.args.cells.now c.requires (is_beyond_reach A m) c.loop-word.word c.loop-word.beyond_reach c.loop-word-test.false before.1;
      written = touch_all fit c.args.cells.now c.requires c.loop-word.word c.loop-word-test.false c.loop-word.cells before.2;
      cleared = c.clear.ensures ∙ memory_cleared fit c.args.memory.now c.loop-word.memory c.requires c.loop-word.auto.memory before.3;
    }

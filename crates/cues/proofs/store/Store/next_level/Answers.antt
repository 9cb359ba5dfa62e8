use Rattle.std.proofs.Common.{◌*◌, Ok, ap, ◌∙◌, arith}
use Rattle.cues.proofs.LevelReads.{level_goes_on, level_ends, level_more, level_all}
use Rattle.cues.proofs.Outcomes.{same_value}
use Rattle.cues.proofs.Sizes.{fit_store}
use Rattle.cues.proofs.store.Store.next_level.Goals as goal

pub loop-place-preserved : goal.loop-place-preserved
loop-place-preserved g c h reached loaded =
    let fit = fit_store g.met.C.Symbols.Alphabet.lawful (g.met.C.Code.keeps c.args.self.now.code h) (c.args.self.now.fits h) in
    let before = c.loop-place.invariant h reached loaded in
    let one = c.next_symbol.ensures h reached before.1 in
    let is = same_value c.next_symbol.result _ _ c.in_ok-symbol.was one.answers in
    (c.carried-number.ensures ∙ level_more fit c.args.cue c.args.cells.now reached c.args.level c.loop-place.place c.loop-place.number c.requires.there before.0 c.in_ok-symbol.symbol c.loop-place-test.true is, level_goes_on fit c.args.cue c.args.cells.now (c.args.level * c.args.self.now.shape.width) c.loop-place.place c.next_symbol.new.memory one.loaded, one.rest ∙ before.2)

pub returns : goal.returns
returns g c h reached loaded =
    let fit = fit_store g.met.C.Symbols.Alphabet.lawful (g.met.C.Code.keeps c.args.self.now.code h) (c.args.self.now.fits h) in
    let before = c.loop-place.invariant h reached loaded in
    record {
      answers = ap Ok (level_all fit c.args.cue c.args.cells.now reached c.args.level c.loop-place.place c.loop-place.number c.requires.there before.0 c.loop-place-test.false);
      loaded = level_ends fit c.args.cue c.args.cells.now c.args.level c.loop-place.place c.loop-place.memory (omega arith) before.1;
      rest = before.2;
    }

use Rattle.std.proofs.Common.{refl, ◌∙◌, arith}
use Rattle.cues.proofs.LevelReads.{filling_start, filling_loaded, filling_fails, filling_first, filling_none}
use Rattle.cues.proofs.Outcomes.{same_value}
use Rattle.cues.proofs.Sizes.{fit_store}
use Rattle.cues.proofs.store.Store.check_filling.Goals as goal

pub loop-place-init : goal.loop-place-init
loop-place-init g c h reached loaded =
    let fit = fit_store g.met.C.Symbols.Alphabet.lawful (g.met.C.Code.keeps c.args.self.now.code h) (c.args.self.now.fits h) in
    (filling_start fit c.args.cue c.args.cells.now, filling_loaded fit c.args.cue c.args.cells.now c.args.memory.now loaded, refl)

pub returns-then-branch-gt0 : goal.returns-then-branch-gt0
returns-then-branch-gt0 g c h reached loaded =
    let fit = fit_store g.met.C.Symbols.Alphabet.lawful (g.met.C.Code.keeps c.args.self.now.code h) (c.args.self.now.fits h) in
    let before = c.loop-place.invariant h reached loaded in
    let one = c.next_symbol.ensures h reached before.1 in
    let is = same_value c.next_symbol.result _ _ c.in_ok-next_symbol.was one.answers in
    record {
      answers = filling_first fit c.args.cue c.args.cells.now reached c.loop-place.place c.in_ok-next_symbol.field-0 (omega arith) (omega arith) is before.0 c.if-branch-gt0.true;
      rest = one.rest ∙ before.2;
    }

pub loop-place-preserved : goal.loop-place-preserved
loop-place-preserved g c h reached loaded =
    let fit = fit_store g.met.C.Symbols.Alphabet.lawful (g.met.C.Code.keeps c.args.self.now.code h) (c.args.self.now.fits h) in
    let before = c.loop-place.invariant h reached loaded in
    let one = c.next_symbol.ensures h reached before.1 in
    let is = same_value c.next_symbol.result _ _ c.in_ok-next_symbol.was one.answers in
    (filling_fails fit c.args.cue c.args.cells.now reached c.loop-place.place c.in_ok-next_symbol.field-0 (omega arith) (omega arith) is before.0 c.if-branch-gt0.false, one.loaded, one.rest ∙ before.2)

pub returns : goal.returns
returns g c h reached loaded =
    let fit = fit_store g.met.C.Symbols.Alphabet.lawful (g.met.C.Code.keeps c.args.self.now.code h) (c.args.self.now.fits h) in
    let before = c.loop-place.invariant h reached loaded in
    record { answers = filling_none fit c.args.cue c.args.cells.now reached c.loop-place.place (omega arith) before.0; rest = before.2 }

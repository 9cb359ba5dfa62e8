use Rattle.std.proofs.Common.{◌≡◌, ℕ, ◌*◌, sym, ◌∙◌, subst, arith}
use Rattle.theory.proofs.Trips.{not_accepted}
use Rattle.cues.specs.Shapes.{plan_in}
use Rattle.cues.specs.Steps.{Loaded}
use Rattle.cues.proofs.LevelReads.{levels_fail, level_first, levels_more, levels_none_pass, levels_all}
use Rattle.cues.proofs.Outcomes.{same_value}
use Rattle.cues.proofs.Sizes.{fit_store}
use Rattle.cues.proofs.store.Store.show_levels.Goals as goal

pub returns-in_default : goal.returns-in_default
returns-in_default g c h reached =
    let fit = fit_store g.met.C.Symbols.Alphabet.lawful (g.met.C.Code.keeps c.args.self.now.code h) (c.args.self.now.fits h) in
    let before = c.loop-level.invariant h reached in
    let one = c.next_level.ensures h reached before.2 in
    let is = sym c.in_default.is ∙ same_value c.next_level.result _ _ c.in_ok-number.was one.answers in
    record {
      answers = level_first fit c.args.cue c.args.cells.now c.args.levels.now c.requires.whole c.loop-level.level (omega arith) before.0 is;
      given = λ e. absurd (not_accepted 16 _ e);
      loaded = λ e. absurd (not_accepted 16 _ e);
      rest = one.rest ∙ before.3;
    }

pub loop-level-preserved : goal.loop-level-preserved
loop-level-preserved g c h reached =
    let fit = fit_store g.met.C.Symbols.Alphabet.lawful (g.met.C.Code.keeps c.args.self.now.code h) (c.args.self.now.fits h) in
    let before = c.loop-level.invariant h reached in
    let one = c.next_level.ensures h reached before.2 in
    let is = sym c.in-Some.is ∙ same_value c.next_level.result _ _ c.in_ok-number.was one.answers in (
      levels_fail fit c.args.cue c.args.cells.now c.args.levels.now c.requires.whole c.loop-level.level (omega arith) before.0 c.in-Some.number is,
      levels_more fit c.args.cue c.args.cells.now c.args.levels.now c.requires.whole c.loop-level.level (omega arith) c.in-Some.number is c.loop-level.levels before.1,
      one.loaded,
      one.rest ∙ before.3,
    )

pub returns : goal.returns
returns g c h reached =
    let fit = fit_store g.met.C.Symbols.Alphabet.lawful (g.met.C.Code.keeps c.args.self.now.code h) (c.args.self.now.fits h) in
    let A = g.C.Symbols.Alphabet.symbols in
    let before = c.loop-level.invariant h reached in
    let all : c.loop-level.level ≡ c.args.self.now.shape.levels = omega arith in
    record {
      answers = levels_none_pass fit c.args.cue c.args.cells.now c.args.levels.now c.requires.whole c.loop-level.level (omega arith) before.0;
      given = λ e. levels_all fit c.args.cue c.args.cells.now c.args.levels.now c.requires.whole c.loop-level.level (omega arith) c.loop-level.levels before.1;
      loaded = λ e. subst (λ (j : ℕ). Loaded A (g.C.Code.meaning c.args.self.now.code) (plan_in c.args.self.now.shape) c.args.cue c.args.cells.now (j * A.b) c.loop-level.memory) all before.2;
      rest = before.3;
    }

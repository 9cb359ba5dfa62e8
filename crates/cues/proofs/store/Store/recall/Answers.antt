use Rattle.std.proofs.Common.{◌≡◌, ℕ, List, ◌++◌, drop, sym, ap, ◌∙◌, arith}
use Rattle.std.proofs.lemmas.Bool.Decides.{nat_tests}
use Rattle.std.proofs.lemmas.List.{length-take-le}
use Rattle.store_theory.specs.Calls.{recalled_cue, zeroed}
use Rattle.store_theory.specs.Checks.{recall_check}
use Rattle.store_theory.specs.Layout.{level_numbers}
use Rattle.theory.specs.Calls.{accepted}
use Rattle.cues.specs.Refusals.{store_outcome}
use Rattle.cues.specs.Shapes.{plan_in, state_in}
use Rattle.cues.specs.Steps.{symbols_in}
use Rattle.cues.proofs.Outcomes.{err_refuses, ok_accepts}
use Rattle.cues.proofs.Recalls.{front_cleared, recall_read, last_recorded}
use Rattle.cues.proofs.Sizes.{few_is, fit_store}
use Rattle.cues.proofs.WordWrites.{memory_cleared}
use Rattle.cues.proofs.store.Store.recall.Goals as goal
use Rattle.cues.proofs.store.Store.recall.Goals.{then-is_err, else-is_err}

pub returns-in_err-check_reach-clause-answer : goal.returns-in_err-check_reach-clause-answer
unfolding recalled_cue recall_check
returns-in_err-check_reach-clause-answer g c h =
    let few = few_is (c.args.self.now.fits h) in
    grind (arith, nat_tests, few)

pub returns-in_err-check_reach-clause-recall_gives_what_was_last_recorded : goal.returns-in_err-check_reach-clause-recall_gives_what_was_last_recorded
returns-in_err-check_reach-clause-recall_gives_what_was_last_recorded g c h =
    last_recorded (fit_store g.met.C.Symbols.Alphabet.lawful (g.met.C.Code.keeps c.args.self.now.code h) (c.args.self.now.fits h)) c.args.cue (state_in c.args.self.now.kept) c.args.cells.now c.args.levels.now c.args.memory.now (returns-in_err-check_reach-clause-answer g c h)

pub returns-then-levels-count-clause-answer : goal.returns-then-levels-count-clause-answer
unfolding recalled_cue recall_check
returns-then-levels-count-clause-answer g c h =
    let few = few_is (c.args.self.now.fits h) in
    grind (arith, nat_tests, few)

pub returns-then-levels-count-clause-recall_gives_what_was_last_recorded : goal.returns-then-levels-count-clause-recall_gives_what_was_last_recorded
returns-then-levels-count-clause-recall_gives_what_was_last_recorded g c h =
    last_recorded (fit_store g.met.C.Symbols.Alphabet.lawful (g.met.C.Code.keeps c.args.self.now.code h) (c.args.self.now.fits h)) c.args.cue (state_in c.args.self.now.kept) c.args.cells.now c.args.levels.now c.args.memory.now (returns-then-levels-count-clause-answer g c h)

pub returns-then-not-self-cue-clause-answer : goal.returns-then-not-self-cue-clause-answer
unfolding recalled_cue recall_check
returns-then-not-self-cue-clause-answer g c h =
    let few = few_is (c.args.self.now.fits h) in
    grind (arith, nat_tests, few)

pub returns-then-not-self-cue-clause-recall_gives_what_was_last_recorded : goal.returns-then-not-self-cue-clause-recall_gives_what_was_last_recorded
returns-then-not-self-cue-clause-recall_gives_what_was_last_recorded g c h =
    last_recorded (fit_store g.met.C.Symbols.Alphabet.lawful (g.met.C.Code.keeps c.args.self.now.code h) (c.args.self.now.fits h)) c.args.cue (state_in c.args.self.now.kept) c.args.cells.now c.args.levels.now c.args.memory.now (returns-then-not-self-cue-clause-answer g c h)

pub returns-clause-answer : goal.returns-clause-answer
unfolding recalled_cue recall_check
returns-clause-answer g c h =
    let few = few_is (c.args.self.now.fits h) in
    let A = g.C.Symbols.Alphabet.symbols in
    let m = g.C.Code.meaning c.args.self.now.code in
    let shape = c.args.self.now.shape in
    let o = store_outcome c.read_levels-read.result in
    let done = c.read_levels-read.ensures h in
    let shown : o ≡ accepted → c.if-is_err.levels ≡ level_numbers A (plan_in shape) (symbols_in A m (plan_in shape) c.args.cue c.args.cells.now) ++ drop shape.levels c.args.levels.now = elim c.if-is_err.branch [
      | then-is_err w ↦ λ e. absurd (err_refuses c.read_levels-read.result (sym c.is_err.ensures.value ∙ w.if-is_err.true) e)
      | else-is_err w ↦ λ e. w.levels-is ∙ ap (λ (xs : List ℕ). xs ++ drop shape.levels c.args.levels.now) (done.given e)
    ] in
    let dark : (o ≡ accepted → ⊥) → c.if-is_err.levels ≡ zeroed shape.levels c.args.levels.now = elim c.if-is_err.branch [
      | then-is_err w ↦ λ never. w.levels-is ∙ w.clear.ensures ∙ front_cleared shape.levels c.args.levels.now c.read_levels-read.new.levels (c.read_levels-read.auto.levels ∙ length-take-le shape.levels c.args.levels.now c.if-levels-count.false)
      | else-is_err w ↦ λ never. absurd (never (ok_accepts c.read_levels-read.result (sym c.is_err.ensures.value ∙ w.if-is_err.false)))
    ] in
    let clean = c.clear-2.ensures ∙ memory_cleared (fit_store g.met.C.Symbols.Alphabet.lawful (g.met.C.Code.keeps c.args.self.now.code h) (c.args.self.now.fits h)) c.args.memory.now c.read_levels-read.new.memory c.in_ok-check_reach.ensures.enough c.read_levels-read.auto.memory done.rest in
    let read = recall_read A m (plan_in shape) c.args.cue (state_in c.args.self.now.kept) c.args.cells.now c.args.levels.now c.args.memory.now o c.if-is_err.levels c.clear-2.new.memory shown dark clean done.answers in
    grind (arith, nat_tests, few, read)

pub returns-clause-recall_gives_what_was_last_recorded : goal.returns-clause-recall_gives_what_was_last_recorded
returns-clause-recall_gives_what_was_last_recorded g c h =
    last_recorded (fit_store g.met.C.Symbols.Alphabet.lawful (g.met.C.Code.keeps c.args.self.now.code h) (c.args.self.now.fits h)) c.args.cue (state_in c.args.self.now.kept) c.args.cells.now c.args.levels.now c.args.memory.now (returns-clause-answer g c h)

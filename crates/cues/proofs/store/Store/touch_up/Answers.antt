use Rattle.std.proofs.Common.{arith}
use Rattle.std.proofs.lemmas.Bool.Decides.{nat_tests}
use Rattle.store_theory.specs.Calls.{touched_up_cue}
use Rattle.store_theory.specs.Checks.{touch_check}
use Rattle.cues.proofs.Sizes.{few_is}
use Rattle.cues.proofs.store.Store.touch_up.Goals as goal

pub returns-in_err-check_reach-clause-answer : goal.returns-in_err-check_reach-clause-answer
unfolding touched_up_cue touch_check
returns-in_err-check_reach-clause-answer g c h =
    let few = few_is (c.args.self.now.fits h) in
    grind (arith, nat_tests, few)

pub returns-then-not-self-cue-clause-answer : goal.returns-then-not-self-cue-clause-answer
unfolding touched_up_cue touch_check
returns-then-not-self-cue-clause-answer g c h =
    let few = few_is (c.args.self.now.fits h) in
    grind (arith, nat_tests, few)

pub returns-clause-answer : goal.returns-clause-answer
unfolding touched_up_cue touch_check
returns-clause-answer g c h =
    let few = few_is (c.args.self.now.fits h) in
    grind (arith, nat_tests, few, c.touch_words-touched.ensures h)

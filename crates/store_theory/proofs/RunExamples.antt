-- The worked examples of runs hold, by computing. Assumes nothing.
use Rattle.std.proofs.Common.{refl}
use Rattle.theory.specs.Reach.{message_in_reach}
use Rattle.store_theory.specs.Calls.{recorded_cue, recorded_cue_by_slip, held_cue, let_go_cue, wiped_cue, touched_up_cue, recalled_cue}
use Rattle.store_theory.specs.Checks.{making_check, record_check, slip_check, hold_check, wipe_check, touch_check, recall_check}
use Rattle.store_theory.specs.Layout.{word_count}
use Rattle.store_theory.specs.RunCases.{RunExamplesHold}

pub run_examples_hold : RunExamplesHold
unfolding making_check recorded_cue recorded_cue_by_slip held_cue let_go_cue wiped_cue touched_up_cue recalled_cue record_check slip_check hold_check wipe_check touch_check recall_check word_count message_in_reach
run_examples_hold =
    (refl, (refl, (refl, (refl, (refl, ((refl, refl), ((refl, refl), ((refl, refl), ((refl, refl), ((refl, refl), ((refl, refl), (refl, (refl, (refl, (refl, (refl, (refl, (refl, (refl, (refl, ((refl, refl), (refl, (refl, (refl, (refl, (refl, (refl, (refl, ((refl, refl), ((refl, refl), tt))))))))))))))))))))))))))))))

-- What a change of one cue's mark leaves of the marks. Assumes nothing.
use Rattle.std.proofs.Common.{◌≡◌, ℕ, ◌<◌, length, sym, length-set}
use lib.ListN.{length-replicate}
use Rattle.std.proofs.lemmas.List.{get_or-set_same, get_or-set_other, get_or-replicate}
use Rattle.store_theory.specs.declared.CueMark.{CueMark}
use Rattle.store_theory.specs.Layout.{most_cues}
use Rattle.store_theory.specs.States.{State, blank, new_state, mark_at, with_mark}

pub mark_here : (state : State) (cue : ℕ) (mark : CueMark) → cue < length state.marks → mark_at (with_mark state cue mark) cue ≡ mark
mark_here state cue mark h = get_or-set_same state.marks cue mark blank h

pub mark_elsewhere : (state : State) (which cue : ℕ) (mark : CueMark) → (which ≡ cue → ⊥) → mark_at (with_mark state which mark) cue ≡ mark_at state cue
mark_elsewhere state which cue mark differs = get_or-set_other state.marks which cue mark blank (λ e. differs (sym e))

pub marks_stay : (state : State) (cue : ℕ) (mark : CueMark) → length (with_mark state cue mark).marks ≡ length state.marks
marks_stay state cue mark = length-set state.marks cue mark

pub new_mark : (cue : ℕ) → cue < most_cues → mark_at new_state cue ≡ blank
new_mark cue h = get_or-replicate most_cues cue blank blank h

pub new_marks : length new_state.marks ≡ most_cues
new_marks = length-replicate most_cues blank

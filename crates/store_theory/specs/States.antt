-- What a store keeps: for each cue whether it is recorded and whether it is held, and the tally of touched-up words.
use Rattle.std.specs.Prelude.{ℕ, ◌+◌, min, Bool, false, List, replicate, slice_index_or, slice_set}
use Rattle.store_theory.specs.declared.CueMark.{CueMark}
use Rattle.store_theory.specs.Layout.{most_cues}

pub record State : Type 0 where
  pub marks : List CueMark
  pub tally : ℕ

abbrev pub state_of : List CueMark → ℕ → State
state_of marks tally = record { marks = marks; tally = tally }

-- an empty and free cue
abbrev pub blank : CueMark
blank = record { recorded = false; held = false }

-- every store has room for the marks of the most cues that a store may have; its own cues come first
abbrev pub new_state : State
new_state = record { marks = replicate most_cues blank; tally = 0 }

abbrev pub mark_at : State → ℕ → CueMark
mark_at state cue = slice_index_or state.marks cue blank

abbrev pub with_mark : State → ℕ → CueMark → State
with_mark state cue mark = record { marks = slice_set state.marks cue mark; tally = state.tally }

-- the cue recorded or empty; held or free
abbrev pub with_recorded : State → ℕ → Bool → State
with_recorded state cue recorded = with_mark state cue (record { recorded = recorded; held = (mark_at state cue).held })

abbrev pub with_held : State → ℕ → Bool → State
with_held state cue held = with_mark state cue (record { recorded = (mark_at state cue).recorded; held = held })

-- the tally stays where it cannot grow further
abbrev pub most_tally : ℕ
most_tally = 65535

abbrev pub with_tally : State → ℕ → State
with_tally state more = record { marks = state.marks; tally = min most_tally (state.tally + more) }

-- The number and the values of each refusal, and what a call's or a making's result stands for.
use Rattle.std.specs.Prelude.{ℕ, List, [], ◌∷◌, Ok, Err, Result}
use Rattle.codes.specs.declared.refusals.Refusal.{Refusal}
use Rattle.codes.specs.declared.refusals.Refusal.TheVariants.{ShortMemory, MarkInMessage, BeyondReach, NotAWord}
use Rattle.codes.specs.declared.refusals.MakingRefusal.{MakingRefusal}
use Rattle.codes.specs.declared.refusals.MakingRefusal.TheVariants.{LengthsDiffer, WorkingTooLong, NoSuchPlace, DistanceTooSmall, DimensionTooSmall, NoCarrier, OutOfRange}
use Rattle.theory.specs.Calls.{Outcome, accepted, refused}
use Rattle.theory.specs.Meanings.{Meaning, Making, made, refused_making}

abbrev pub refusal_number : Refusal → ℕ
refusal_number ShortMemory = 1
refusal_number (MarkInMessage place) = 2
refusal_number BeyondReach = 3
refusal_number NotAWord = 4

abbrev pub refusal_values : Refusal → List ℕ
refusal_values ShortMemory = []
refusal_values (MarkInMessage place) = place ∷ []
refusal_values BeyondReach = []
refusal_values NotAWord = []

abbrev pub making_number : MakingRefusal → ℕ
making_number LengthsDiffer = 5
making_number WorkingTooLong = 6
making_number NoSuchPlace = 7
making_number DistanceTooSmall = 8
making_number DimensionTooSmall = 9
making_number NoCarrier = 10
making_number OutOfRange = 11

-- what the result of a call stands for
abbrev pub outcome : {T : Type 0} → Result T Refusal → Outcome
outcome (Ok x) = accepted
outcome (Err e) = refused (refusal_number e) (refusal_values e)

-- what the result of a making stands for, given what its code means
abbrev pub making : {C : Type 0} → (C → Meaning) → Result C MakingRefusal → Making
making meaning (Ok code) = made (meaning code)
making meaning (Err e) = refused_making (making_number e)

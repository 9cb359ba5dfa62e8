-- A call's answer as one number.
use Rattle.std.specs.Prelude.{ℕ, Ok, Err, Result}
use Rattle.codes.specs.Refusals.{refusal_number, making_number}
use Rattle.codes.specs.declared.refusals.MakingRefusal.{MakingRefusal}
use Rattle.codes.specs.declared.refusals.Refusal.{Refusal}

abbrev pub number_of : {T : Type 0} → Result T Refusal → ℕ
number_of (Ok x) = 0
number_of (Err e) = refusal_number e

abbrev pub making_number_of : {C : Type 0} → Result C MakingRefusal → ℕ
making_number_of (Ok code) = 0
making_number_of (Err e) = making_number e

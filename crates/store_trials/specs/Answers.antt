-- The number of an answer.
use Rattle.std.specs.Prelude.{ℕ, Ok, Err, Result}
use Rattle.cues.specs.Refusals.{store_number}
use Rattle.cues.specs.declared.refusals.StoreRefusal.{StoreRefusal}

abbrev pub number_of : {T : Type 0} → Result T StoreRefusal → ℕ
number_of (Ok x) = 0
number_of (Err e) = store_number e

-- Results of calls as outcomes. Assumes nothing.
use Rattle.std.proofs.Common.{◌≡◌, true, false, is_err, Ok, Err, Result, sym, refl, ap, ◌∙◌}
use Rattle.std.proofs.lemmas.Bool.{both_ways}
use Rattle.codes.specs.Refusals.{refusal_number, refusal_values, outcome}
use Rattle.codes.specs.declared.refusals.Refusal.{Refusal}
use Rattle.theory.specs.Calls.{accepted}
use Rattle.theory.proofs.Trips.{not_accepted}

module _ {T : Type 0} where
  pub err_refuses : (r : Result T Refusal) → is_err r ≡ true → outcome r ≡ accepted → ⊥
  err_refuses (Ok x) e f = both_ways false refl e
  err_refuses (Err e) f g = not_accepted (refusal_number e) (refusal_values e) g

  pub ok_accepts : (r : Result T Refusal) → is_err r ≡ false → outcome r ≡ accepted
  ok_accepts (Ok x) e = refl
  ok_accepts (Err e) f = absurd (both_ways true f refl)

  pub err_is_refused : (r : Result T Refusal) (e : Refusal) → r ≡ Err e → outcome r ≡ accepted → ⊥
  err_is_refused r e is h = not_accepted (refusal_number e) (refusal_values e) (sym (ap outcome is) ∙ h)

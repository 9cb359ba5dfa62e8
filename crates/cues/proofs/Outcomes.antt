-- Results of a store's calls as outcomes. Assumes nothing.
use Rattle.std.proofs.Common.{◌≡◌, ℕ, true, false, is_err, Ok, Err, Result, sym, refl, ap, ◌∙◌, arith}
use Rattle.std.proofs.lemmas.Bool.{both_ways}
use Rattle.theory.specs.Calls.{accepted}
use Rattle.theory.proofs.Trips.{not_accepted}
use Rattle.cues.specs.Refusals.{store_number, store_values, store_outcome}
use Rattle.cues.specs.declared.refusals.StoreRefusal.{StoreRefusal}

module _ {T : Type 0} where
  pub err_is_refused : (r : Result T StoreRefusal) (e : StoreRefusal) → r ≡ Err e → store_outcome r ≡ accepted → ⊥
  err_is_refused r e is h = not_accepted (store_number e) (store_values e) (sym (ap store_outcome is) ∙ h)

  pub same_value : (r : Result T StoreRefusal) (x y : T) → r ≡ Ok x → r ≡ Ok y → x ≡ y
  same_value r x y is h = cc

  pub err_refuses : (r : Result T StoreRefusal) → is_err r ≡ true → store_outcome r ≡ accepted → ⊥
  err_refuses (Ok x) e h = both_ways false refl e
  err_refuses (Err e) t h = not_accepted (store_number e) (store_values e) h

  pub ok_accepts : (r : Result T StoreRefusal) → is_err r ≡ false → store_outcome r ≡ accepted
  ok_accepts (Ok x) e = refl
  ok_accepts (Err e) t = absurd (both_ways true t refl)

-- Two calls in a row, joined by `?`. Assumes nothing.
use Rattle.std.proofs.Common.{◌≡◌, ℕ, List, Ok, Err, Result, sym, ap, ◌∙◌}
use Rattle.codes.specs.declared.refusals.Refusal.{Refusal}
use Rattle.codes.specs.Refusals.{refusal_number, refusal_values, outcome}
use Rattle.theory.specs.Calls.{Outcome, Answer, accepted, refused}
use Rattle.theory.proofs.Calls.{paired}

module _ {T : Type 0} where
  -- the first call is refused, and that is what both come to
  pub refused_first : (one both : Answer) → ((n : ℕ) (values ys : List ℕ) → one ≡ (refused n values, ys) → both ≡ (refused n values, ys)) → (s r : Result T Refusal) (e : Refusal) (ys : List ℕ) → s ≡ Err e → (y : Refusal) × (r ≡ Err y) × (y ≡ e) → (outcome s, ys) ≡ one → (outcome r, ys) ≡ both
  refused_first one both law s r e ys p exit f =
      let as-refused = λ (x : Result T Refusal) (h : x ≡ Err e). ap (λ (o : Outcome). paired o ys) (ap outcome h) in
      as-refused r (exit.1 ∙ ap Err exit.2) ∙ sym (law (refusal_number e) (refusal_values e) ys (sym f ∙ as-refused s p))

  -- the first call is accepted, and the second goes on from what it left
  pub accepted_first : (one both : Answer) (second : List ℕ → Answer) → ((ys : List ℕ) → one ≡ (accepted, ys) → second ys ≡ both) → (s : Result T Refusal) (x : T) (ys : List ℕ) (last : Answer) → s ≡ Ok x → (outcome s, ys) ≡ one → last ≡ second ys → last ≡ both
  accepted_first one both second law s x ys last p f g =
      g ∙ law ys (sym f ∙ ap (λ (o : Outcome). paired o ys) (ap outcome p))

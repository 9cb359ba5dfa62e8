-- Looking for u, step by step as the code goes. Assumes nothing.
use Rattle.std.proofs.Common.{◌≡◌, ℕ, Bool, true, false, ltb, List, sym, refl, ap, ◌∙◌, ap₂}
use Rattle.theory.specs.Alphabets.{Arithmetic, plus}
use Rattle.theory.specs.Calls.{Outcome, Answer, accepted, refused, mended}
use Rattle.theory.specs.Combining.{combined}
use Rattle.theory.specs.Halves.{Halves, word_end, left_part, right_part, byte_less, whole_toll, tried_by, tried, sought_by, sought}
use Rattle.theory.specs.Meanings.{Meaning}
use Rattle.theory.specs.Parts.{call_in_part}
use Rattle.theory.proofs.Calls.{paired}
use Rattle.theory.proofs.Seeking.{answered}

module _ (A : Arithmetic) (u : Meaning) (h : Halves) (xs : List ℕ) where
  -- U refused
  pub tried_refused : (from : ℕ) (o : Outcome) (ys : List ℕ) → paired o ys ≡ call_in_part (mended A u) from h.n (left_part h) h.wu xs → (o ≡ accepted → ⊥) → answered false ys ≡ tried A u h from xs
  unfolding tried
  tried_refused from o ys call refusal = by_outcome o refusal ∙ ap (λ (p : Answer). tried_by A h p.0 p.1) call
    where
      by_outcome : (o : Outcome) → (o ≡ accepted → ⊥) → answered false ys ≡ tried_by A h o ys
      by_outcome accepted never = absurd (never refl)
      by_outcome (refused number values) never = refl

  -- U found a word: u + v is written behind the received word, and the whole toll decides
  pub tried_accepted : (from : ℕ) (o : Outcome) (ys : List ℕ) → paired o ys ≡ call_in_part (mended A u) from h.n (left_part h) h.wu xs → o ≡ accepted → (zs : List ℕ) → zs ≡ combined (plus A) ys (left_part h) (right_part h) h.n (word_end h) → (near : Bool) → near ≡ ltb (whole_toll A h zs) h.d → answered near zs ≡ tried A u h from xs
  unfolding tried
  tried_accepted from o ys call ok zs is near decides =
      ap₂ answered (decides ∙ ap (λ (z : List ℕ). ltb (whole_toll A h z) h.d) is) is
      ∙ ap (λ (p : Outcome). tried_by A h p ys) (sym ok) ∙ ap (λ (p : Answer). tried_by A h p.0 p.1) call

  -- the left half does, or the right half less v is tried
  pub sought_first : (ys : List ℕ) → answered true ys ≡ tried A u h 0 xs → answered true ys ≡ sought A u h xs
  unfolding sought
  sought_first ys first = ap (λ (p : Bool × List ℕ). sought_by A u h p.0 p.1) first

  pub sought_second : (ys : List ℕ) → answered false ys ≡ tried A u h 0 xs → (zs : List ℕ) → zs ≡ combined (byte_less A) ys h.n (right_part h) h.n (word_end h) → (found : Bool) (ws : List ℕ) → answered found ws ≡ tried A u h (word_end h) zs → answered found ws ≡ sought A u h xs
  unfolding sought
  sought_second ys first zs is found ws second =
      second ∙ ap (tried A u h (word_end h)) is ∙ ap (λ (p : Bool × List ℕ). sought_by A u h p.0 p.1) first

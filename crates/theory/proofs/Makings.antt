-- A making as one step of a pile, and the makings of a Plotkin join. Assumes nothing.
use Rattle.std.proofs.Common.{◌≡◌, ◌+◌, ◌*◌, ◌<◌, ◌≤◌, cond, eqb, leb, sym, ◌∙◌, ap₂}
use Rattle.std.proofs.lemmas.Bool.{eq-eqb, ne_eqb, le-leb, lt-leb, cond-true, cond-false}
use Rattle.theory.specs.Alphabets.{Arithmetic}
use Rattle.theory.specs.Joins.{plotkin, plotkin_making}
use Rattle.theory.specs.Meanings.{Meaning, Making, made, refused_making}
use Rattle.theory.specs.Piles.{made_of}

-- what was made of two parts that were made
pub two_made : (next : Meaning → Meaning → Making) (o o' : Making) (u v : Meaning) (x : Making) → x ≡ next u v → o ≡ made u → o' ≡ made v → x ≡ made_of (λ a. made_of (λ b. next a b) o') o
two_made next o o' u v x e f g = e ∙ sym (ap₂ (λ (p r : Making). made_of (λ a. made_of (λ b. next a b) r) p) f g)

module _ (A : Arithmetic) (u v : Meaning) where
  pub plotkin_lengths_differ : (u.n ≡ v.n → ⊥) → refused_making 5 ≡ plotkin_making A u v
  unfolding plotkin_making
  plotkin_lengths_differ h = sym (cond-false (eqb u.n v.n) (cond (leb (3 * u.n + u.w + v.w) 4096) (made (plotkin A u v)) (refused_making 6)) (refused_making 5) (ne_eqb u.n v.n h))

  module _ (same : u.n ≡ v.n) where
    plotkin_level : plotkin_making A u v ≡ cond (leb (3 * u.n + u.w + v.w) 4096) (made (plotkin A u v)) (refused_making 6)
    unfolding plotkin_making
    plotkin_level = cond-true (eqb u.n v.n) (cond (leb (3 * u.n + u.w + v.w) 4096) (made (plotkin A u v)) (refused_making 6)) (refused_making 5) (eq-eqb u.n v.n same)

    pub plotkin_too_long : 4096 < 3 * u.n + u.w + v.w → refused_making 6 ≡ plotkin_making A u v
    plotkin_too_long h = sym (plotkin_level ∙ cond-false (leb (3 * u.n + u.w + v.w) 4096) (made (plotkin A u v)) (refused_making 6) (lt-leb (3 * u.n + u.w + v.w) 4096 h))

    pub plotkin_made : 3 * u.n + u.w + v.w ≤ 4096 → made (plotkin A u v) ≡ plotkin_making A u v
    plotkin_made h = sym (plotkin_level ∙ cond-true (leb (3 * u.n + u.w + v.w) 4096) (made (plotkin A u v)) (refused_making 6) (le-leb (3 * u.n + u.w + v.w) 4096 h))

-- The making of a sum, of codes whose parts have them. Assumes nothing.
use Rattle.std.proofs.Common.{◌≡◌}
use Rattle.theory.specs.Alphabets.{Arithmetic}
use Rattle.theory.specs.Joins.{direct_sum_making}
use Rattle.theory.specs.Meanings.{Meaning, Making, made}
use Rattle.theory.specs.Piles.{Pile, sum_of, making_of}
use Rattle.theory.proofs.Makings.{two_made}

-- what the making of two codes answers is what their piles with the sum on top work out
pub sum_on_pile : (A : Arithmetic) {u v : Meaning} {x : Making} → x ≡ direct_sum_making u v → (p o : Pile) → making_of A p ≡ made u → making_of A o ≡ made v → x ≡ making_of A (sum_of p o)
sum_on_pile A {u} {v} {x} e p o f g = two_made direct_sum_making (making_of A p) (making_of A o) u v x e f g

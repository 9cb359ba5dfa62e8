-- The hexacode keeps its meaning, by computing over all pairs of its words. Assumes nothing.
use Rattle.std.proofs.Common.{◌≡◌, ℕ, [], ◌∷◌, refl, arith, lit≤}
use Rattle.theory.specs.Alphabets.{four}
use Rattle.theory.specs.Hexacode.{hexacode_checks, hexacode}
use Rattle.theory.specs.Meanings.{Keeps}
use Rattle.theory.specs.Pairs.{AtDistance}
use Rattle.theory.proofs.Systematic.{systematic_keeps}

-- the test is of 64 words, 4,096 pairs
pub hexacode_keeps : Keeps four hexacode
hexacode_keeps = systematic_keeps four 6 3 4 6 hexacode_checks refl (lit≤ tt) (lit≤ tt) (lit≤ tt) (lit≤ tt) (lit≤ tt)

-- it shows all zeros, and a 1 in the first place
pub hexacode_shows : AtDistance four hexacode (0 ∷ 0 ∷ 0 ∷ []) (1 ∷ 0 ∷ 0 ∷ [])
hexacode_shows =
    record {
      one = omega arith;
      other = omega arith;
      different = λ e. let z : ◌≡◌ {A = ℕ} 0 1 = cc in omega arith;
      exactly = refl;
    }

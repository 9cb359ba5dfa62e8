-- The Hamming code of length 7 keeps its meaning, by computing over all pairs of its words. Assumes nothing.
use Rattle.std.proofs.Common.{◌≡◌, ℕ, [], ◌∷◌, refl, arith, lit≤}
use Rattle.theory.specs.Alphabets.{two}
use Rattle.theory.specs.Hamming.{hamming_checks, hamming}
use Rattle.theory.specs.Meanings.{Keeps}
use Rattle.theory.specs.Pairs.{AtDistance}
use Rattle.theory.proofs.Systematic.{systematic_keeps}

-- the test is of 16 words, 256 pairs
pub hamming_keeps : Keeps two hamming
hamming_keeps = systematic_keeps two 7 4 3 7 hamming_checks refl (lit≤ tt) (lit≤ tt) (lit≤ tt) (lit≤ tt) (lit≤ tt)

-- it shows all zeros, and a 1 in the second place
pub hamming_shows : AtDistance two hamming (0 ∷ 0 ∷ 0 ∷ 0 ∷ []) (0 ∷ 1 ∷ 0 ∷ 0 ∷ [])
hamming_shows =
    record {
      one = omega arith;
      other = omega arith;
      different = λ e. let z : ◌≡◌ {A = ℕ} 0 1 = cc in omega arith;
      exactly = refl;
    }

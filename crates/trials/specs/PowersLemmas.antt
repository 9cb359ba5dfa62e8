-- The alphabet of five symbols is lawful, and the code of powers keeps its meaning. Assumes nothing.
use Rattle.std.specs.Prelude.{ℕ, zero, suc, ◌^◌, ◌<◌, refl}
use Rattle.std.proofs.Common.{arith, lit≤}
use Rattle.theory.specs.Alphabets.{Lawful}
use Rattle.theory.specs.Meanings.{Keeps}
use Rattle.theory.proofs.Systematic.{systematic_keeps}
use Rattle.trials.specs.Powers.{five, powers_checks, powers}

-- three symbols do not tell 256 levels apart
too_few : (c : ℕ) → c < 4 → 5 ^ c < 256
too_few zero l = lit≤ tt
too_few (suc zero) l = lit≤ tt
too_few (suc (suc zero)) l = lit≤ tt
too_few (suc (suc (suc zero))) l = lit≤ tt
too_few (suc (suc (suc (suc c)))) l = absurd (omega arith)

pub five_lawful : Lawful five
five_lawful =
    record {
      two_symbols = lit≤ tt;
      few_symbols = lit≤ tt;
      closed = λ x y l m. omega arith;
      assoc = λ x y z l m n. omega arith;
      comm = λ x y l m. omega arith;
      neutral = λ x l. omega arith;
      neg_closed = λ x l. omega arith;
      cancels = λ x l. omega arith;
      enough = lit≤ tt;
      least = too_few;
    }

-- the test is of 5 words, 25 pairs
pub powers_keeps : Keeps five powers
powers_keeps = systematic_keeps five 4 1 3 4 powers_checks refl (lit≤ tt) (lit≤ tt) (lit≤ tt) (lit≤ tt) (lit≤ tt)

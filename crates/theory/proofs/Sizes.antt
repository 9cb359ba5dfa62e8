-- The numbers of the code below a join, as the join keeps them. Assumes nothing.
use Rattle.std.proofs.Common.{ℕ}
use Rattle.theory.specs.Meanings.{Meaning}

pub record Sizes : Type 0 where
  pub n : ℕ
  pub k : ℕ
  pub w : ℕ

abbrev pub sizes_of : Meaning → Sizes
sizes_of m = record { n = m.n; k = m.k; w = m.w }

-- The calls of the join at the numbers that it keeps. Assumes nothing.
use Rattle.std.proofs.Common.{◌≡◌, ◌+◌, ◌*◌, ◌≤◌, min, sym, ◌∙◌, subst}
use Rattle.parts.specs.Numbers.{NumbersOf}
use Rattle.parts.specs.declared.numbers.Numbers.{Numbers}
use Rattle.plotkin.specs.Kept.{kept, keeps_meaning}
use Rattle.theory.specs.Alphabets.{Arithmetic, Lawful}
use Rattle.theory.specs.Joins.{plotkin}
use Rattle.theory.specs.Meanings.{Meaning, Keeps}
use Rattle.theory.proofs.HalfCalls.{halves_of}
use Rattle.theory.proofs.PlotkinCalls.{Sends, Reads, plotkin_sends, plotkin_reads}
use Rattle.theory.proofs.PlotkinMends.{Mends, plotkin_mends}

-- what a fit join keeps are its parts' numbers
pub kept_are : (u v : Numbers) (m k : Meaning) → NumbersOf u m → NumbersOf v k → halves_of m k ≡ kept u v
kept_are u v m k hu hv =
    λ i. record { n = sym hu.length i; ku = sym hu.dimension i; kv = sym hv.dimension i; wu = sym hu.working i; wv = sym hv.working i; d = min (2 * sym hu.distance i) (sym hv.distance i) }

module _ {A : Arithmetic} {u v : Meaning} {nu nv : Numbers} (laws : Lawful A) (keeps-u : Keeps A u) (keeps-v : Keeps A v) (of-u : NumbersOf nu u) (of-v : NumbersOf nv v) (level : nu.length ≡ nv.length) where
  halves : halves_of u v ≡ kept nu nv
  halves = kept_are nu nv u v of-u of-v

  flat : u.n ≡ v.n
  flat = sym of-u.length ∙ level ∙ of-v.length

  pub sends : Sends A u v (kept nu nv)
  sends = subst (Sends A u v) halves (λ xs room none o o' ys zs ws r l. plotkin_sends A laws u v keeps-u keeps-v flat xs room none o o' ys zs ws r l)

  module _ (bounded : 3 * nu.length + nu.working + nv.working ≤ 4096) where
    keeps : Keeps A (plotkin A u v)
    keeps = keeps_meaning laws keeps-u keeps-v of-u of-v level bounded

    pub mends : Mends A u v (kept nu nv)
    mends = subst (Mends A u v) halves (λ xs room ds e o ys call. plotkin_mends A laws u v keeps-u keeps-v flat xs room keeps ds e o ys call)

    pub reads : Reads A u v (kept nu nv)
    reads = subst (Reads A u v) halves (λ xs room ds e o o' ys zs r l. plotkin_reads A laws u v keeps-u keeps-v flat xs room keeps ds e o o' ys zs r l)

-- The calls of a shortened code at the numbers that it keeps. Assumes nothing.
use Rattle.std.specs.Prelude.{◌≡◌, ℕ, ◌+◌, ◌<◌, ◌≤◌, Some}
use Rattle.std.proofs.Common.{arith}
use Rattle.parts.specs.Numbers.{NumbersOf}
use Rattle.parts.specs.declared.numbers.Numbers.{Numbers}
use Rattle.parts.proofs.Sizes.{kept, kept_are}
use Rattle.theory.specs.Alphabets.{Arithmetic, Lawful}
use Rattle.theory.specs.Joins.{shorten}
use Rattle.theory.specs.Meanings.{Meaning, Keeps}
use Rattle.theory.proofs.Shorten.{shorten_keeps}
use Rattle.theory.proofs.ShortenCalls.{ShortenSends, ShortenMends, ShortenReads, shorten_sends, shorten_mends, shorten_reads}

module _ {A : Arithmetic} {m : Meaning} {place lost : ℕ} {whole : Numbers} (laws : Lawful A) (keeps : Keeps A m) (carrier-is : m.carrier place ≡ Some lost) (numbers : NumbersOf whole m) (within : place < whole.dimension) (remains : 2 ≤ whole.dimension) (bounded : whole.working + whole.length ≤ 4096) where
  there : place < m.k
  there = omega (arith, numbers.dimension)

  enough : 2 ≤ m.k
  enough = omega (arith, numbers.dimension)

  pub keeps_meaning : Keeps A (shorten place lost m)
  keeps_meaning = shorten_keeps A laws place lost m keeps there enough carrier-is (omega (arith, numbers.length, numbers.working))

  pub sends : ShortenSends A place lost m (kept whole)
  sends = shorten_sends A laws place lost m keeps there enough carrier-is keeps_meaning (kept whole) (kept_are whole m numbers)

  pub mends : ShortenMends A place lost m (kept whole)
  mends = shorten_mends A laws place lost m keeps there enough carrier-is keeps_meaning (kept whole) (kept_are whole m numbers)

  pub reads : ShortenReads A place lost m (kept whole)
  reads = shorten_reads A laws place lost m keeps there enough carrier-is keeps_meaning (kept whole) (kept_are whole m numbers)

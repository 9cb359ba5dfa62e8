-- The calls of a punctured code at the numbers that it keeps. Assumes nothing.
use Rattle.std.specs.Prelude.{ℕ, ◌+◌, ◌<◌, ◌≤◌}
use Rattle.std.proofs.Common.{arith}
use Rattle.parts.specs.Numbers.{NumbersOf}
use Rattle.parts.specs.declared.numbers.Numbers.{Numbers}
use Rattle.parts.proofs.Sizes.{kept, kept_are}
use Rattle.theory.specs.Alphabets.{Arithmetic, Lawful}
use Rattle.theory.specs.Joins.{puncture}
use Rattle.theory.specs.Meanings.{Meaning, Keeps}
use Rattle.theory.proofs.Puncture.{puncture_keeps}
use Rattle.theory.proofs.PunctureCalls.{PunctureSends, PunctureMends, PunctureReads, puncture_sends, puncture_mends, puncture_reads}

module _ {A : Arithmetic} {m : Meaning} {place : ℕ} {whole : Numbers} (laws : Lawful A) (keeps : Keeps A m) (numbers : NumbersOf whole m) (within : place < whole.length) (apart : 2 ≤ whole.distance) (bounded : whole.working + whole.length ≤ 4096) where
  there : place < m.n
  there = omega (arith, numbers.length)

  enough : 2 ≤ m.d
  enough = omega (arith, numbers.distance)

  pub keeps_meaning : Keeps A (puncture place m)
  keeps_meaning = puncture_keeps A laws place m keeps there enough (omega (arith, numbers.length, numbers.working))

  pub sends : PunctureSends A place m (kept whole)
  sends = puncture_sends A laws place m keeps there enough keeps_meaning (kept whole) (kept_are whole m numbers)

  pub mends : PunctureMends A place m (kept whole)
  mends = puncture_mends A laws place m keeps there enough keeps_meaning (kept whole) (kept_are whole m numbers)

  pub reads : PunctureReads A place m (kept whole)
  reads = puncture_reads A laws place m keeps there enough keeps_meaning (kept whole) (kept_are whole m numbers)

use Rattle.std.proofs.Common.{◌≡◌, take}
use Rattle.parity.specs.Sums.{unmarked_total}
use Rattle.parity.proofs.sum_of_unmarked.Given as goal

-- the sum of what the loop has gone over
abbrev pub invariant-loop-x : goal.invariant-loop-x
invariant-loop-x g l = l.sum ≡ unmarked_total g.S.Alphabet.symbols (take l.x-index l.bytes)

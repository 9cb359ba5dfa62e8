use Rattle.std.proofs.Common.{◌≡◌, take}
use Rattle.theory.specs.Words.{marked}
use Rattle.codes.proofs.tolls.count_marks.Given as goal

abbrev pub invariant-loop-x : goal.invariant-loop-x
invariant-loop-x g l = l.marks ≡ marked g.S.Alphabet.symbols.q (take l.x-index l.bytes)

use Rattle.std.proofs.Common.{◌≡◌, take, replicate}
use Rattle.theory.specs.Words.{wrong, marked}
use Rattle.repetition.proofs.copies_damage.Given as goal

abbrev pub invariant-loop-x : goal.invariant-loop-x
invariant-loop-x g l =
    let q = g.S.Alphabet.symbols.q in
    (l.wrong ≡ wrong q (replicate l.x-index l.symbol) (take l.x-index l.received)) × (l.marked ≡ marked q (take l.x-index l.received))

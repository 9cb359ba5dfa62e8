use Rattle.std.proofs.Common.{◌≡◌, take}
use Rattle.theory.specs.Words.{wrong, marked}
use Rattle.codes.proofs.tolls.damage_between.Given as goal

abbrev pub invariant-loop-i : goal.invariant-loop-i
invariant-loop-i g l =
    let q = g.S.Alphabet.symbols.q in
    (l.wrong ≡ wrong q (take l.i l.word) (take l.i l.received)) × (l.marked ≡ marked q (take l.i l.received))

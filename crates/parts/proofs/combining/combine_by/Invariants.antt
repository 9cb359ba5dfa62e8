use Rattle.std.proofs.Common.{◌≡◌, ℕ, take}
use Rattle.parts.specs.Combining.{PutsTogether}
use Rattle.theory.specs.Joins.{zipped}
use Rattle.theory.specs.Memory.{over, part}
use Rattle.parts.proofs.combining.combine_by.Given as goal

abbrev pub invariant-loop-i : goal.invariant-loop-i
invariant-loop-i g l =
    (by : ℕ → ℕ → ℕ) → PutsTogether (goal.F-post g l.put) by → l.memory ≡ over l.initial.memory l.to (take l.i (zipped by (part l.initial.memory l.left l.count) (part l.initial.memory l.right l.count)))

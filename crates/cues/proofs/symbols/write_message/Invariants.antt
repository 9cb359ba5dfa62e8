use Rattle.std.proofs.Common.{◌≡◌, ◌+◌, map}
use Rattle.std.specs.List.{range_with_len}
use Rattle.theory.specs.Memory.{over}
use Rattle.cues.specs.Steps.{symbol_in}
use Rattle.cues.proofs.symbols.write_message.Given as goal

abbrev pub invariant-loop-place : goal.invariant-loop-place
invariant-loop-place l = l.message ≡ over l.initial.message 0 (map (λ place. symbol_in l.shape l.levels (l.start + place)) (range_with_len 0 l.place))

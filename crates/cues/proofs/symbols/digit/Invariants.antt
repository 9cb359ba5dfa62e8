use Rattle.std.proofs.Common.{◌≡◌, ◌/◌, ◌^◌}
use Rattle.cues.proofs.symbols.digit.Given as goal

abbrev pub invariant-loop : goal.invariant-loop
invariant-loop l = l.high ≡ l.level / (l.order ^ l.counter)

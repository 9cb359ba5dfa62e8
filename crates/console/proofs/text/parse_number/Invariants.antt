use Rattle.std.proofs.Common.{◌≡◌, ◌≤◌, drop}
use Rattle.console.specs.Text.{read_on}
use Rattle.console.proofs.text.parse_number.Given as goal

abbrev pub invariant-loop-b : goal.invariant-loop-b
invariant-loop-b l = (l.value ≤ 1000000000) × (read_on l.value (drop l.b-index l.word) ≡ read_on 0 l.word)

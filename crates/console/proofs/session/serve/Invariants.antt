use Rattle.std.proofs.Common.{◌≤◌}
use Rattle.console.specs.Text.{pieces_left}
use Rattle.console.proofs.session.serve.Given as goal

abbrev pub invariant-loop-line : goal.invariant-loop-line
invariant-loop-line g l = pieces_left l.lines.rest ≤ pieces_left l.initial.lines.rest

abbrev pub decreases-loop-line : goal.decreases-loop-line
decreases-loop-line g l = pieces_left l.lines.rest

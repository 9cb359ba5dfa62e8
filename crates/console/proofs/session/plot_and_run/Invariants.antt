use Rattle.std.proofs.Common.{◌≤◌}
use Rattle.console.specs.Text.{pieces_left}
use Rattle.console.proofs.session.plot_and_run.Given as goal

abbrev pub invariant-loop-at : goal.invariant-loop-at
invariant-loop-at g l = pieces_left l.lines.rest ≤ pieces_left l.initial.lines.rest

abbrev pub decreases-loop-at : goal.decreases-loop-at
decreases-loop-at g l = pieces_left l.lines.rest

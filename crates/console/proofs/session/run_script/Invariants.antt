use Rattle.std.proofs.Common.{◌+◌}
use Rattle.console.specs.Text.{pieces_left}
use Rattle.console.specs.declared.next.Next.TheVariants.{Line, End, Choose, Store, Start, Stop}
use Rattle.console.proofs.session.run_script.Given as goal

abbrev pub decreases-loop-next : goal.decreases-loop-next
decreases-loop-next l = elim l.next [ Choose name ↦ pieces_left l.lines.rest + 1 | Line ↦ 0 | End ↦ 0 | Store cues levels ↦ 0 | Start ↦ 0 | Stop ↦ 0 ]

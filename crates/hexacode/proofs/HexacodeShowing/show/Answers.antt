use Rattle.std.proofs.Common.{ℕ, List, [], ◌∷◌, set, sym, ap, ◌∙◌, lit≤}
use Rattle.theory.specs.Calls.{accepted}
use Rattle.theory.specs.Hexacode.{hexacode}
use Rattle.theory.proofs.Calls.{shown_short, shown_pair}
use Rattle.theory.proofs.Hexacode.{hexacode_shows}
use Rattle.theory.proofs.Memory.{settled_one}
use Rattle.hexacode.proofs.HexacodeShowing.show.Goals as goal

pub returns-then-memory : goal.returns-then-memory
returns-then-memory c =
    record {
      answer = λ fit. sym (shown_short hexacode (0 ∷ 0 ∷ 0 ∷ []) (1 ∷ 0 ∷ 0 ∷ []) c.args.memory.now c.if-memory.true);
      at_distance = λ fit. hexacode_shows;
    }

pub returns : goal.returns
returns c =
    record {
      answer = λ fit.
          ap (λ (ys : List ℕ). (accepted, set ys 3 1)) c.clear.ensures
          ∙ ap (λ (ys : List ℕ). (accepted, ys)) (settled_one 12 3 2 c.args.memory.now (lit≤ tt) c.if-memory.false)
          ∙ sym (shown_pair hexacode (0 ∷ 0 ∷ 0 ∷ []) (1 ∷ 0 ∷ 0 ∷ []) c.args.memory.now c.if-memory.false);
      at_distance = λ fit. hexacode_shows;
    }

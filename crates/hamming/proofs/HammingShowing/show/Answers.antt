use Rattle.std.proofs.Common.{ℕ, List, [], ◌∷◌, set, sym, ap, ◌∙◌, lit≤}
use Rattle.theory.specs.Calls.{accepted}
use Rattle.theory.specs.Hamming.{hamming}
use Rattle.theory.proofs.Calls.{shown_short, shown_pair}
use Rattle.theory.proofs.Hamming.{hamming_shows}
use Rattle.theory.proofs.Memory.{settled_one}
use Rattle.hamming.proofs.HammingShowing.show.Goals as goal

pub returns-then-memory : goal.returns-then-memory
returns-then-memory c =
    record {
      answer = λ fit. sym (shown_short hamming (0 ∷ 0 ∷ 0 ∷ 0 ∷ []) (0 ∷ 1 ∷ 0 ∷ 0 ∷ []) c.args.memory.now c.if-memory.true);
      at_distance = λ fit. hamming_shows;
    }

pub returns : goal.returns
returns c =
    record {
      answer = λ fit.
          ap (λ (ys : List ℕ). (accepted, set ys 5 1)) c.clear.ensures
          ∙ ap (λ (ys : List ℕ). (accepted, ys)) (settled_one 14 5 2 c.args.memory.now (lit≤ tt) c.if-memory.false)
          ∙ sym (shown_pair hamming (0 ∷ 0 ∷ 0 ∷ 0 ∷ []) (0 ∷ 1 ∷ 0 ∷ 0 ∷ []) c.args.memory.now c.if-memory.false);
      at_distance = λ fit. hamming_shows;
    }

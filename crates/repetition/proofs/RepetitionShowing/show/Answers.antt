use Rattle.std.proofs.Common.{ℕ, ◌*◌, List, [], ◌∷◌, set, sym, ap, ◌∙◌, arith}
use Rattle.theory.specs.Calls.{accepted}
use Rattle.theory.specs.Repetition.{repetition}
use Rattle.theory.proofs.Calls.{shown_short, shown_pair}
use Rattle.theory.proofs.Memory.{settled_one}
use Rattle.theory.proofs.Repetition.{repetition_shows}
use Rattle.repetition.proofs.RepetitionShowing.show.Goals as goal

pub returns-then-memory-both : goal.returns-then-memory-both
returns-then-memory-both g c =
    record {
      answer = λ fit. sym (shown_short (repetition c.args.self.now.n) (0 ∷ []) (1 ∷ []) c.args.memory.now c.if-memory-both.true);
      at_distance = λ fit. repetition_shows g.S.Alphabet.symbols c.args.self.now.n g.met.S.Alphabet.lawful.two_symbols;
    }

pub returns : goal.returns
returns g c =
    let n = c.args.self.now.n in
    let xs = c.args.memory.now in
    record {
      answer = λ fit.
          ap (λ (ys : List ℕ). (accepted, set ys 1 1)) c.clear.ensures
          ∙ ap (λ (ys : List ℕ). (accepted, ys)) (settled_one (2 * n) 1 0 xs (omega (arith, c.args.self.now.least)) c.if-memory-both.false)
          ∙ sym (shown_pair (repetition n) (0 ∷ []) (1 ∷ []) xs c.if-memory-both.false);
      at_distance = λ fit. repetition_shows g.S.Alphabet.symbols n g.met.S.Alphabet.lawful.two_symbols;
    }

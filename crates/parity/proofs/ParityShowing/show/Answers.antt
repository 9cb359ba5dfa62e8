use Rattle.std.proofs.Common.{ℕ, ◌-◌, ◌*◌, List, ◌∷◌, set, replicate, sym, ap, ◌∙◌, arith}
use Rattle.theory.specs.Calls.{accepted}
use Rattle.theory.specs.Parity.{parity}
use Rattle.theory.proofs.Calls.{shown_short, shown_pair}
use Rattle.theory.proofs.Memory.{settled_one}
use Rattle.theory.proofs.Parity.{parity_shows}
use Rattle.parity.proofs.ParityShowing.show.Goals as goal

pub returns-then-memory-both : goal.returns-then-memory-both
returns-then-memory-both g c =
    let n = c.args.self.now.n in
    record {
      answer = λ fit. sym (shown_short (parity g.S.Alphabet.symbols n) (replicate (n - 1) 0) (1 ∷ replicate (n - 2) 0) c.args.memory.now c.if-memory-both.true);
      at_distance = λ fit. parity_shows g.S.Alphabet.symbols g.met.S.Alphabet.lawful n c.args.self.now.least;
    }

pub returns : goal.returns
returns g c =
    let n = c.args.self.now.n in
    let xs = c.args.memory.now in
    record {
      answer = λ fit.
          ap (λ (ys : List ℕ). (accepted, set ys (n - 1) 1)) c.clear.ensures
          ∙ ap (λ (ys : List ℕ). (accepted, ys)) (settled_one (2 * n) (n - 1) (n - 2) xs (omega (arith, c.args.self.now.least)) c.if-memory-both.false)
          ∙ sym (shown_pair (parity g.S.Alphabet.symbols n) (replicate (n - 1) 0) (1 ∷ replicate (n - 2) 0) xs c.if-memory-both.false);
      at_distance = λ fit. parity_shows g.S.Alphabet.symbols g.met.S.Alphabet.lawful n c.args.self.now.least;
    }

use Rattle.std.proofs.Common.{ℕ, List, sym, ap, ◌∙◌, arith}
use Rattle.std.proofs.lemmas.Bool.{ltb-true, ltb-false}
use Rattle.theory.specs.Calls.{accepted}
use Rattle.theory.specs.Repetition.{repetition}
use Rattle.theory.proofs.Calls.{read_short}
use Rattle.repetition.proofs.Copies.{read_found, read_none_found}
use Rattle.repetition.proofs.RepetitionCode.read.Goals as goal

pub returns-then-memory-self : goal.returns-then-memory-self
returns-then-memory-self g c fit =
    sym (read_short g.S.Alphabet.symbols (repetition c.args.self.now.n) c.args.memory.now c.if-memory-self.true)

pub returns-then-not-toll_below : goal.returns-then-not-toll_below
returns-then-not-toll_below g c fit =
    read_none_found g.S.Alphabet.symbols c.args.self.now.n c.args.self.now.least c.args.self.now.most c.args.memory.now c.if-memory-self.false (omega (arith, ltb-false _ _ (sym c.if-not-toll_below.ensures), c.copies_damage.ensures.errors, c.copies_damage.ensures.erasures))

pub returns : goal.returns
returns g c fit =
    ap (λ (ys : List ℕ). (accepted, ys)) c.clear.ensures
    ∙ read_found g.S.Alphabet.symbols c.args.self.now.n c.args.self.now.least c.args.self.now.most c.args.memory.now c.if-memory-self.false (omega (arith, ltb-true _ _ (sym c.if-not-toll_below.ensures), c.copies_damage.ensures.errors, c.copies_damage.ensures.erasures))

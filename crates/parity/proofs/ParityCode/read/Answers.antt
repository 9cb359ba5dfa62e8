use Rattle.std.proofs.Common.{sym, ◌∙◌}
use Rattle.theory.specs.Parity.{parity}
use Rattle.theory.proofs.Calls.{read_short}
use Rattle.parity.proofs.Ways.{read_balanced, read_no_word}
use Rattle.parity.proofs.ParityCode.read.Goals as goal
use Rattle.parity.proofs.ParityCode.read.Goals.{then-count_marks-ne0-via-then-count_marks-ne0, then-count_marks-ne0-via-else-count_marks-ne0+then-sum_of_unmarked-ne0}

pub returns-then-memory-self : goal.returns-then-memory-self
returns-then-memory-self g c fit = sym (read_short g.S.Alphabet.symbols (parity g.S.Alphabet.symbols c.args.self.now.n) c.args.memory.now c.if-memory-self.true)

pub returns-then-count_marks-ne0 : goal.returns-then-count_marks-ne0
returns-then-count_marks-ne0 g c fit =
    read_no_word g.S.Alphabet.symbols g.met.S.Alphabet.lawful c.args.self.now.n c.args.self.now.least c.args.self.now.most c.args.memory.now c.if-memory-self.false (λ unmarked balanced.
    elim c.then-count_marks-ne0.branch [
      | then-count_marks-ne0-via-then-count_marks-ne0 w ↦ w.if-count_marks-ne0.true (c.count_marks.ensures ∙ unmarked)
      | then-count_marks-ne0-via-else-count_marks-ne0+then-sum_of_unmarked-ne0 w ↦ w.if-sum_of_unmarked-ne0.true (w.sum_of_unmarked.ensures ∙ balanced)
    ])

pub returns : goal.returns
returns g c fit =
    read_balanced g.S.Alphabet.symbols g.met.S.Alphabet.lawful c.args.self.now.n c.args.self.now.least c.args.self.now.most c.args.memory.now c.if-memory-self.false (sym c.count_marks.ensures ∙ c.if-count_marks-ne0.false) (sym c.sum_of_unmarked.ensures ∙ c.if-sum_of_unmarked-ne0.false)

use Rattle.std.proofs.Common.{ℕ, ◌-◌, take, set, sym, ap, ◌∙◌, arith, length-take}
use Rattle.theory.specs.Alphabets.{minus}
use Rattle.theory.specs.Calls.{accepted}
use Rattle.theory.specs.Parity.{parity}
use Rattle.theory.proofs.Calls.{mended_short, first_mark_within}
use Rattle.parity.proofs.Ways.{mend_balanced, mend_unbalanced, mend_many, mend_one}
use Rattle.parity.proofs.ParityCode.mend.Goals as goal

pub returns-then-memory-self : goal.returns-then-memory-self
returns-then-memory-self g c fit = sym (mended_short g.S.Alphabet.symbols (parity g.S.Alphabet.symbols c.args.self.now.n) c.args.memory.now c.if-memory-self.true)

pub returns-then-sum-eq0 : goal.returns-then-sum-eq0
returns-then-sum-eq0 g c fit =
    mend_balanced g.S.Alphabet.symbols g.met.S.Alphabet.lawful c.args.self.now.n c.args.self.now.least c.args.self.now.most c.args.memory.now c.if-memory-self.false (sym c.in_default.ensures) (sym c.sum_of_unmarked-sum.ensures ∙ c.if-sum-eq0.true)

pub returns-else-sum-eq0 : goal.returns-else-sum-eq0
returns-else-sum-eq0 g c fit =
    mend_unbalanced g.S.Alphabet.symbols g.met.S.Alphabet.lawful c.args.self.now.n c.args.self.now.least c.args.self.now.most c.args.memory.now c.if-memory-self.false (sym c.in_default.ensures) (λ z. c.if-sum-eq0.false (c.sum_of_unmarked-sum.ensures ∙ z))

pub returns-then-count_marks-ne1 : goal.returns-then-count_marks-ne1
returns-then-count_marks-ne1 g c fit =
    mend_many g.S.Alphabet.symbols g.met.S.Alphabet.lawful c.args.self.now.n c.args.self.now.least c.args.self.now.most c.args.memory.now c.if-memory-self.false c.in-Some.place (sym c.in-Some.ensures) (λ one. c.if-count_marks-ne1.true (c.count_marks.ensures ∙ one))

pub bounds-memory-place : goal.bounds-memory-place
bounds-memory-place g c =
    let word = take (c.args.self.now.n - 0) c.args.memory.now in
    omega (arith, first_mark_within g.S.Alphabet.symbols.q word c.in-Some.place (sym c.in-Some.ensures), length-take (c.args.self.now.n - 0) c.args.memory.now)

pub returns : goal.returns
returns g c fit =
    ap (λ (v : ℕ). (accepted, set c.args.memory.now c.in-Some.place v)) (c.negate.ensures ∙ ap (minus g.S.Alphabet.symbols) c.sum_of_unmarked-sum.ensures)
    ∙ mend_one g.S.Alphabet.symbols g.met.S.Alphabet.lawful c.args.self.now.n c.args.self.now.least c.args.self.now.most c.args.memory.now c.if-memory-self.false c.in-Some.place (sym c.in-Some.ensures) (sym c.count_marks.ensures ∙ c.if-count_marks-ne1.false)

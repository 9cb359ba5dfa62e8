use Rattle.std.proofs.Common.{◌≡◌, ℕ, ◌*◌, ◌/◌, ◌%◌, List, get_or, take, drop, Ok, ap, ◌∙◌}
use Rattle.theory.specs.Memory.{part}
use Rattle.cues.specs.Shapes.{plan_in}
use Rattle.cues.specs.Steps.{SameBehind, symbols_in}
use Rattle.cues.proofs.Sizes.{fit_store}
use Rattle.cues.proofs.WordReads.{symbol_read, loaded_next}
use Rattle.cues.proofs.store.Store.next_symbol.Goals as goal
use Rattle.cues.proofs.store.Store.next_symbol.Goals.{then-place-dimension-eq0+in_ok-read_word, else-place-dimension-eq0}

pub returns : goal.returns
returns g c h reached loaded =
    let fit = fit_store g.met.C.Symbols.Alphabet.lawful (g.met.C.Code.keeps c.args.self.now.code h) (c.args.self.now.fits h) in
    let A = g.C.Symbols.Alphabet.symbols in
    let code = c.args.self.now.code in
    let shape = c.args.self.now.shape in
    let m = g.C.Code.meaning code in
    let k = fit.numbers.numbers.dimension in
    let place = c.args.place in
    let memory = c.if-place-dimension-eq0.memory in
    let symbols = symbols_in A m (plan_in shape) c.args.cue c.args.cells.now in
    let read : (take m.k memory ≡ part symbols (place / m.k * m.k) m.k) × SameBehind m.w c.args.memory.now memory = elim c.if-place-dimension-eq0.branch [
      | then-place-dimension-eq0+in_ok-read_word w ↦
          let one = w.read_word.ensures h reached in
          (ap (take m.k) w.memory-is ∙ one.message ∙ ap (λ (j : ℕ). part symbols (place / j * m.k) m.k) k, ap (λ (xs : List ℕ). drop m.w xs) w.memory-is ∙ one.rest)
      | else-place-dimension-eq0 w ↦
          (ap (take m.k) w.memory-is ∙ loaded (λ e. w.if-place-dimension-eq0.false (ap (λ (j : ℕ). place % j) k ∙ e)), ap (λ (xs : List ℕ). drop m.w xs) w.memory-is)
    ] in
    record {
      answers = ap Ok (ap (λ (j : ℕ). get_or memory (place % j) 0) k ∙ symbol_read fit c.args.cue c.args.cells.now reached place memory read.0);
      loaded = loaded_next fit c.args.cue c.args.cells.now reached place memory read.0;
      rest = read.1;
    }

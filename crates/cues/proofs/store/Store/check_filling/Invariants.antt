use Rattle.std.proofs.Common.{◌≡◌, ◌-◌, false, ltb, take}
use Rattle.std.specs.List.{AllByRecursion as All}
use Rattle.store_theory.specs.Layout.{symbol_count, filling}
use Rattle.cues.specs.Shapes.{plan_in}
use Rattle.cues.specs.Stores.{of_store}
use Rattle.cues.specs.Steps.{SameBehind, AllReached, symbols_in, Loaded}
use Rattle.cues.proofs.store.Store.check_filling.Given as goal

abbrev pub invariant-loop-place : goal.invariant-loop-place
invariant-loop-place g l =
    g.C.Code.fit l.self.code → of_store l.self AllReached l.cue l.cells → of_store l.self Loaded l.cue l.cells (symbol_count g.C.Symbols.Alphabet.symbols (plan_in l.self.shape)) l.initial.memory →
    All (λ x. ltb 0 x ≡ false) (take (l.place - symbol_count g.C.Symbols.Alphabet.symbols (plan_in l.self.shape)) (filling g.C.Symbols.Alphabet.symbols (plan_in l.self.shape) (of_store l.self symbols_in l.cue l.cells)))
    × of_store l.self Loaded l.cue l.cells l.place l.memory
    × SameBehind (g.C.Code.meaning l.self.code).w l.initial.memory l.memory

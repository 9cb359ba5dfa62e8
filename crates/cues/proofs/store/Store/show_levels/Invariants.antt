use Rattle.std.proofs.Common.{◌≡◌, ◌*◌, false, ltb, take}
use Rattle.std.specs.List.{AllByRecursion as All}
use Rattle.store_theory.specs.Layout.{level_numbers}
use Rattle.theory.specs.Memory.{over}
use Rattle.cues.specs.Shapes.{plan_in}
use Rattle.cues.specs.Stores.{of_store}
use Rattle.cues.specs.Steps.{SameBehind, AllReached, symbols_in, Loaded}
use Rattle.cues.proofs.store.Store.show_levels.Given as goal

abbrev pub invariant-loop-level : goal.invariant-loop-level
invariant-loop-level g l =
    g.C.Code.fit l.self.code → of_store l.self AllReached l.cue l.cells →
    All (λ x. ltb 255 x ≡ false) (take l.level (level_numbers g.C.Symbols.Alphabet.symbols (plan_in l.self.shape) (of_store l.self symbols_in l.cue l.cells)))
    × (l.levels ≡ over l.initial.levels 0 (take l.level (level_numbers g.C.Symbols.Alphabet.symbols (plan_in l.self.shape) (of_store l.self symbols_in l.cue l.cells))))
    × of_store l.self Loaded l.cue l.cells (l.level * g.C.Symbols.Alphabet.symbols.b) l.memory
    × SameBehind (g.C.Code.meaning l.self.code).w l.initial.memory l.memory

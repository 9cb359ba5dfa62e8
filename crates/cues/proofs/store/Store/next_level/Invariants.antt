use Rattle.std.proofs.Common.{◌≡◌, ◌+◌, ◌*◌, take}
use Rattle.std.specs.Int.Digits.{number_from_digits}
use Rattle.theory.specs.Memory.{part}
use Rattle.cues.specs.Stores.{of_store}
use Rattle.cues.specs.Steps.{as_byte, SameBehind, AllReached, symbols_in, Loaded}
use Rattle.cues.proofs.store.Store.next_level.Given as goal

abbrev pub invariant-loop-place : goal.invariant-loop-place
invariant-loop-place g l =
    g.C.Code.fit l.self.code → of_store l.self AllReached l.cue l.cells → of_store l.self Loaded l.cue l.cells (l.level * g.C.Symbols.Alphabet.symbols.b) l.initial.memory →
    (l.number ≡ as_byte (number_from_digits l.self.shape.order (take l.place (part (of_store l.self symbols_in l.cue l.cells) l.start l.self.shape.width))))
    × of_store l.self Loaded l.cue l.cells (l.start + l.place) l.memory
    × SameBehind (g.C.Code.meaning l.self.code).w l.initial.memory l.memory

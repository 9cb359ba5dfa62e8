use Rattle.std.proofs.Common.{◌≡◌, take}
use Rattle.store_theory.specs.Calls.{all_levels}
use Rattle.store_theory.specs.Layout.{cell_of_word, words_of, together}
use Rattle.theory.specs.Memory.{over}
use Rattle.cues.specs.Shapes.{plan_in}
use Rattle.cues.specs.Stores.{of_store}
use Rattle.cues.specs.Steps.{SameBehind}
use Rattle.cues.proofs.store.Store.write_words.Given as goal

abbrev pub invariant-loop-word : goal.invariant-loop-word
invariant-loop-word g l =
    g.C.Code.fit l.self.code →
    (l.cells ≡ over l.initial.cells (of_store l.self cell_of_word l.cue 0) (together (take l.word (of_store l.self words_of (all_levels (plan_in l.self.shape) l.levels)))))
    × SameBehind (g.C.Code.meaning l.self.code).w l.initial.memory l.memory

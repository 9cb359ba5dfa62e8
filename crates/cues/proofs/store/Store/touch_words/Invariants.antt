use Rattle.std.proofs.Common.{◌≡◌, ◌≤◌, map, take, count_by}
use Rattle.store_theory.specs.Calls.{touched_word, changes, is_beyond_reach}
use Rattle.store_theory.specs.Layout.{cell_of_word, cue_words, together}
use Rattle.theory.specs.Memory.{over}
use Rattle.cues.specs.Stores.{of_store}
use Rattle.cues.specs.Steps.{SameBehind}
use Rattle.cues.proofs.store.Store.touch_words.Given as goal

abbrev pub invariant-loop-word : goal.invariant-loop-word
invariant-loop-word g l =
    (l.changed ≤ l.word) × (l.beyond_reach ≤ l.word) × (g.C.Code.fit l.self.code →
    (l.changed ≡ count_by (changes g.C.Symbols.Alphabet.symbols (g.C.Code.meaning l.self.code)) (take l.word (of_store l.self cue_words l.initial.cells l.cue)))
    × (l.beyond_reach ≡ count_by (is_beyond_reach g.C.Symbols.Alphabet.symbols (g.C.Code.meaning l.self.code)) (take l.word (of_store l.self cue_words l.initial.cells l.cue)))
    × (l.cells ≡ over l.initial.cells (of_store l.self cell_of_word l.cue 0) (together (take l.word (map (touched_word g.C.Symbols.Alphabet.symbols (g.C.Code.meaning l.self.code)) (of_store l.self cue_words l.initial.cells l.cue)))))
    × SameBehind (g.C.Code.meaning l.self.code).w l.initial.memory l.memory)

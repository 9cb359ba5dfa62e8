use Rattle.std.proofs.Common.{◌≡◌, false, take}
use Rattle.std.specs.List.{AllByRecursion as All}
use Rattle.store_theory.specs.Calls.{is_beyond_reach}
use Rattle.store_theory.specs.Layout.{cue_words}
use Rattle.cues.specs.Stores.{of_store}
use Rattle.cues.specs.Steps.{SameBehind}
use Rattle.cues.proofs.store.Store.mend_words.Given as goal

abbrev pub invariant-loop-word : goal.invariant-loop-word
invariant-loop-word g l =
    g.C.Code.fit l.self.code →
    All (λ x. is_beyond_reach g.C.Symbols.Alphabet.symbols (g.C.Code.meaning l.self.code) x ≡ false) (take l.word (of_store l.self cue_words l.cells l.cue)) × SameBehind (g.C.Code.meaning l.self.code).w l.initial.memory l.memory

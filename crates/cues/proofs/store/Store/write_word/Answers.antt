use Rattle.std.proofs.Common.{ℕ, refl, ap, ◌∙◌}
use Rattle.codes.specs.Refusals.{outcome}
use Rattle.theory.specs.Memory.{copied}
use Rattle.store_theory.specs.Calls.{fault_of_code}
use Rattle.cues.proofs.Outcomes.{err_is_refused}
use Rattle.cues.proofs.Sizes.{fit_store}
use Rattle.cues.proofs.WordWrites.{SentWord, sent_accepts, sent_leaves, sent_copied}
use Rattle.cues.proofs.store.Store.write_word.Goals as goal

pub returns-in_err-of_word : goal.returns-in_err-of_word
returns-in_err-of_word g c h =
    let w : SentWord (fit_store g.met.C.Symbols.Alphabet.lawful (g.met.C.Code.keeps c.args.self.now.code h) (c.args.self.now.fits h)) c.args.cue c.args.word c.args.levels.now c.args.cells.now c.args.memory.now c.write_message.new.message (outcome c.send.result) c.send.new.memory = record { inside = c.requires.there; enough = c.requires.enough; fewer = c.requires.fewer; written = c.write_message.ensures; sends = c.send.ensures h } in
    absurd (err_is_refused c.of_word.result c.in_err-of_word.field-0.0 c.in_err-of_word.was (c.of_word.ensures ∙ ap (fault_of_code c.args.cue c.args.word) (sent_accepts w)))

pub returns : goal.returns
returns g c h =
    let w : SentWord (fit_store g.met.C.Symbols.Alphabet.lawful (g.met.C.Code.keeps c.args.self.now.code h) (c.args.self.now.fits h)) c.args.cue c.args.word c.args.levels.now c.args.cells.now c.args.memory.now c.write_message.new.message (outcome c.send.result) c.send.new.memory = record { inside = c.requires.there; enough = c.requires.enough; fewer = c.requires.fewer; written = c.write_message.ensures; sends = c.send.ensures h } in
    record {
      accepts = refl;
      written = c.copy_between.ensures ∙ ap (λ (a : ℕ). copied c.args.cells.now a c.send.new.memory 0 c.args.self.now.shape.numbers.length) c.word_start-start.ensures ∙ sent_copied w;
      rest = sent_leaves w;
    }

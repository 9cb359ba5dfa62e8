use Rattle.std.proofs.Common.{◌≡◌, ℕ, ◌+◌, ◌*◌, map, sym, ap, ◌∙◌, arith}
use Rattle.std.specs.List.{range_with_len}
use Rattle.std.proofs.lemmas.List.FromFn.{length-map-range_with_len}
use Rattle.store_theory.proofs.Progress.{over_nothing}
use Rattle.theory.specs.Memory.{over}
use Rattle.cues.specs.Steps.{symbol_in}
use Rattle.cues.proofs.Messages.{counted_more, over_all}
use Rattle.cues.proofs.symbols.write_message.Goals as goal

pub loop-place-init : goal.loop-place-init
loop-place-init c = sym (over_nothing c.args.message.now 0)

pub loop-place-preserved : goal.loop-place-preserved
loop-place-preserved c =
    counted_more (λ place. symbol_in c.args.shape.now c.args.levels.now (c.args.word * c.args.shape.now.numbers.dimension + place)) c.args.message.now c.loop-place.message c.loop-place.place c.symbol.result c.loop-place.invariant c.symbol.ensures (omega arith)

pub returns : goal.returns
returns c =
    let symbol = λ (place : ℕ). symbol_in c.args.shape.now c.args.levels.now (c.args.word * c.args.shape.now.numbers.dimension + place) in
    let all : c.loop-place.place ≡ c.args.shape.now.numbers.dimension = omega arith in
    c.loop-place.invariant
    ∙ ap (λ (k : ℕ). over c.args.message.now 0 (map symbol (range_with_len 0 k))) all
    ∙ over_all c.args.message.now (map symbol (range_with_len 0 c.args.shape.now.numbers.dimension)) (omega (arith, length-map-range_with_len symbol 0 c.args.shape.now.numbers.dimension))

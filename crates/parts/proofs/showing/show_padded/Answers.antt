use Rattle.std.proofs.Common.{ℕ, ◌+◌, ◌-◌, ◌/◌, ◌&&◌, leb, List, sym, ap, ◌∙◌, ap₂}
use Rattle.codes.specs.Refusals.{outcome}
use Rattle.theory.specs.Calls.{accepted}
use Rattle.theory.specs.Memory.{moved, cleared}
use Rattle.theory.proofs.Calls.{paired}
use Rattle.theory.proofs.Padding.{padded_no_memory, padded_no_room, padded_shown_at}
use Rattle.parts.proofs.Outcomes.{err_is_refused}
use Rattle.parts.proofs.showing.show_padded.Goals as goal
use Rattle.parts.proofs.showing.show_padded.Goals.{then-end-memory-via-then-end-memory, then-end-memory-via-else-end-memory+then-not-has_room}

pub returns-then-end-memory : goal.returns-then-end-memory
returns-then-end-memory g c fit =
    elim c.then-end-memory.branch [
      | then-end-memory-via-then-end-memory w ↦ padded_no_memory (g.C.Code.meaning c.args.code.now) (g.C.Showing.pair c.args.code.now).0 (g.C.Showing.pair c.args.code.now).1 c.args.before c.args.after c.args.end c.args.memory.now w.if-end-memory.true
      | then-end-memory-via-else-end-memory+then-not-has_room w ↦
          padded_no_room (g.C.Code.meaning c.args.code.now) (g.C.Showing.pair c.args.code.now).0 (g.C.Showing.pair c.args.code.now).1 c.args.before c.args.after c.args.end c.args.memory.now
          (ap₂ (λ (k m : ℕ). leb (c.args.before + (k + c.args.after)) (c.args.end / 2) && leb m (c.args.end / 2)) (sym (c.in-Some.ensures fit).dimension) (sym (c.in-Some.ensures fit).working) ∙ sym w.if-not-has_room.ensures)
    ]

pub returns-in_err-show : goal.returns-in_err-show
returns-in_err-show g c fit =
    let way = padded_shown_at (g.C.Code.meaning c.args.code.now) (g.C.Showing.pair c.args.code.now).0 (g.C.Showing.pair c.args.code.now).1 c.in-Some.numbers.dimension c.in-Some.numbers.working (c.in-Some.ensures fit).dimension (c.in-Some.ensures fit).working (g.met.C.Showing.shows c.args.code.now fit).one.long (g.met.C.Showing.shows c.args.code.now fit).other.long (g.met.C.Code.keeps c.args.code.now fit).room_for_message c.args.before c.args.after c.args.end c.args.memory.now c.if-end-memory.false (sym c.if-not-has_room.ensures) (outcome c.show.result) c.show.new.memory c.show.auto.memory (c.show.ensures.answer fit) in
    absurd (err_is_refused c.show.result c.in_err-show.field-0.0 c.in_err-show.was way.0)

pub returns : goal.returns
returns g c fit =
    let k = c.in-Some.numbers.dimension in
    let before = c.args.before in
    let after = c.args.after in
    let second = before + (k + after) + before in
    let way = padded_shown_at (g.C.Code.meaning c.args.code.now) (g.C.Showing.pair c.args.code.now).0 (g.C.Showing.pair c.args.code.now).1 c.in-Some.numbers.dimension c.in-Some.numbers.working (c.in-Some.ensures fit).dimension (c.in-Some.ensures fit).working (g.met.C.Showing.shows c.args.code.now fit).one.long (g.met.C.Showing.shows c.args.code.now fit).other.long (g.met.C.Code.keeps c.args.code.now fit).room_for_message c.args.before c.args.after c.args.end c.args.memory.now c.if-end-memory.false (sym c.if-not-has_room.ensures) (outcome c.show.result) c.show.new.memory c.show.auto.memory (c.show.ensures.answer fit) in
    ap (paired accepted) (c.clear-3.ensures
    ∙ ap (λ (z : List ℕ). cleared z (second + k) (c.args.end - (second + k))) (c.clear-2.ensures
    ∙ ap (λ (z : List ℕ). cleared z (before + k) (after + before)) (c.clear.ensures
    ∙ ap (λ (z : List ℕ). cleared z 0 before) (c.move_within-2.ensures
    ∙ ap (λ (z : List ℕ). moved z 0 k before) c.move_within.ensures))))
    ∙ way.1

use Rattle.std.proofs.Common.{◌^◌, sym, ap, ◌∙◌, arith}
use Rattle.theory.specs.NamedPiles.{reed_muller}
use Rattle.theory.specs.Piles.{leaf}
use Rattle.theory.specs.Repetition.{repetition, repetition_making}
use Rattle.piles.proofs.Numbers.{refused_not_made, reed_muller_length, repetition_of_power}
use Rattle.piles.proofs.PlotkinRepetitionTwoReedMuller.make.Goals as goal

pub returns-in_err-right-clause-making : goal.returns-in_err-right-clause-making
returns-in_err-right-clause-making g c small =
    let m = g.C.ReedMuller.m in
    let below = c.in_ok-left.ensures.making (omega arith) in
    let length = reed_muller_length m (g.C.Code.meaning c.in_ok-left.left) (omega arith) below in
    absurd (refused_not_made _ (repetition (2 ^ m)) (c.in_err-right.ensures c.in_ok-left.ensures.fits ∙ ap repetition_making length ∙ repetition_of_power m (omega arith)))

pub returns-clause-making : goal.returns-clause-making
returns-clause-making g c small =
    let m = g.C.ReedMuller.m in
    let below = c.in_ok-left.ensures.making (omega arith) in
    let length = reed_muller_length m (g.C.Code.meaning c.in_ok-left.left) (omega arith) below in
    c.new.ensures.one_step_of_a_pile c.in_ok-left.ensures.fits tt (reed_muller m) (leaf (repetition (2 ^ m))) (sym below) (sym (c.in_ok-right.ensures c.in_ok-left.ensures.fits ∙ ap repetition_making length ∙ repetition_of_power m (omega arith)))

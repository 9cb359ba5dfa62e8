use Rattle.theory.specs.Repetition.{repetition_making}
use Rattle.piles.proofs.RepetitionTwoReedMuller.make.Goals as goal

pub returns-clause-making : goal.returns-clause-making
unfolding repetition_making
returns-clause-making c small = c.new.ensures

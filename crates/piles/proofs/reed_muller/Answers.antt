use Rattle.piles.proofs.Numbers.{reed_muller_numbers}
use Rattle.piles.proofs.reed_muller.Goals as goal

pub returns-clause-numbers : goal.returns-clause-numbers
returns-clause-numbers g c = reed_muller_numbers g.C.ReedMuller.m

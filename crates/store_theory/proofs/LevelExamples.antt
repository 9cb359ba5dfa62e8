-- The worked examples of levels hold, by computing. Assumes nothing.
use Rattle.std.proofs.Common.{refl}
use Rattle.theory.specs.Joins.{plotkin_making}
use Rattle.store_theory.specs.Layout.{word_count}
use Rattle.store_theory.specs.LevelCases.{LevelExamplesHold}

pub level_examples_hold : LevelExamplesHold
unfolding plotkin_making word_count
level_examples_hold = (refl, (refl, (refl, (refl, (refl, ((refl, refl), ((refl, refl), tt)))))))

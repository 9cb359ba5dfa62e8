-- The repetition code: the word is n copies of the one symbol of the message.
use Rattle.std.specs.Prelude.{ℕ, cond, ◌&&◌, replicate, Some, None, ◌==◌, nat_le, slice_index}
use Rattle.theory.specs.Meanings.{Meaning, Making, made, refused_making}

abbrev pub repetition : ℕ → Meaning
repetition len =
    record { n = len; k = 1; d = len; w = len; word = λ s. replicate len (slice_index s 0); carrier = λ i. cond (i == 0) (Some 0) None }

unfoldable pub repetition_making : ℕ → Making
repetition_making len = cond (nat_le 1 len && nat_le len 64) (made (repetition len)) (refused_making 11)

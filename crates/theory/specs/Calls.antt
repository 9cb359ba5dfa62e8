-- The calls of a code: from the whole memory handed over to the outcome and the whole memory afterwards.
use Rattle.std.specs.Prelude.{ℕ, suc, ◌*◌, cond, List, [], ◌∷◌, ◌++◌, length, take, Some, None, Option, nat_lt}
use Rattle.std.specs.Option.{option_map}
use Rattle.theory.specs.Alphabets.{Arithmetic}
use Rattle.theory.specs.Meanings.{Meaning}
use Rattle.theory.specs.Memory.{settled}
use Rattle.theory.specs.Reach.{message_in_reach, message_of_word}

-- accepted, or refused with a number and the values that go with it
pub data Outcome : Type 0 where
  accepted : Outcome
  refused : ℕ → List ℕ → Outcome

-- what a call answers: its outcome, and the whole memory afterwards
abbrev pub Answer : Type 0
Answer = Outcome × List ℕ

-- the place of the first mark
abbrev pub first_mark : ℕ → List ℕ → Option ℕ
first_mark q [] = None
first_mark q (x ∷ xs) = cond (nat_lt x q) (option_map suc (first_mark q xs)) (Some 0)

-- send: the message in the first k bytes becomes its word in the first n
abbrev pub sent_by : Meaning → List ℕ → Option ℕ → Answer
sent_by m xs None = (accepted, settled m.w (m.word (take m.k xs)) xs)
sent_by m xs (Some place) = (refused 2 (place ∷ []), xs)

unfoldable pub sent : Arithmetic → Meaning → List ℕ → Answer
sent A m xs = cond (nat_lt (length xs) m.w) (refused 1 [], xs) (sent_by m xs (first_mark A.q (take m.k xs)))

-- mend (errors-and-erasures decoding): a received word in the first n bytes becomes the word of the message in reach
abbrev pub mended_by : Meaning → List ℕ → Option (List ℕ) → Answer
mended_by m xs None = (refused 3 [], settled m.w (take m.n xs) xs)
mended_by m xs (Some s) = (accepted, settled m.w (m.word s) xs)

unfoldable pub mended : Arithmetic → Meaning → List ℕ → Answer
mended A m xs = cond (nat_lt (length xs) m.w) (refused 1 [], xs) (mended_by m xs (message_in_reach A m (take m.n xs)))

-- read: a word in the first n bytes becomes its message in the first k
abbrev pub read_by : Meaning → List ℕ → Option (List ℕ) → Answer
read_by m xs None = (refused 4 [], settled m.w (take m.n xs) xs)
read_by m xs (Some s) = (accepted, settled m.w s xs)

unfoldable pub read_back : Arithmetic → Meaning → List ℕ → Answer
read_back A m xs = cond (nat_lt (length xs) m.w) (refused 1 [], xs) (read_by m xs (message_of_word A m (take m.n xs)))

-- show: two messages, one after the other
unfoldable pub shown : Meaning → List ℕ → List ℕ → List ℕ → Answer
shown m s t xs =
    cond (nat_lt (length xs) (2 * m.w)) (refused 1 [], xs) (accepted, settled (2 * m.w) (s ++ t) xs)

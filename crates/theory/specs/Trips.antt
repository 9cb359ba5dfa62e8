-- What two calls in a row come to, and what mend is in the words of reach. Each holds of every code that keeps its meaning.
use Rattle.std.specs.Prelude.{◌≡◌, ℕ, ◌<◌, ◌≤◌, cond, List, [], ◌∷◌, length, take, Some, None, Option, nat_lt}
use Rattle.theory.specs.Alphabets.{Arithmetic}
use Rattle.theory.specs.Calls.{Outcome, Answer, accepted, refused, first_mark}
use Rattle.theory.specs.Meanings.{Meaning}
use Rattle.theory.specs.Memory.{settled}
use Rattle.theory.specs.Reach.{InReach, message_of_word}

-- send, then read: the message is back in the first k bytes, with zeros behind it
abbrev pub message_returned_by : Meaning → List ℕ → Option ℕ → Answer
message_returned_by m xs None = (accepted, settled m.w (take m.k xs) xs)
message_returned_by m xs (Some place) = (refused 2 (place ∷ []), xs)

unfoldable pub message_returned : Arithmetic → Meaning → List ℕ → Answer
message_returned A m xs =
    cond (nat_lt (length xs) m.w) (refused 1 [], xs) (message_returned_by m xs (first_mark A.q (take m.k xs)))

-- read, then send: the word is back in the first n bytes, with zeros behind it
abbrev pub word_returned_by : Option (List ℕ) → Outcome
word_returned_by None = refused 4 []
word_returned_by (Some s) = accepted

unfoldable pub word_returned : Arithmetic → Meaning → List ℕ → Answer
word_returned A m xs =
    cond (nat_lt (length xs) m.w) (refused 1 [], xs) (word_returned_by (message_of_word A m (take m.n xs)), settled m.w (take m.n xs) xs)

-- mend accepts exactly when some message is in reach, and gives that message's word
pub record MendsWhatIsInReach (A : Arithmetic) (m : Meaning) (before : List ℕ) (answer : Outcome) (after : List ℕ) : Type 0 where
  pub short : length before < m.w → (answer ≡ refused 1 []) × (after ≡ before)
  pub gives : m.w ≤ length before → (s : List ℕ) → InReach A m (take m.n before) s → (answer ≡ accepted) × (after ≡ settled m.w (m.word s) before)
  pub accepts : answer ≡ accepted → (s : List ℕ) × InReach A m (take m.n before) s
  pub refuses : m.w ≤ length before → ((s : List ℕ) → InReach A m (take m.n before) s → ⊥) → (answer ≡ refused 3 []) × (after ≡ settled m.w (take m.n before) before)

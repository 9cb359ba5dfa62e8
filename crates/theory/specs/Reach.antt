-- Which message a received word still tells.
use Rattle.std.specs.Prelude.{ℕ, zero, suc, ◌<◌, Bool, true, false, cond, ◌&&◌, List, [], ◌∷◌, map, Some, None, Option, ◌==◌, nat_lt}
use Rattle.std.specs.List.{range_with_len, flat_map}
use Rattle.std.specs.Option.{option_map}
use Rattle.theory.specs.Alphabets.{Arithmetic}
use Rattle.theory.specs.Meanings.{Meaning}
use Rattle.theory.specs.Words.{Symbols, toll}

-- a message is in reach of a received word if its toll is below the distance
pub record InReach (A : Arithmetic) (m : Meaning) (received : List ℕ) (s : List ℕ) : Type 0 where
  pub message : Symbols A.q m.k s
  pub near : toll A.q (m.word s) received < m.d

-- all messages of k symbols in counting order, the first symbol the most significant
abbrev pub messages : ℕ → ℕ → List (List ℕ)
messages q zero = [] ∷ []
messages q (suc k) = flat_map (λ x. map (λ s. x ∷ s) (messages q k)) (range_with_len 0 q)

-- the first that passes the test
abbrev pub first : {X : Type 0} → (X → Bool) → List X → Option X
first test [] = None
first test (x ∷ xs) = cond (test x) (Some x) (first test xs)

-- the message in reach, if there is one
unfoldable pub message_in_reach : Arithmetic → Meaning → List ℕ → Option (List ℕ)
message_in_reach A m received = first (λ s. nat_lt (toll A.q (m.word s) received) m.d) (messages A.q m.k)

-- its word
abbrev pub word_in_reach : Arithmetic → Meaning → List ℕ → Option (List ℕ)
word_in_reach A m received = option_map m.word (message_in_reach A m received)

abbrev pub same : List ℕ → List ℕ → Bool
same [] [] = true
same [] (y ∷ ys) = false
same (x ∷ xs) [] = false
same (x ∷ xs) (y ∷ ys) = x == y && same xs ys

-- the message whose word this is, if there is one
unfoldable pub message_of_word : Arithmetic → Meaning → List ℕ → Option (List ℕ)
message_of_word A m xs = first (λ s. same (m.word s) xs) (messages A.q m.k)

-- All that the store's proofs know of mending. Only three laws of reach are used: at most one message is in reach; a message
-- whose toll is below the distance is in reach; and what mend answers in terms of the message found. So whatever relation of
-- reach keeps these three serves the store unaltered. Assumes nothing.
use Rattle.std.proofs.Common.{◌≡◌, ℕ, ◌<◌, false, not, List, length, is_some, Some, None, Option, unwrap_or, refl, ap}
use Rattle.std.specs.Option.{option_map}
use Rattle.theory.specs.Alphabets.{Arithmetic}
use Rattle.theory.specs.Meanings.{Meaning, Keeps}
use Rattle.theory.specs.Reach.{InReach, message_in_reach}
use Rattle.theory.specs.Words.{Symbols, toll}
use Rattle.theory.proofs.Reach.{found_in_reach, in_reach_found}
use Rattle.store_theory.specs.Calls.{touched_word, is_beyond_reach}

-- a message whose toll is below the distance is in reach
near_in_reach : (A : Arithmetic) (m : Meaning) (received s : List ℕ) → Symbols A.q m.k s → toll A.q (m.word s) received < m.d → InReach A m received s
near_in_reach A m received s h near = record { message = h; near = near }

-- what is found is a message
found_is_message : (A : Arithmetic) (m : Meaning) (received s : List ℕ) → message_in_reach A m received ≡ Some s → Symbols A.q m.k s
found_is_message A m received s e = (found_in_reach A m received s e).message

module _ (A : Arithmetic) (m : Meaning) (keeps : Keeps A m) (received : List ℕ) (long : length received ≡ m.n) where
  -- a message near enough is the one found, since no other is in reach
  pub near_found : (s : List ℕ) → Symbols A.q m.k s → toll A.q (m.word s) received < m.d → message_in_reach A m received ≡ Some s
  near_found s h near = in_reach_found A m keeps received s long (near_in_reach A m received s h near)

  pub near_touched : (s : List ℕ) → Symbols A.q m.k s → toll A.q (m.word s) received < m.d → touched_word A m received ≡ m.word s
  near_touched s h near = ap (λ (o : Option (List ℕ)). unwrap_or (option_map m.word o) received) (near_found s h near)

  pub near_within : (s : List ℕ) → Symbols A.q m.k s → toll A.q (m.word s) received < m.d → is_beyond_reach A m received ≡ false
  near_within s h near = ap (λ (o : Option (List ℕ)). not (is_some o)) (near_found s h near)

  -- a word stays as long as it was, whatever is found
  pub touched_length : length (touched_word A m received) ≡ m.n
  touched_length = go (message_in_reach A m received) refl
    where
      go : (o : Option (List ℕ)) → message_in_reach A m received ≡ o → length (unwrap_or (option_map m.word o) received) ≡ m.n
      go None e = long
      go (Some s) e = (keeps.words s (found_is_message A m received s e)).long

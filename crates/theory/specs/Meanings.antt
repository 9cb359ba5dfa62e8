-- What a code means, and what it has to keep.
use Rattle.std.specs.Prelude.{◌≡◌, ℕ, ◌<◌, ◌≤◌, List, Some, None, Option, ◌≢◌, slice_index}
use Rattle.theory.specs.Alphabets.{Arithmetic}
use Rattle.theory.specs.Words.{Symbols, differ}

-- The length n, the dimension k, the distance d and the working length w; the codeword of each message; and for each
-- place of a message its carrier, the place of the word that repeats it (a systematic place), if there is one.
pub record Meaning : Type 0 where
  pub n : ℕ
  pub k : ℕ
  pub d : ℕ
  pub w : ℕ
  pub word : List ℕ → List ℕ
  pub carrier : ℕ → Option ℕ

pub record Keeps (A : Arithmetic) (m : Meaning) : Type 0 where
  pub some_places : 1 ≤ m.n
  pub some_symbols : 1 ≤ m.k
  pub some_distance : 1 ≤ m.d
  pub room_for_word : m.n ≤ m.w
  pub room_for_message : m.k ≤ m.w
  pub bounded : m.w ≤ 4096
  pub words : (s : List ℕ) → Symbols A.q m.k s → Symbols A.q m.n (m.word s)
  pub apart : (s t : List ℕ) → Symbols A.q m.k s → Symbols A.q m.k t → (s ≢ t) → m.d ≤ differ (m.word s) (m.word t)
  pub carrier_within : (i t : ℕ) → m.carrier i ≡ Some t → t < m.n
  pub carries : (i t : ℕ) → m.carrier i ≡ Some t → (s : List ℕ) → Symbols A.q m.k s → slice_index (m.word s) t ≡ slice_index s i
  pub carrier_absent : (i : ℕ) → m.k ≤ i → m.carrier i ≡ None

-- what a making answers: a code of this meaning, or its refusal's number
pub data Making : Type 0 where
  made : Meaning → Making
  refused_making : ℕ → Making

-- How a Plotkin join looks for u once v is known: in the left half, and then in the right half less v. A find counts only
-- if the toll of the whole word is below the join's distance.
use Rattle.std.specs.Prelude.{ℕ, ◌+◌, ◌*◌, Bool, true, false, List, nat_lt}
use Rattle.theory.specs.Alphabets.{Arithmetic, plus, minus}
use Rattle.theory.specs.Calls.{Outcome, accepted, refused, mended}
use Rattle.theory.specs.Combining.{combined}
use Rattle.theory.specs.Meanings.{Meaning}
use Rattle.theory.specs.Memory.{part}
use Rattle.theory.specs.Parts.{call_in_part}
use Rattle.theory.specs.Words.{toll}

-- the places of a half, the dimensions and the working lengths of U and V, and the join's distance
pub record Halves : Type 0 where
  pub n : ℕ
  pub ku : ℕ
  pub kv : ℕ
  pub wu : ℕ
  pub wv : ℕ
  pub d : ℕ

-- behind the word come n bytes for one more half, U's working memory, and V's
abbrev pub word_end : Halves → ℕ
word_end h = 2 * h.n

abbrev pub left_part : Halves → ℕ
left_part h = 3 * h.n

abbrev pub right_part : Halves → ℕ
right_part h = 3 * h.n + h.wu

abbrev pub work_end : Halves → ℕ
work_end h = 3 * h.n + h.wu + h.wv

-- a byte less another
abbrev pub byte_less : Arithmetic → ℕ → ℕ → ℕ
byte_less A b a = plus A b (minus A a)

-- the toll of u, which stands in U's working memory, against the left half, and of u + v, behind the word, against the right
abbrev pub whole_toll : Arithmetic → Halves → List ℕ → ℕ
whole_toll A h zs =
    toll A.q (part zs (left_part h) h.n) (part zs 0 h.n) + toll A.q (part zs (word_end h) h.n) (part zs h.n h.n)

-- U answered: where it found a word, u + v is written behind the word and the whole toll decides
abbrev pub tried_by : Arithmetic → Halves → Outcome → List ℕ → Bool × List ℕ
tried_by A h accepted ys =
    (nat_lt (whole_toll A h (combined (plus A) ys (left_part h) (right_part h) h.n (word_end h))) h.d, combined (plus A) ys (left_part h) (right_part h) h.n (word_end h))
tried_by A h (refused number values) ys = (false, ys)

-- U mends the half from place `from` on
unfoldable pub tried : Arithmetic → Meaning → Halves → ℕ → List ℕ → Bool × List ℕ
tried A u h from xs =
    tried_by A h (call_in_part (mended A u) from h.n (left_part h) h.wu xs).0 (call_in_part (mended A u) from h.n (left_part h) h.wu xs).1

-- where the left half did not do, the right half less v
abbrev pub sought_by : Arithmetic → Meaning → Halves → Bool → List ℕ → Bool × List ℕ
sought_by A u h true ys = (true, ys)
sought_by A u h false ys = tried A u h (word_end h) (combined (byte_less A) ys h.n (right_part h) h.n (word_end h))

unfoldable pub sought : Arithmetic → Meaning → Halves → List ℕ → Bool × List ℕ
sought A u h xs = sought_by A u h (tried A u h 0 xs).0 (tried A u h 0 xs).1

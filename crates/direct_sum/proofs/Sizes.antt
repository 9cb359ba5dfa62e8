-- The numbers of the two parts as the join keeps them, and what its calls come to, stated over them. Assumes nothing.
use Rattle.std.proofs.Common.{◌≡◌, ℕ, ◌+◌, ◌-◌, ◌<◌, ◌≤◌, min, List, [], length, take, None, sym}
use Rattle.parts.specs.Numbers.{NumbersOf}
use Rattle.parts.specs.declared.numbers.Numbers.{Numbers}
use Rattle.theory.specs.Alphabets.{Arithmetic}
use Rattle.theory.specs.Calls.{Outcome, accepted, refused, first_mark, sent, mended, read_back}
use Rattle.theory.specs.Joins.{direct_sum}
use Rattle.theory.specs.Meanings.{Meaning}
use Rattle.theory.specs.Memory.{part, cleared, gathered}
use Rattle.theory.specs.Parts.{call_in_part}
use Rattle.theory.specs.Words.{toll}
use Rattle.theory.proofs.Calls.{paired}

pub record Sizes : Type 0 where
  pub nu : ℕ
  pub ku : ℕ
  pub du : ℕ
  pub wu : ℕ
  pub nv : ℕ
  pub kv : ℕ
  pub dv : ℕ
  pub wv : ℕ

abbrev pub sizes_of : Meaning → Meaning → Sizes
sizes_of u v = record { nu = u.n; ku = u.k; du = u.d; wu = u.w; nv = v.n; kv = v.k; dv = v.d; wv = v.w }

abbrev pub kept : Numbers → Numbers → Sizes
kept u v =
    record { nu = u.length; ku = u.dimension; du = u.distance; wu = u.working; nv = v.length; kv = v.dimension; dv = v.distance; wv = v.working }

-- what a fit join keeps are its parts' numbers
pub kept_are : (u v : Numbers) (m k : Meaning) → NumbersOf u m → NumbersOf v k → sizes_of m k ≡ kept u v
kept_are u v m k hu hv =
    λ i. record { nu = sym hu.length i; ku = sym hu.dimension i; du = sym hu.distance i; wu = sym hu.working i; nv = sym hv.length i; kv = sym hv.dimension i; dv = sym hv.distance i; wv = sym hv.working i }

-- the end of the word, where U's working memory begins, where V's begins, and where it ends
abbrev pub word : Sizes → ℕ
word z = z.nu + z.nv

abbrev pub right : Sizes → ℕ
right z = z.nu + z.nv + z.wu

abbrev pub end : Sizes → ℕ
end z = z.nu + z.nv + z.wu + z.wv

module _ (A : Arithmetic) (u v : Meaning) where
  abbrev pub Sends : Sizes → Type 0
  Sends z =
      (xs : List ℕ) → end z ≤ length xs → first_mark A.q (take (z.ku + z.kv) xs) ≡ None → (o o' : Outcome) (ys zs : List ℕ)
      → paired o ys ≡ call_in_part (sent A v) z.ku z.kv (right z) z.wv xs → paired o' zs ≡ call_in_part (sent A u) 0 z.ku (word z) z.wu ys
      → (o ≡ accepted) × (o' ≡ accepted) × (paired accepted (gathered zs (word z) z.nu (right z) z.nv (end z)) ≡ sent A (direct_sum u v) xs)

  -- the toll of both words against what was received, as the join counts it
  abbrev pub whole_toll : Sizes → List ℕ → ℕ
  whole_toll z zs = toll A.q (part zs (word z) z.nu) (part zs 0 z.nu) + toll A.q (part zs (right z) z.nv) (part zs z.nu z.nv)

  -- the ways of a mend after both parts were mended
  pub record MendWays (z : Sizes) (xs : List ℕ) (o o' : Outcome) (zs : List ℕ) : Type 0 where
    pub by_right : (o ≡ accepted → ⊥) → paired (refused 3 []) (cleared zs (word z) (end z - word z)) ≡ mended A (direct_sum u v) xs
    pub by_left : (o' ≡ accepted → ⊥) → paired (refused 3 []) (cleared zs (word z) (end z - word z)) ≡ mended A (direct_sum u v) xs
    pub far : min z.du z.dv ≤ whole_toll z zs → paired (refused 3 []) (cleared zs (word z) (end z - word z)) ≡ mended A (direct_sum u v) xs
    pub near : o ≡ accepted → o' ≡ accepted → whole_toll z zs < min z.du z.dv → paired accepted (gathered zs (word z) z.nu (right z) z.nv (end z)) ≡ mended A (direct_sum u v) xs

  abbrev pub Mends : Sizes → Type 0
  Mends z =
      (xs : List ℕ) → end z ≤ length xs → (o o' : Outcome) (ys zs : List ℕ)
      → paired o ys ≡ call_in_part (mended A v) z.nu z.nv (right z) z.wv xs → paired o' zs ≡ call_in_part (mended A u) 0 z.nu (word z) z.wu ys → MendWays z xs o o' zs

  -- the ways of a read after both parts were read
  pub record ReadWays (z : Sizes) (xs : List ℕ) (o o' : Outcome) (zs : List ℕ) : Type 0 where
    pub by_right : (o ≡ accepted → ⊥) → paired (refused 4 []) (cleared zs (word z) (end z - word z)) ≡ read_back A (direct_sum u v) xs
    pub by_left : (o' ≡ accepted → ⊥) → paired (refused 4 []) (cleared zs (word z) (end z - word z)) ≡ read_back A (direct_sum u v) xs
    pub both : o ≡ accepted → o' ≡ accepted → paired accepted (gathered zs (word z) z.ku (right z) z.kv (end z)) ≡ read_back A (direct_sum u v) xs

  abbrev pub Reads : Sizes → Type 0
  Reads z =
      (xs : List ℕ) → end z ≤ length xs → (o o' : Outcome) (ys zs : List ℕ)
      → paired o ys ≡ call_in_part (read_back A v) z.nu z.nv (right z) z.wv xs → paired o' zs ≡ call_in_part (read_back A u) 0 z.nu (word z) z.wu ys → ReadWays z xs o o' zs

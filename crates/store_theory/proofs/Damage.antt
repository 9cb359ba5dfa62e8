-- What damage to one cell does to a word and to its toll. Assumes nothing.
use Rattle.std.proofs.Common.{◌≡◌, ℕ, zero, suc, ◌+◌, ◌-◌, ◌<◌, ◌≤◌, List, [], ◌∷◌, length, take, drop, set, ap, ◌∙◌, arith}
use lib.Seq.{take-set-lt}
use Rattle.std.proofs.lemmas.List.{take-set-le, drop-set-lt, drop-set-add}
use Rattle.std.proofs.lemmas.Bool.Decides.{nat_tests}
use Rattle.theory.specs.Alphabets.{Arithmetic}
use Rattle.theory.specs.Memory.{part}
use Rattle.theory.specs.Words.{toll}
use Rattle.theory.proofs.Words.{cost, toll_cons}
use Rattle.store_theory.specs.Costs.{damage_cost}

-- a cell below the part, above it, or in it
pub part_damaged_below : (xs : List ℕ) (a n i byte : ℕ) → i < a → part (set xs i byte) a n ≡ part xs a n
part_damaged_below xs a n i byte h = ap (take n) (drop-set-lt a xs i byte h)

drop_damaged : (xs : List ℕ) (a i byte : ℕ) → a ≤ i → drop a (set xs i byte) ≡ set (drop a xs) (i - a) byte
drop_damaged xs a i byte h =
    let place : i ≡ a + (i - a) = omega arith in
    ap (λ (j : ℕ). drop a (set xs j byte)) place ∙ drop-set-add a xs (i - a) byte

pub part_damaged_above : (xs : List ℕ) (a n i byte : ℕ) → a + n ≤ i → part (set xs i byte) a n ≡ part xs a n
part_damaged_above xs a n i byte h =
    ap (take n) (drop_damaged xs a i byte (omega arith)) ∙ take-set-le n (drop a xs) (i - a) byte (omega arith)

pub part_damaged : (xs : List ℕ) (a n i byte : ℕ) → a ≤ i → i < a + n → part (set xs i byte) a n ≡ set (part xs a n) (i - a) byte
part_damaged xs a n i byte l h =
    ap (take n) (drop_damaged xs a i byte l) ∙ take-set-lt n (drop a xs) (i - a) byte (omega arith)

-- one byte adds at most its cost to a toll
place_damaged : (A : Arithmetic) (x r byte : ℕ) → cost A.q x byte ≤ cost A.q x r + damage_cost A byte
place_damaged A x r byte = grind (arith, nat_tests)

pub toll_damaged : (A : Arithmetic) (word received : List ℕ) (i byte : ℕ) → length word ≡ length received → toll A.q word (set received i byte) ≤ toll A.q word received + damage_cost A byte
toll_damaged A [] [] i byte e = omega arith
toll_damaged A [] (r ∷ rs) i byte e = absurd (omega arith)
toll_damaged A (x ∷ xs) [] i byte e = absurd (omega arith)
toll_damaged A (x ∷ xs) (r ∷ rs) zero byte e =
    omega (arith, toll_cons A.q x r xs rs, toll_cons A.q x byte xs rs, place_damaged A x r byte)
toll_damaged A (x ∷ xs) (r ∷ rs) (suc i) byte e =
    omega (arith, toll_cons A.q x r xs rs, toll_cons A.q x r xs (set rs i byte), toll_damaged A xs rs i byte (omega arith))

-- The numbers of the named piles, by computing. Assumes nothing.
use Rattle.std.proofs.Common.{◌≡◌, ℕ, zero, suc, ◌+◌, ◌-◌, ◌*◌, ◌^◌, ◌≤◌, sym, refl, subst, arith}
use Rattle.piles.specs.Named.{HasNumbers}
use Rattle.theory.specs.Alphabets.{two, four}
use Rattle.theory.specs.Joins.{plotkin_making}
use Rattle.theory.specs.Meanings.{Meaning, made, refused_making}
use Rattle.theory.specs.NamedPiles.{reed_muller, four_pile}
use Rattle.theory.specs.Piles.{making_of}
use Rattle.theory.specs.Repetition.{repetition, repetition_making}

-- what was refused was not made
pub refused_not_made : (number : ℕ) (m : Meaning) → refused_making number ≡ made m → ⊥
refused_not_made number m e = let z : ◌≡◌ {A = ℕ} 0 1 = cc in omega arith

pub reed_muller_numbers : (m : ℕ) → m ≤ 7 → HasNumbers (making_of two (reed_muller m)) (2 ^ m) (m + 1) (2 ^ (m - 1)) (4 * 2 ^ m - 3)
unfolding plotkin_making
reed_muller_numbers zero h = (refl, refl, refl, refl)
reed_muller_numbers (suc zero) h = (refl, refl, refl, refl)
reed_muller_numbers (suc (suc zero)) h = (refl, refl, refl, refl)
reed_muller_numbers (suc (suc (suc zero))) h = (refl, refl, refl, refl)
reed_muller_numbers (suc (suc (suc (suc zero)))) h = (refl, refl, refl, refl)
reed_muller_numbers (suc (suc (suc (suc (suc zero))))) h = (refl, refl, refl, refl)
reed_muller_numbers (suc (suc (suc (suc (suc (suc zero)))))) h = (refl, refl, refl, refl)
reed_muller_numbers (suc (suc (suc (suc (suc (suc (suc zero))))))) h = (refl, refl, refl, refl)
reed_muller_numbers (suc (suc (suc (suc (suc (suc (suc (suc m)))))))) h = absurd (omega arith)

-- the length of what is made of RM(1,m)
pub reed_muller_length : (m : ℕ) (code : Meaning) → m ≤ 7 → made code ≡ making_of two (reed_muller m) → code.n ≡ 2 ^ m
reed_muller_length m code h e =
    (subst (λ x. HasNumbers x (2 ^ m) (m + 1) (2 ^ (m - 1)) (4 * 2 ^ m - 3)) (sym e) (reed_muller_numbers m h)).0

-- the repetition that joins it is made
pub repetition_of_power : (m : ℕ) → m ≤ 6 → repetition_making (2 ^ m) ≡ made (repetition (2 ^ m))
unfolding repetition_making
repetition_of_power zero h = refl
repetition_of_power (suc zero) h = refl
repetition_of_power (suc (suc zero)) h = refl
repetition_of_power (suc (suc (suc zero))) h = refl
repetition_of_power (suc (suc (suc (suc zero)))) h = refl
repetition_of_power (suc (suc (suc (suc (suc zero))))) h = refl
repetition_of_power (suc (suc (suc (suc (suc (suc zero)))))) h = refl
repetition_of_power (suc (suc (suc (suc (suc (suc (suc m))))))) h = absurd (omega arith)

pub numbers_four : HasNumbers (making_of four four_pile) 12 8 4 30
unfolding plotkin_making
numbers_four = (refl, refl, refl, refl)

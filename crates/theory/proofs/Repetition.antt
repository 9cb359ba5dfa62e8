-- The repetition code keeps its meaning. Assumes nothing.
use Rattle.std.proofs.Common.{◌≡◌, ℕ, zero, suc, ◌<◌, ◌≤◌, false, ◌&&◌, eqb, leb, ◌⊎◌, List, [], ◌∷◌, length, get_or, replicate, Some, None, sym, refl, ap, ◌∙◌, ⊎_elim, arith}
use lib.ListN.{length-replicate}
use Rattle.std.specs.List.{AllByRecursion as All}
use Rattle.std.proofs.ByRecursion.{All-get_or}
use Rattle.std.proofs.lemmas.List.{get_or-replicate}
use Rattle.std.proofs.lemmas.Bool.{eqb-true, ne_eqb, cond-true, cond-false, and_from, and_left, and_right, le-leb, lt-leb}
use Rattle.std.proofs.lemmas.Bool.Decides.{nat_tests}
use Rattle.theory.specs.Alphabets.{Arithmetic}
use Rattle.theory.specs.Meanings.{Keeps, made, refused_making}
use Rattle.theory.specs.Pairs.{AtDistance}
use Rattle.theory.specs.Repetition.{repetition, repetition_making}
use Rattle.theory.specs.Words.{differ}
use Rattle.theory.proofs.Carriers.{carrier_there}

pub all_replicate : (P : ℕ → Type 0) (n x : ℕ) → P x → All P (replicate n x)
all_replicate P zero x h = tt
all_replicate P (suc n) x h = (h, all_replicate P n x h)

differ_copies : (n x y : ℕ) → (x ≡ y → ⊥) → differ (replicate n x) (replicate n y) ≡ n
differ_copies zero x y e = refl
differ_copies (suc n) x y e = let rest = differ_copies n x y e in grind (arith, nat_tests)

-- a message of one symbol is that symbol
pub one_symbol : (s : List ℕ) → length s ≡ 1 → s ≡ get_or s 0 0 ∷ []
one_symbol [] e = absurd (omega arith)
one_symbol (x ∷ []) e = refl
one_symbol (x ∷ (y ∷ s)) e = absurd (omega arith)

pub repetition_keeps : (A : Arithmetic) (n : ℕ) → 1 ≤ n → n ≤ 64 → Keeps A (repetition n)
repetition_keeps A n some few =
    record {
      some_places = some;
      some_symbols = omega arith;
      some_distance = some;
      room_for_word = omega arith;
      room_for_message = some;
      bounded = omega arith;
      words = λ s h. record {
        long = length-replicate n (get_or s 0 0);
        each = all_replicate (λ x. x < A.q) n (get_or s 0 0) (All-get_or (λ x. x < A.q) s 0 0 (omega (arith, h.long)) h.each);
      };
      apart = λ s t hs ht differ-st.
          omega (arith, differ_copies n (get_or s 0 0) (get_or t 0 0) (λ e. differ-st (one_symbol s hs.long ∙ ap (λ (x : ℕ). x ∷ []) e ∙ sym (one_symbol t ht.long))));
      carrier_within = λ i t e. omega (arith, (carrier_there (eqb i 0) 0 t e).1);
      carries = λ i t e s h.
          let p = carrier_there (eqb i 0) 0 t e in
          rw (eqb-true i 0 p.0, ← p.1) (get_or-replicate n 0 (get_or s 0 0) 0 some);
      carrier_absent = λ i h. cond-false (eqb i 0) (Some 0) None (ne_eqb i 0 (omega arith));
    }

pub repetition_made : (n : ℕ) → 1 ≤ n → n ≤ 64 → made (repetition n) ≡ repetition_making n
unfolding repetition_making
repetition_made n some few =
    sym (cond-true (leb 1 n && leb n 64) (made (repetition n)) (refused_making 11) (and_from (leb 1 n) (leb n 64) (le-leb 1 n some) (le-leb n 64 few)))

pub repetition_refused : (n : ℕ) → (n < 1) ⊎ ((1 ≤ n) × (64 < n)) → refused_making 11 ≡ repetition_making n
unfolding repetition_making
repetition_refused n out =
    let outside : (leb 1 n && leb n 64) ≡ false =
    ⊎_elim (λ (h : n < 1). and_left (leb 1 n) (leb n 64) (lt-leb 1 n h)) (λ (h : (1 ≤ n) × (64 < n)). and_right (leb 1 n) (leb n 64) (lt-leb n 64 h.1)) out in
    sym (cond-false (leb 1 n && leb n 64) (made (repetition n)) (refused_making 11) outside)

-- it shows 0 and 1
pub repetition_shows : (A : Arithmetic) (n : ℕ) → 2 ≤ A.q → AtDistance A (repetition n) (0 ∷ []) (1 ∷ [])
repetition_shows A n two =
    record {
      one = record { long = refl; each = (omega arith, tt) };
      other = record { long = refl; each = (omega arith, tt) };
      different = λ e. let z : ◌≡◌ {A = ℕ} 0 1 = cc in omega arith;
      exactly = differ_copies n 0 1 (λ e. omega arith);
    }

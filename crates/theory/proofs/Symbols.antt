-- Lists of symbols in parts. Assumes nothing.
use Rattle.std.proofs.Common.{◌≡◌, ℕ, ◌+◌, ◌<◌, List, ◌++◌, take, drop, replicate, sym, ◌∙◌, ap₂, arith, length-append, length-drop}
use lib.ListN.{length-replicate}
use Rattle.std.proofs.ByRecursion.{All-append, All-take, All-drop}
use Rattle.std.proofs.lemmas.List.{length-take-le, take-append-drop}
use Rattle.theory.specs.Words.{Symbols}
use Rattle.theory.proofs.Repetition.{all_replicate}

pub symbols_take : (q j k : ℕ) (s : List ℕ) → Symbols q (j + k) s → Symbols q j (take j s)
symbols_take q j k s h = record { long = length-take-le j s (omega (arith, h.long)); each = All-take (λ x. x < q) j s h.each }

pub symbols_drop : (q j k : ℕ) (s : List ℕ) → Symbols q (j + k) s → Symbols q k (drop j s)
symbols_drop q j k s h = record { long = simp length-drop (omega (arith, h.long)); each = All-drop (λ x. x < q) j s h.each }

pub symbols_append : (q j k : ℕ) (s t : List ℕ) → Symbols q j s → Symbols q k t → Symbols q (j + k) (s ++ t)
symbols_append q j k s t h l =
    record { long = simp length-append (omega (arith, h.long, l.long)); each = All-append (λ x. x < q) s t h.each l.each }

pub symbols_zeros : (q k : ℕ) → 0 < q → Symbols q k (replicate k 0)
symbols_zeros q k h = record { long = length-replicate k 0; each = all_replicate (λ x. x < q) k 0 h }

-- lists whose two parts are the same are the same
pub same_from_parts : (j : ℕ) (s t : List ℕ) → take j s ≡ take j t → drop j s ≡ drop j t → s ≡ t
same_from_parts j s t front back =
    sym (take-append-drop j s) ∙ ap₂ (λ (a b : List ℕ). a ++ b) front back ∙ take-append-drop j t

-- Damage that was counted on lent parts of one memory, as a toll. Assumes nothing.
use Rattle.std.proofs.Common.{◌≡◌, ℕ, ◌+◌, ◌≤◌, Bool, true, ◌&&◌, ltb, leb, List, length, ◌∙◌, ap₂}
use Rattle.std.proofs.lemmas.Bool.{le-leb, and_from}
use Rattle.parts.specs.Nearness.{is_placed, both_near}
use Rattle.theory.specs.Memory.{part}
use Rattle.theory.specs.Words.{toll}

-- where both pieces are there, the toll alone decides
pub near_by_toll : (q : ℕ) (xs : List ℕ) (aw ar ac bw br bc distance : ℕ) → aw + ac ≤ length xs → ar + ac ≤ length xs → bw + bc ≤ length xs → br + bc ≤ length xs → (r : Bool) → r ≡ both_near q xs (record { word = aw; received = ar; count = ac }) (record { word = bw; received = br; count = bc }) distance → r ≡ ltb (toll q (part xs aw ac) (part xs ar ac) + toll q (part xs bw bc) (part xs br bc)) distance
near_by_toll q xs aw ar ac bw br bc distance h i j k r e =
    e ∙ ap₂ (λ (x y : Bool). x && (y && ltb (toll q (part xs aw ac) (part xs ar ac) + toll q (part xs bw bc) (part xs br bc)) distance)) (placed aw ar ac h i) (placed bw br bc j k)
  where
    placed : (word received count : ℕ) → word + count ≤ length xs → received + count ≤ length xs → is_placed (length xs) (record { word = word; received = received; count = count }) ≡ true
    placed word received count w l = and_from (leb (word + count) (length xs)) (leb (received + count) (length xs)) (le-leb (word + count) (length xs) w) (le-leb (received + count) (length xs) l)

-- A list cut at the first c.
use Rattle.std.proofs.Common.{◌≡◌, ℕ, ◌+◌, ◌<◌, Bool, true, false, cond, eqb, List, [], ◌∷◌, length, take, drop, nat_lt, IfSome, Some, None, Option, sym, refl, ap, ◌∙◌, subst, arith, Bor}
use Rattle.std.proofs.lemmas.Grind.{common_steps}
use Rattle.std.specs.List.{position, position_or_len}
use Rattle.std.specs.Option.{option_map}
use Rattle.console.specs.declared.text.Pieces.{Pieces}
use Rattle.console.specs.Text.{before, after, longer, pieces, to_come, pieces_left}

-- the place of the first c, or the length
abbrev first : ℕ → List ℕ → ℕ
first c xs = position_or_len (λ x. eqb x c) xs

before_first : (c : ℕ) (xs : List ℕ) → take (first c xs) xs ≡ before c xs
before_first c [] = refl
before_first c (x ∷ xs) =
    let more : take (1 + first c xs) (x ∷ xs) ≡ x ∷ take (first c xs) xs = grind (arith, common_steps) in
    grind (arith, common_steps, more, before_first c xs)

after_first : (c : ℕ) (xs : List ℕ) → cond (nat_lt (first c xs) (length xs)) (Some (drop (first c xs + 1) xs)) None ≡ after c xs
after_first c [] = refl
after_first c (x ∷ xs) = grind (arith, common_steps, after_first c xs)

-- the place where `cut` finds c, or the whole list where it finds none
module _ (c : ℕ) (xs : List ℕ) (o : Option ℕ) (found : o ≡ position (λ x. eqb x c) xs) where
  pub cut_at : (i : ℕ) → o ≡ Some i → (take i xs ≡ before c xs) × (Some (drop (i + 1) xs) ≡ after c xs)
  cut_at i is = (grind (arith, common_steps, before_first c xs), grind (arith, common_steps, after_first c xs))

  pub cut_nowhere : o ≡ None → (xs ≡ before c xs) × (None ≡ after c xs)
  cut_nowhere is = (grind (arith, common_steps, before_first c xs), grind (arith, common_steps, after_first c xs))

-- the pieces of a text are what stands before the first c, and then the pieces of what stands after it
pub pieces_cut : (c : ℕ) (xs : List ℕ) → pieces c xs ≡ before c xs ∷ elim (after c xs) [ None ↦ [] | Some ys ↦ pieces c ys ]
pieces_cut c [] = refl
pieces_cut c (x ∷ xs) = at (eqb x c) (pieces_cut c xs)
  where
    at : (b : Bool) → pieces c xs ≡ before c xs ∷ elim (after c xs) [ None ↦ [] | Some ys ↦ pieces c ys ] → cond b ([] ∷ pieces c xs) (longer x (pieces c xs)) ≡ cond b [] (x ∷ before c xs) ∷ elim (cond b (Some xs) (after c xs)) [ None ↦ [] | Some ys ↦ pieces c ys ]
    at true e = refl
    at false e = ap (longer x) e

pieces_left_lem : (c : ℕ) (o : Option (Bor (List ℕ))) → elim (option_map (λ x. x.now) o) [ None ↦ [] | Some ys ↦ pieces c ys ] ≡ to_come (record { rest = o; separator = c })
pieces_left_lem c None = refl
pieces_left_lem c (Some rest) = refl

pub next_piece : (p : Pieces) (rest piece : Bor (List ℕ)) (o : Option (Bor (List ℕ))) → p.rest ≡ Some rest → piece.now ≡ before p.separator rest.now → option_map (λ x. x.now) o ≡ after p.separator rest.now → to_come p ≡ piece.now ∷ to_come (record { rest = o; separator = p.separator })
next_piece p rest piece o is at left =
    ap (λ (r : Option (Bor (List ℕ))). to_come (record { rest = r; separator = p.separator })) is
    ∙ pieces_cut p.separator rest.now
    ∙ rw (← at, ← left) (ap (λ ps. piece.now ∷ ps) (pieces_left_lem p.separator o))

-- what is left after a cut is shorter
pub after_shorter : (c : ℕ) (xs : List ℕ) → IfSome (after c xs) (λ ys. length ys < length xs)
after_shorter c xs = rw (← after_first c xs) (at (nat_lt (first c xs) (length xs)) refl)
  where
    at : (b : Bool) → nat_lt (first c xs) (length xs) ≡ b → IfSome (cond b (Some (drop (first c xs + 1) xs)) None) (λ ys. length ys < length xs)
    at true e = grind (arith, common_steps)
    at false e = tt

pub pieces_fewer : (c : ℕ) (xs : List ℕ) (o : Option (Bor (List ℕ))) → option_map (λ x. x.now) o ≡ after c xs → pieces_left o < length xs + 1
pieces_fewer c xs None e = omega arith
pieces_fewer c xs (Some rest) e =
    let shorter : length rest.now < length xs = subst (λ o. IfSome o (λ ys. length ys < length xs)) (sym e) (after_shorter c xs) in
    omega (arith, shorter)

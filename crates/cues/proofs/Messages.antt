-- The message that is written symbol by symbol is the one that the definitions cut out of the symbols of all levels.
-- Assumes nothing.
use Rattle.std.proofs.Common.{◌≡◌, ℕ, suc, ◌+◌, ◌-◌, ◌*◌, ◌/◌, ◌%◌, ◌^◌, ◌<◌, ◌≤◌, cond, ltb, List, [], ◌∷◌, ◌++◌, map, length, get_or, take, drop, set, sym, ap, ◌∙◌, ap₂, ⊎_elim, append_assoc, append-nil, mul-le-mul_right, mod-lt, pow-suc, div-add-mod', div-one, arith}
use native.Mathlib.Nat.{div-div-eq-div-mul, pow-zero}
use Rattle.std.specs.List.{range_with_len}
use Rattle.std.proofs.lemmas.List.FromFn.{length-map-range_with_len, get_or-map-range_with_len, map-range_with_len_more}
use Rattle.std.proofs.lemmas.List.{ext_get_or, drop_all, get_or-take, get_or-drop, get_or_past, drop_more, set_at, length-append, length-take-le}
use Rattle.std.proofs.lemmas.Bool.{cases_lt, cond-true, cond-false, lt-ltb, le-ltb}
use Rattle.store_theory.specs.Calls.{missing_level, all_levels}
use Rattle.store_theory.specs.Layout.{Plan, word_count, filled_symbols}
use Rattle.store_theory.proofs.Blocks.{all_levels_length}
use Rattle.store_theory.proofs.Levels.{filled_length}
use Rattle.store_theory.proofs.Places.{row_inside}
use Rattle.store_theory.proofs.Progress.{level_symbol, filling_symbol, given_level, missing_level_lem}
use Rattle.theory.specs.Alphabets.{Arithmetic}
use Rattle.theory.specs.Meanings.{Meaning}
use Rattle.theory.specs.Memory.{over, part}
use Rattle.theory.proofs.Overs.{length_part}
use Rattle.cues.specs.Shapes.{plan_in, StoreNumbers}
use Rattle.cues.specs.Steps.{symbol_in, message_in}
use Rattle.cues.specs.declared.shape.Shape.{Shape}

-- a byte written behind what was written
pub set_behind : (xs : List ℕ) (a : ℕ) (ys : List ℕ) (v j : ℕ) → a + length ys ≡ j → j < length xs → set (over xs a ys) j v ≡ over xs a (ys ++ (v ∷ []))
set_behind xs a ys v j e h =
    let front : length (take a xs ++ ys) ≡ j = length-append (take a xs) ys ∙ omega (arith, length-take-le a xs (omega arith)) in
    let behind : j + 1 ≡ a + length (ys ++ (v ∷ [])) = omega (arith, length-append ys (v ∷ [])) in
    ap (λ (i : ℕ). set (take a xs ++ (ys ++ drop i xs)) j v) e
    ∙ ap (λ (zs : List ℕ). set (take a xs ++ (ys ++ zs)) j v) (drop_more xs j 0 h)
    ∙ ap (λ (zs : List ℕ). set zs j v) (sym (append_assoc (take a xs) ys (get_or xs j 0 ∷ drop (j + 1) xs)))
    ∙ set_at (take a xs ++ ys) (get_or xs j 0) (drop (j + 1) xs) v j front
    ∙ append_assoc (take a xs) ys (v ∷ drop (j + 1) xs)
    ∙ ap (λ (zs : List ℕ). take a xs ++ zs) (sym (append_assoc ys (v ∷ []) (drop (j + 1) xs)))
    ∙ ap (λ (i : ℕ). take a xs ++ ((ys ++ (v ∷ [])) ++ drop i xs)) behind

-- as many bytes written over all of them
pub over_all : (xs ys : List ℕ) → length xs ≡ length ys → over xs 0 ys ≡ ys
over_all xs ys e = ap (λ (zs : List ℕ). ys ++ zs) (drop_all (0 + length ys) xs (omega (arith, e))) ∙ append-nil ys

-- one place more of a list that is made from a function of the place
pub counted_more : (f : ℕ → ℕ) (xs ys : List ℕ) (i v : ℕ) → ys ≡ over xs 0 (map f (range_with_len 0 i)) → v ≡ f i → i < length xs → set ys i v ≡ over xs 0 (map f (range_with_len 0 (i + 1)))
counted_more f xs ys i v e is h =
    ap₂ (λ (zs : List ℕ) (x : ℕ). set zs i x) e is
    ∙ set_behind xs 0 (map f (range_with_len 0 i)) (f i) i (omega (arith, length-map-range_with_len f 0 i)) h
    ∙ ap (over xs 0) (sym (map-range_with_len_more f 0 i i (omega arith)))

pub divided_more : (order level place high : ℕ) → high ≡ level / (order ^ place) → high / order ≡ level / (order ^ (place + 1))
divided_more order level place high e =
    let more : suc place ≡ place + 1 = omega arith in
    ap (λ (x : ℕ). x / order) e ∙ div-div-eq-div-mul level (order ^ place) order
    ∙ ap (λ (x : ℕ). level / x) (sym (pow-suc order place)) ∙ ap (λ (j : ℕ). level / (order ^ j)) more

-- the symbol at a place, by the numbers of the alphabet
abbrev symbol_by : ℕ → ℕ → ℕ → List ℕ → ℕ → ℕ
symbol_by q b count levels place = cond (ltb (place / b) count) ((get_or levels (place / b) missing_level / (q ^ (b - 1 - place % b))) % q) 0

-- the levels of a recording at a place: given, or missing
level_at : (p : Plan) (levels : List ℕ) (i : ℕ) → i < p.levels → get_or levels i missing_level ≡ get_or (all_levels p levels) i 0
level_at p levels i h =
    ⊎_elim (λ (l : i < length levels). sym (given_level p levels i l)) (λ (l : length levels ≤ i). get_or_past levels i missing_level l ∙ sym (missing_level_lem p levels i l h)) (cases_lt i (length levels))

module _ (A : Arithmetic) (m : Meaning) (p : Plan) (levels : List ℕ) (fewer : length levels ≤ p.levels) (some : 1 ≤ A.b) where
  all : length (all_levels p levels) ≡ p.levels
  all = all_levels_length p levels fewer

  symbol_by_lem : (j : ℕ) → j < word_count A m p * m.k → symbol_by A.q A.b p.levels levels j ≡ get_or (filled_symbols A m p (all_levels p levels)) j 0
  symbol_by_lem j inside =
      ⊎_elim in_level behind (cases_lt (j / A.b) p.levels)
    where
      whole : j / A.b * A.b + j % A.b ≡ j
      whole = div-add-mod' j A.b

      in_level : j / A.b < p.levels → symbol_by A.q A.b p.levels levels j ≡ get_or (filled_symbols A m p (all_levels p levels)) j 0
      in_level h =
          cond-true (ltb (j / A.b) p.levels) _ 0 (lt-ltb (j / A.b) p.levels h)
          ∙ ap (λ (v : ℕ). (v / (A.q ^ (A.b - 1 - j % A.b))) % A.q) (level_at p levels (j / A.b) h)
          ∙ sym (level_symbol A m p (all_levels p levels) all (j / A.b) (j % A.b) h (mod-lt j some))
          ∙ ap (λ (i : ℕ). get_or (filled_symbols A m p (all_levels p levels)) i 0) whole

      behind : p.levels ≤ j / A.b → symbol_by A.q A.b p.levels levels j ≡ get_or (filled_symbols A m p (all_levels p levels)) j 0
      behind h =
          cond-false (ltb (j / A.b) p.levels) _ 0 (le-ltb (j / A.b) p.levels h)
          ∙ sym (filling_symbol A m p (all_levels p levels) all j (omega (arith, whole, mul-le-mul_right {m = p.levels} {n = j / A.b} A.b h)) inside)

-- a list that is made from a function of the place is a part of another if it agrees with it place by place
counted_is : (f : ℕ → ℕ) (xs : List ℕ) (a k : ℕ) → a + k ≤ length xs → ((i : ℕ) → i < k → f i ≡ get_or xs (a + i) 0) → map f (range_with_len 0 k) ≡ part xs a k
counted_is f xs a k fits h =
    ext_get_or 0 (map f (range_with_len 0 k)) (part xs a k) (length-map-range_with_len f 0 k ∙ sym (length_part xs a k fits))
    (λ i l.
    let small : i < k = omega (arith, length-map-range_with_len f 0 k) in
    get_or-map-range_with_len f 0 k i i 0 small (omega arith) ∙ h i small ∙ sym (get_or-take k (drop a xs) i 0 small ∙ get_or-drop a xs i 0))

module _ {A : Arithmetic} {m : Meaning} {shape : Shape} (f : StoreNumbers A m shape) (some : 1 ≤ m.k) (levels : List ℕ) (fewer : length levels ≤ shape.levels) where
  symbol_is : (j : ℕ) → j < word_count A m (plan_in shape) * m.k → symbol_in shape levels j ≡ get_or (filled_symbols A m (plan_in shape) (all_levels (plan_in shape) levels)) j 0
  symbol_is j inside =
      ap₂ (λ (q b : ℕ). symbol_by q b shape.levels levels j) f.order f.width
      ∙ symbol_by_lem A m (plan_in shape) levels fewer (omega (arith, shape.some_width, f.width)) j inside

  -- the message of a word
  pub message_is : (word : ℕ) → word < word_count A m (plan_in shape) → message_in shape levels word ≡ part (filled_symbols A m (plan_in shape) (all_levels (plan_in shape) levels)) (word * m.k) m.k
  message_is word inside =
      let row = row_inside word (word_count A m (plan_in shape)) m.k inside in
      ap (λ (k : ℕ). map (λ place. symbol_in shape levels (word * k + place)) (range_with_len 0 k)) f.numbers.dimension
      ∙ counted_is (λ place. symbol_in shape levels (word * m.k + place)) (filled_symbols A m (plan_in shape) (all_levels (plan_in shape) levels)) (word * m.k) m.k
      (omega (arith, row, filled_length A m (plan_in shape) some (all_levels (plan_in shape) levels) (all_levels_length (plan_in shape) levels fewer)))
      (λ i l. symbol_is (word * m.k + i) (omega (arith, row)))

-- Reading the levels of a cue out of its symbols, one after another, and the filling behind them. Assumes nothing.
use Rattle.std.proofs.Common.{◌≡◌, ℕ, ◌+◌, ◌-◌, ◌*◌, ◌<◌, ◌≤◌, false, ltb, List, [], ◌∷◌, length, get_or, take, drop, set, Some, None, Option, sym, ap, ◌∙◌, subst, ap₂, ⊎_elim, mul-le-mul_left, add-mul, one-mul, arith}
use Rattle.std.specs.Int.Digits.{number_from_digits}
use Rattle.std.specs.List.{AllByRecursion as All}
use Rattle.std.specs.Option.{option_map}
use Rattle.std.proofs.lemmas.Int.Digits.{number_more}
use Rattle.std.proofs.lemmas.List.{take_all, take_more, get_or-take, get_or-drop, length-map, length-drop, length-take-le}
use Rattle.std.proofs.lemmas.Bool.{cases_lt, cond-true, cond-false, lt-ltb, le-ltb}
use Rattle.store_theory.specs.Calls.{first_place}
use Rattle.store_theory.specs.Layout.{pieces, symbol_count, level_numbers, filling}
use Rattle.store_theory.proofs.FirstPlaces.{first_place_at}
use Rattle.store_theory.proofs.Pieces.{length_pieces}
use Rattle.store_theory.proofs.Places.{row_inside}
use Rattle.store_theory.proofs.Progress.{level_number}
use Rattle.theory.specs.Alphabets.{Arithmetic}
use Rattle.theory.specs.Calls.{accepted, refused}
use Rattle.theory.specs.Meanings.{Meaning}
use Rattle.theory.specs.Memory.{over, part}
use Rattle.theory.proofs.Overs.{length_part}
use Rattle.cues.specs.Shapes.{plan_in}
use Rattle.cues.specs.Steps.{as_byte, carried_byte, AllReached, symbols_in, Loaded, level_outcome}
use Rattle.cues.specs.declared.shape.Shape.{Shape}
use Rattle.cues.proofs.Messages.{set_behind, over_all}
use Rattle.cues.proofs.Sizes.{KnownStore}
use Rattle.cues.proofs.WordReads.{fails_more, fails_all, symbols_count}

-- a number at most 255, and one above
byte_fits : (v : ℕ) → v ≤ 255 → as_byte v ≡ Some v
byte_fits v h = cond-false (ltb 255 v) None (Some v) (le-ltb 255 v h)

byte_passes : (v : ℕ) → 255 < v → as_byte v ≡ None
byte_passes v h = cond-true (ltb 255 v) None (Some v) (lt-ltb 255 v h)

byte_is : (value v : ℕ) → Some value ≡ as_byte v → (value ≡ v) × (v ≤ 255)
byte_is value v e =
    ⊎_elim
    (λ (h : 255 < v). absurd (some_is_none value (e ∙ byte_passes v h)))
    (λ (h : v ≤ 255). let is : Some value ≡ Some v = e ∙ byte_fits v h in (cc, h))
    (cases_lt 255 v)
  where
    some_is_none : (x : ℕ) → Some x ≡ None → ⊥
    some_is_none x f = let z : ◌≡◌ {A = ℕ} 0 1 = cc in omega arith

no_byte : (v : ℕ) → None ≡ as_byte v → 255 < v
no_byte v e =
    ⊎_elim
    (λ (h : 255 < v). h)
    (λ (h : v ≤ 255). absurd (none_is_some v (e ∙ byte_fits v h)))
    (cases_lt 255 v)
  where
    none_is_some : (x : ℕ) → ◌≡◌ {A = Option ℕ} None (Some x) → ⊥
    none_is_some x f = let z : ◌≡◌ {A = ℕ} 0 1 = cc in omega arith

-- what passed 255 stays above it
carried_on : (v q s : ℕ) → 1 ≤ q → carried_byte (as_byte v) q s ≡ as_byte (v * q + s)
carried_on v q s some =
    ⊎_elim
    (λ (h : 255 < v).
    let more : v * 1 ≤ v * q = mul-le-mul_left v some in
    ap (λ (n : Option ℕ). carried_byte n q s) (byte_passes v h) ∙ sym (byte_passes (v * q + s) (omega arith)))
    (λ (h : v ≤ 255). ap (λ (n : Option ℕ). carried_byte n q s) (byte_fits v h))
    (cases_lt 255 v)

-- one symbol more of a level
number_more_byte : (q b start place : ℕ) (value : Option ℕ) (symbol : ℕ) (symbols : List ℕ) → 1 ≤ q → place < b → start + b ≤ length symbols → value ≡ as_byte (number_from_digits q (take place (part symbols start b))) → symbol ≡ get_or symbols (start + place) 0 → carried_byte value q symbol ≡ as_byte (number_from_digits q (take (place + 1) (part symbols start b)))
number_more_byte q b start place value symbol symbols some inside fits v s =
    let long : length (part symbols start b) ≡ b = length_part symbols start b fits in
    let one : symbol ≡ get_or (part symbols start b) place 0 = s ∙ sym (get_or-take b (drop start symbols) place 0 inside ∙ get_or-drop start symbols place 0) in
    ap₂ (λ (x : Option ℕ) (y : ℕ). carried_byte x q y) v one
    ∙ carried_on (number_from_digits q (take place (part symbols start b))) q (get_or (part symbols start b) place 0) some
    ∙ ap as_byte (sym (number_more q (part symbols start b) place (omega (arith, long))))

module _ {A : Arithmetic} {m : Meaning} {shape : Shape} (fit : KnownStore A m shape) (cue : ℕ) (cells : List ℕ) where
  abbrev symbols : List ℕ
  symbols = symbols_in A m (plan_in shape) cue cells

  abbrev numbers : List ℕ
  numbers = level_numbers A (plan_in shape) symbols

  abbrev fill : List ℕ
  fill = filling A (plan_in shape) symbols

  width-is : (level : ℕ) → level * shape.width ≡ level * A.b
  width-is level = ap (λ (w : ℕ). level * w) fit.numbers.width

  pub level_goes_on : (start place : ℕ) (memory : List ℕ) → Loaded A m (plan_in shape) cue cells (start + place + 1) memory → Loaded A m (plan_in shape) cue cells (start + (place + 1)) memory
  level_goes_on start place memory = subst (λ (j : ℕ). Loaded A m (plan_in shape) cue cells j memory) (omega arith)

  pub level_ends : (level place : ℕ) (memory : List ℕ) → place ≡ shape.width → Loaded A m (plan_in shape) cue cells (level * shape.width + place) memory → Loaded A m (plan_in shape) cue cells ((level + 1) * A.b) memory
  level_ends level place memory e =
      subst (λ (j : ℕ). Loaded A m (plan_in shape) cue cells j memory) (omega (arith, e, fit.numbers.width, width-is level, add-mul level 1 A.b, one-mul A.b))

  module _ (reached : AllReached A m (plan_in shape) cue cells) where
    symbols_long : length symbols ≡ shape.words * shape.numbers.dimension
    symbols_long = symbols_count fit cue cells reached ∙ sym (ap₂ (λ (v k : ℕ). v * k) fit.numbers.words fit.numbers.numbers.dimension)

    -- a level, one symbol more and all of them
    module _ (level place : ℕ) (value : Option ℕ) (inside : level < shape.levels) (so_far : value ≡ as_byte (number_from_digits shape.order (take place (part symbols (level * shape.width) shape.width)))) where
      fits : level * shape.width + shape.width ≤ length symbols
      fits = omega (arith, row_inside level shape.levels shape.width inside, shape.enough_words, symbols_long)

      pub level_more : (symbol : ℕ) → place < shape.width → symbol ≡ get_or symbols (level * shape.width + place) 0 → carried_byte value shape.order symbol ≡ as_byte (number_from_digits shape.order (take (place + 1) (part symbols (level * shape.width) shape.width)))
      level_more symbol small = number_more_byte shape.order shape.width (level * shape.width) place value symbol symbols (omega (arith, shape.two_symbols)) small fits so_far

      pub level_all : shape.width ≤ place → value ≡ as_byte (get_or numbers level 0)
      level_all all =
          so_far
          ∙ ap (λ (xs : List ℕ). as_byte (number_from_digits shape.order xs)) (take_all place (part symbols (level * shape.width) shape.width) (omega (arith, length_part symbols (level * shape.width) shape.width fits)))
          ∙ ap₂ (λ (q w : ℕ). as_byte (number_from_digits q (part symbols (level * w) w))) fit.numbers.order fit.numbers.width
          ∙ ap as_byte (sym (level_number A (plan_in shape) symbols level inside))

    -- the filling so far
    module _ (place symbol : ℕ) (from : shape.levels * shape.width ≤ place) (inside : place < shape.words * shape.numbers.dimension) (is : symbol ≡ get_or symbols place 0) (before : All (λ x. ltb 0 x ≡ false) (take (place - symbol_count A (plan_in shape)) fill)) where
      behind : symbol_count A (plan_in shape) ≤ place
      behind = omega (arith, from, width-is shape.levels)

      here : get_or fill (place - symbol_count A (plan_in shape)) 0 ≡ symbol
      here =
          let at : symbol_count A (plan_in shape) + (place - symbol_count A (plan_in shape)) ≡ place = omega (arith, behind) in
          get_or-drop (symbol_count A (plan_in shape)) symbols (place - symbol_count A (plan_in shape)) 0 ∙ ap (λ (j : ℕ). get_or symbols j 0) at ∙ sym is

      within : place - symbol_count A (plan_in shape) < length fill
      within = omega (arith, length-drop (symbol_count A (plan_in shape)) symbols, behind, inside, symbols_long)

      pub filling_fails : symbol ≤ 0 → All (λ x. ltb 0 x ≡ false) (take (place + 1 - symbol_count A (plan_in shape)) fill)
      filling_fails h =
          let next : place - symbol_count A (plan_in shape) + 1 ≡ place + 1 - symbol_count A (plan_in shape) = omega (arith, behind) in
          subst (λ (j : ℕ). All (λ x. ltb 0 x ≡ false) (take j fill)) next
          (fails_more (ltb 0) fill (place - symbol_count A (plan_in shape)) 0 within before (ap (ltb 0) here ∙ le-ltb 0 symbol h))

      pub filling_first : 0 < symbol → refused 16 (cue ∷ shape.levels ∷ []) ≡ level_outcome A m (plan_in shape) cue (option_map (λ place. shape.levels) (first_place (ltb 0) fill))
      filling_first h =
          ap (λ (o : Option ℕ). level_outcome A m (plan_in shape) cue (option_map (λ place. shape.levels) o))
          (sym (first_place_at (ltb 0) fill (place - symbol_count A (plan_in shape)) 0 within before (ap (ltb 0) here ∙ lt-ltb 0 symbol h)))

    pub filling_none : (place : ℕ) → shape.words * shape.numbers.dimension ≤ place → All (λ x. ltb 0 x ≡ false) (take (place - symbol_count A (plan_in shape)) fill) → accepted ≡ level_outcome A m (plan_in shape) cue (option_map (λ place. shape.levels) (first_place (ltb 0) fill))
    filling_none place h all =
        ap (λ (o : Option ℕ). level_outcome A m (plan_in shape) cue (option_map (λ place. shape.levels) o))
        (sym (fails_all (ltb 0) fill (place - symbol_count A (plan_in shape)) (omega (arith, length-drop (symbol_count A (plan_in shape)) symbols, h, symbols_long)) all))

  pub filling_start : All (λ x. ltb 0 x ≡ false) (take (shape.levels * shape.width - symbol_count A (plan_in shape)) fill)
  filling_start =
      let none : 0 ≡ shape.levels * shape.width - symbol_count A (plan_in shape) = omega (arith, width-is shape.levels) in
      subst (λ (j : ℕ). All (λ x. ltb 0 x ≡ false) (take j fill)) none tt

  pub filling_loaded : (memory : List ℕ) → Loaded A m (plan_in shape) cue cells (symbol_count A (plan_in shape)) memory → Loaded A m (plan_in shape) cue cells (shape.levels * shape.width) memory
  filling_loaded memory = subst (λ (j : ℕ). Loaded A m (plan_in shape) cue cells j memory) (sym (width-is shape.levels))

  -- the levels so far
  module _ (levels : List ℕ) (whole : length levels ≡ shape.levels) where
    numbers_count : length numbers ≡ shape.levels
    numbers_count = length-map (pieces A.b shape.levels symbols) (number_from_digits A.q) ∙ length_pieces A.b shape.levels symbols

    module _ (level : ℕ) (inside : level < shape.levels) where
      module _ (before : All (λ x. ltb 255 x ≡ false) (take level numbers)) where
        pub level_first : None ≡ as_byte (get_or numbers level 0) → refused 16 (cue ∷ level ∷ []) ≡ level_outcome A m (plan_in shape) cue (first_place (ltb 255) numbers)
        level_first none =
            ap (level_outcome A m (plan_in shape) cue)
            (sym (first_place_at (ltb 255) numbers level 0 (omega (arith, numbers_count)) before (lt-ltb 255 (get_or numbers level 0) (no_byte (get_or numbers level 0) none))))

        pub levels_fail : (value : ℕ) → Some value ≡ as_byte (get_or numbers level 0) → All (λ x. ltb 255 x ≡ false) (take (level + 1) numbers)
        levels_fail value is = fails_more (ltb 255) numbers level 0 (omega (arith, numbers_count)) before (le-ltb 255 (get_or numbers level 0) (byte_is value (get_or numbers level 0) is).1)

      pub levels_more : (value : ℕ) → Some value ≡ as_byte (get_or numbers level 0) → (before : List ℕ) → before ≡ over levels 0 (take level numbers) → set before level value ≡ over levels 0 (take (level + 1) numbers)
      levels_more value is before e =
          let short : length (take level numbers) ≡ level = length-take-le level numbers (omega (arith, numbers_count)) in
          ap₂ (λ (xs : List ℕ) (x : ℕ). set xs level x) e (byte_is value (get_or numbers level 0) is).0
          ∙ set_behind levels 0 (take level numbers) (get_or numbers level 0) level (omega (arith, short)) (omega (arith, whole))
          ∙ ap (over levels 0) (sym (take_more numbers level 0 (omega (arith, numbers_count))))

    module _ (level : ℕ) (end : shape.levels ≤ level) where
      pub levels_none_pass : All (λ x. ltb 255 x ≡ false) (take level numbers) → accepted ≡ level_outcome A m (plan_in shape) cue (first_place (ltb 255) numbers)
      levels_none_pass all = ap (level_outcome A m (plan_in shape) cue) (sym (fails_all (ltb 255) numbers level (omega (arith, numbers_count)) all))

      pub levels_all : (after : List ℕ) → after ≡ over levels 0 (take level numbers) → after ≡ numbers
      levels_all after e =
          e ∙ ap (over levels 0) (take_all level numbers (omega (arith, numbers_count))) ∙ over_all levels numbers (omega (arith, whole, numbers_count))

-- Levels as symbols and as messages, and back. Assumes nothing.
use Rattle.std.proofs.Common.{◌≡◌, ℕ, zero, suc, ◌+◌, ◌-◌, ◌*◌, ◌/◌, ◌%◌, ◌^◌, ◌<◌, ◌≤◌, false, ltb, List, [], ◌∷◌, ◌++◌, map, length, replicate, None, Option, sym, refl, ap, ◌∙◌, ap₂, mod-lt, mod-eq_of_lt, mul_assoc, suc-mul, add-mul, zero-mul, mul-one, mul-suc, arith, length-append}
use native.Mathlib.Nat.{pow-zero, pow-succ', mod-one, lt-div-mul-add, one-le-pow}
use lib.Arith.{mod-mul}
use lib.ListN.{length-replicate}
use Rattle.std.specs.List.{flat_map, AllByRecursion as All}
use Rattle.std.specs.Option.{option_map, option_or}
use Rattle.std.specs.Int.Digits.{number_from_digits as number, number_from_digits_after}
use Rattle.std.proofs.lemmas.Nat.{div_below}
use Rattle.std.proofs.ByRecursion.{All-append, All-weaker}
use Rattle.std.proofs.lemmas.List.{drop_at, length-map}
use Rattle.std.proofs.lemmas.Bool.{le-ltb}
use Rattle.theory.specs.Alphabets.{Arithmetic, Lawful}
use Rattle.theory.specs.Levels.{digits, level_symbols}
use Rattle.theory.specs.Meanings.{Meaning}
use Rattle.theory.specs.Words.{Symbols}
use Rattle.store_theory.specs.Calls.{first_place, level_fault}
use Rattle.store_theory.specs.Layout.{Plan, symbol_count, word_count, pieces, together, filled_symbols, messages_of, level_numbers, filling}
use Rattle.store_theory.specs.Statements.{WrittenLevelsReadBack}
use Rattle.store_theory.proofs.FirstPlaces.{none_passes}
use Rattle.store_theory.proofs.Pieces.{Long, pieces_long, all_pieces, length_together, pieces_together, together_pieces}

-- a number in so many symbols
pub digits_length : (q b v : ℕ) → length (digits q b v) ≡ b
digits_length q zero v = refl
digits_length q (suc b) v = ap suc (digits_length q b v)

pub digits_symbols : (q b v : ℕ) → 0 < q → All (λ x. x < q) (digits q b v)
digits_symbols q zero v h = tt
digits_symbols q (suc b) v h = (mod-lt (v / (q ^ b)) h, digits_symbols q b v h)

pub digits_number : (q b v n : ℕ) → 0 < q → number_from_digits_after q n (digits q b v) ≡ n * q ^ b + v % q ^ b
digits_number q zero v n h =
    let whole : n * q ^ zero ≡ n = ap (λ (x : ℕ). n * x) (pow-zero q) ∙ mul-one n in
    let none : v % q ^ zero ≡ 0 = ap (λ (x : ℕ). v % x) (pow-zero q) ∙ mod-one v in
    omega arith
digits_number q (suc b) v n h =
    let digit = (v / (q ^ b)) % q in
    let power = pow-succ' q b in
    let left : n * q ^ suc b ≡ n * q * q ^ b = ap (λ (x : ℕ). n * x) power ∙ sym (mul_assoc n q (q ^ b)) in
    let right : v % q ^ suc b ≡ digit * q ^ b + v % q ^ b = ap (λ (x : ℕ). v % x) power ∙ mod-mul v h (one-le-pow b q h) in
    digits_number q b v (n * q + digit) h ∙ omega (arith, add-mul (n * q) digit (q ^ b))

-- a level that is written is read again
pub level_returns : (A : Arithmetic) → Lawful A → (level : ℕ) → level < 256 → number A.q (level_symbols A level) ≡ level
level_returns A laws level h =
    let some : 0 < A.q = omega (arith, laws.two_symbols) in
    let small : level < A.q ^ A.b = omega (arith, laws.enough) in
    digits_number A.q A.b level 0 some ∙ omega (arith, zero-mul (A.q ^ A.b), mod-eq_of_lt small)

pub joined_map : {X : Type 0} (f : X → List ℕ) (xs : List X) → flat_map f xs ≡ together (map f xs)
joined_map f [] = refl
joined_map f (x ∷ xs) = ap (λ (ys : List ℕ). f x ++ ys) (joined_map f xs)

pub levels_long : (A : Arithmetic) (levels : List ℕ) → Long A.b (map (level_symbols A) levels)
levels_long A [] = tt
levels_long A (x ∷ xs) = (digits_length A.q A.b x, levels_long A xs)

pub symbols_length : (A : Arithmetic) (p : Plan) (levels : List ℕ) → length levels ≡ p.levels → length (flat_map (level_symbols A) levels) ≡ symbol_count A p
symbols_length A p levels all =
    ap length (joined_map (level_symbols A) levels) ∙ length_together A.b (map (level_symbols A) levels) (levels_long A levels)
    ∙ ap (λ (n : ℕ). n * A.b) (length-map levels (level_symbols A) ∙ all)

levels_symbols : (A : Arithmetic) → Lawful A → (levels : List ℕ) → All (λ x. x < A.q) (flat_map (level_symbols A) levels)
levels_symbols A laws [] = tt
levels_symbols A laws (x ∷ xs) =
    All-append (λ y. y < A.q) (level_symbols A x) (flat_map (level_symbols A) xs) (digits_symbols A.q A.b x (omega (arith, laws.two_symbols))) (levels_symbols A laws xs)

numbers_return : (A : Arithmetic) → Lawful A → (levels : List ℕ) → All (λ x. x < 256) levels → map (number A.q) (map (level_symbols A) levels) ≡ levels
numbers_return A laws [] h = refl
numbers_return A laws (x ∷ xs) h =
    ap₂ (λ (y : ℕ) (ys : List ℕ). y ∷ ys) (level_returns A laws x h.0) (numbers_return A laws xs h.1)

zeros_symbols : (q count : ℕ) → 0 < q → All (λ x. x < q) (replicate count 0)
zeros_symbols q zero h = tt
zeros_symbols q (suc count) h = (h, zeros_symbols q count h)

-- bytes do not pass 255, and zeros do not pass 0
bytes_fail : (xs : List ℕ) → All (λ x. x < 256) xs → All (λ x. ltb 255 x ≡ false) xs
bytes_fail xs h = All-weaker (λ x. x < 256) (λ x. ltb 255 x ≡ false) (λ x l. le-ltb 255 x (omega arith)) xs h

zeros_fail : (count : ℕ) → All (λ x. ltb 0 x ≡ false) (replicate count 0)
zeros_fail zero = tt
zeros_fail (suc count) = (le-ltb 0 0 (omega arith), zeros_fail count)

module _ (A : Arithmetic) (m : Meaning) (p : Plan) (some : 1 ≤ m.k) where
  -- the words of a cue have room for its symbols, and no fewer words have
  pub words_have_room : symbol_count A p ≤ word_count A m p * m.k
  unfolding word_count
  words_have_room = omega (arith, lt-div-mul-add {a = symbol_count A p + (m.k - 1)} {b = m.k} some)

  pub words_are_fewest : (count : ℕ) → symbol_count A p ≤ count * m.k → word_count A m p ≤ count
  unfolding word_count
  words_are_fewest count h =
      let enough : symbol_count A p + (m.k - 1) < suc count * m.k = omega (arith, suc-mul count m.k) in
      omega (arith, div_below (symbol_count A p + (m.k - 1)) m.k (suc count) some enough)

  -- a cue with levels has a word
  pub some_words : Lawful A → 1 ≤ p.levels → 1 ≤ word_count A m p
  some_words laws h = go A.b (word_count A m p) refl words_have_room laws.enough
    where
      go : (b count : ℕ) → count ≡ word_count A m p → p.levels * b ≤ count * m.k → 256 ≤ A.q ^ b → 1 ≤ word_count A m p
      go zero count e room enough = absurd (omega (arith, pow-zero A.q))
      go (suc b) zero e room enough = absurd (omega (arith, mul-suc p.levels b, zero-mul m.k))
      go (suc b) (suc count) e room enough = omega arith

  module _ (levels : List ℕ) (all : length levels ≡ p.levels) where
    pub filled_length : length (filled_symbols A m p levels) ≡ word_count A m p * m.k
    filled_length =
        let rest = length-replicate {A = ℕ} (word_count A m p * m.k - symbol_count A p) 0 in
        length-append (flat_map (level_symbols A) levels) (replicate (word_count A m p * m.k - symbol_count A p) 0)
        ∙ omega (arith, (symbols_length A p levels all), rest, words_have_room)

    -- the messages together are the symbols with the filling
    pub messages_together : together (messages_of A m p levels) ≡ filled_symbols A m p levels
    messages_together = together_pieces m.k (word_count A m p) (filled_symbols A m p levels) filled_length

    numbers_of_symbols : level_numbers A p (filled_symbols A m p levels) ≡ map (number A.q) (map (level_symbols A) levels)
    numbers_of_symbols =
        let rest = replicate (word_count A m p * m.k - symbol_count A p) 0 in
        ap₂ (λ (n : ℕ) (xs : List ℕ). map (number A.q) (pieces A.b n (xs ++ rest))) (sym (length-map levels (level_symbols A) ∙ all)) (joined_map (level_symbols A) levels)
        ∙ ap (map (number A.q)) (pieces_together A.b (map (level_symbols A) levels) rest (levels_long A levels))

    filling_is : filling A p (filled_symbols A m p levels) ≡ replicate (word_count A m p * m.k - symbol_count A p) 0
    filling_is =
        drop_at (flat_map (level_symbols A) levels) (replicate (word_count A m p * m.k - symbol_count A p) 0) (symbol_count A p) (symbols_length A p levels all)

    module _ (laws : Lawful A) where
      pub messages_are_messages : All (Symbols A.q m.k) (messages_of A m p levels)
      messages_are_messages =
          both (messages_of A m p levels) (pieces_long m.k (word_count A m p) (filled_symbols A m p levels) (omega (arith, filled_length))) (all_pieces (λ x. x < A.q) m.k (word_count A m p) (filled_symbols A m p levels) symbols)
        where
          symbols : All (λ x. x < A.q) (filled_symbols A m p levels)
          symbols =
              All-append (λ x. x < A.q) (flat_map (level_symbols A) levels) (replicate (word_count A m p * m.k - symbol_count A p) 0)
              (levels_symbols A laws levels) (zeros_symbols A.q (word_count A m p * m.k - symbol_count A p) (omega (arith, laws.two_symbols)))

          both : (xss : List (List ℕ)) → Long m.k xss → All (All (λ x. x < A.q)) xss → All (Symbols A.q m.k) xss
          both [] l h = tt
          both (xs ∷ xss) l h = (record { long = l.0; each = h.0 }, both xss l.1 h.1)

      module _ (bytes : All (λ x. x < 256) levels) where
        pub levels_back : level_numbers A p (filled_symbols A m p levels) ≡ levels
        levels_back = numbers_of_symbols ∙ numbers_return A laws levels bytes

        pub no_level_fault : level_fault A p (filled_symbols A m p levels) ≡ None
        no_level_fault =
            ap₂ (λ (xs zs : List ℕ). option_or (first_place (λ number. ltb 255 number) xs) (option_map (λ place. p.levels) (first_place (λ symbol. ltb 0 symbol) zs))) levels_back filling_is
            ∙ ap₂ (λ (o e : Option ℕ). option_or o (option_map (λ place. p.levels) e)) (none_passes (λ number. ltb 255 number) levels (bytes_fail levels bytes)) (none_passes (λ symbol. ltb 0 symbol) (replicate (word_count A m p * m.k - symbol_count A p) 0) (zeros_fail (word_count A m p * m.k - symbol_count A p)))

pub written_levels_read_back : WrittenLevelsReadBack
written_levels_read_back A laws m keeps p levels all bytes =
    let some = keeps.some_symbols in
    let whole = messages_together A m p some levels all in
    record {
      room = words_have_room A m p some;
      fewest = words_are_fewest A m p some;
      messages = messages_are_messages A m p some levels all laws;
      back = ap (level_numbers A p) whole ∙ levels_back A m p some levels all laws bytes;
      faultless = ap (level_fault A p) whole ∙ no_level_fault A m p some levels all laws bytes;
    }

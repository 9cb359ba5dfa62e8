-- Alphabets. The symbols of an alphabet of q symbols are the bytes 0 to q − 1; every other byte is a mark,
-- which stands for a place whose symbol is lost (an erasure).
use Rattle.std.specs.Prelude.{◌≡◌, ℕ, ◌+◌, ◌-◌, ◌%◌, ◌^◌, ◌<◌, ◌≤◌, Bool, cond, ◌&&◌, ◌||◌, ◌==◌, nat_lt}
use Rattle.std.specs.Int.Bits.{bit_xor}

-- how many symbols there are, how many of them a level takes, and how symbols are added and negated
pub record Arithmetic : Type 0 where
  pub q : ℕ
  pub b : ℕ
  pub add : ℕ → ℕ → ℕ
  pub neg : ℕ → ℕ

-- 2 to 16 symbols that are a commutative group under addition, with 0 neutral;
-- b is the least number of them that tells 256 levels apart
pub record Lawful (A : Arithmetic) : Type 0 where
  pub two_symbols : 2 ≤ A.q
  pub few_symbols : A.q ≤ 16
  pub closed : (x y : ℕ) → x < A.q → y < A.q → A.add x y < A.q
  pub assoc : (x y z : ℕ) → x < A.q → y < A.q → z < A.q → A.add (A.add x y) z ≡ A.add x (A.add y z)
  pub comm : (x y : ℕ) → x < A.q → y < A.q → A.add x y ≡ A.add y x
  pub neutral : (x : ℕ) → x < A.q → A.add 0 x ≡ x
  pub neg_closed : (x : ℕ) → x < A.q → A.neg x < A.q
  pub cancels : (x : ℕ) → x < A.q → A.add x (A.neg x) ≡ 0
  pub enough : 256 ≤ A.q ^ A.b
  pub least : (c : ℕ) → c < A.b → A.q ^ c < 256

abbrev pub is_symbol : ℕ → ℕ → Bool
is_symbol q x = nat_lt x q

-- the sum of any two bytes: 255 where one is a mark
abbrev pub plus : Arithmetic → ℕ → ℕ → ℕ
plus A x y = cond (is_symbol A.q x && is_symbol A.q y) (A.add x y) 255

-- the negative of any byte: 255 for a mark
abbrev pub minus : Arithmetic → ℕ → ℕ
minus A x = cond (is_symbol A.q x) (A.neg x) 255

-- addition modulo q
abbrev pub modular : ℕ → ℕ → Arithmetic
modular symbols width = record { q = symbols; b = width; add = λ x y. (x + y) % symbols; neg = λ x. (symbols - x) % symbols }

abbrev pub two : Arithmetic
two = modular 2 8

abbrev pub three : Arithmetic
three = modular 3 6

-- the field GF(4): 2 is ω and 3 is ω + 1 = ω²; addition is exclusive or, so each symbol is its own negative
abbrev pub four : Arithmetic
four = record { q = 4; b = 4; add = bit_xor; neg = λ x. x }

-- the product in GF(4) of any two bytes: symbol x, unless it is 0, is ω to the power x − 1, and ω to the power 3 is 1
abbrev pub times4 : ℕ → ℕ → ℕ
times4 x y =
    cond (is_symbol 4 x && is_symbol 4 y) (cond (x == 0 || y == 0) 0 ((x - 1 + (y - 1)) % 3 + 1)) 255

-- Digits, and the words of a list, read one after the other.
use Rattle.std.proofs.Common.{◌≡◌, ℕ, ◌+◌, ◌-◌, ◌*◌, ◌<◌, ◌≤◌, true, false, cond, leb, List, [], ◌∷◌, ◌++◌, length, get_or, take, drop, replicate, Some, None, Option, sym, refl, ◌∙◌, arith}
use Rattle.std.proofs.lemmas.List.{at_drop_more, take_all}
use Rattle.std.proofs.lemmas.Bool.{le-leb, lt-leb}
use Rattle.console.specs.declared.text.Run.{Run}
use Rattle.console.specs.Text.{digit, read_on, number_of, run_of, list_on}

pub number_is : (xs : List ℕ) → 0 < length xs → number_of xs ≡ read_on 0 xs
number_is [] some = absurd (omega (arith, some))
number_is (x ∷ xs) some = refl

module _ (v : ℕ) (xs : List ℕ) (i : ℕ) (within : i < length xs) where
  abbrev next : ℕ
  next = v * 10 + (get_or xs i 0 - 48)

  steps : read_on v (drop i xs) ≡ cond (digit (get_or xs i 0)) (cond (leb next 1000000000) (read_on next (drop (i + 1) xs)) None) None
  steps = at_drop_more (read_on v) xs i 0 within

  -- the byte at i is no digit
  pub read_other : digit (get_or xs i 0) ≡ false → read_on v (drop i xs) ≡ None
  read_other other = steps ∙ rw other

  -- the byte at i is a digit
  module _ (is_digit : digit (get_or xs i 0) ≡ true) (d : ℕ) (is : d ≡ get_or xs i 0 - 48) where
    pub read_more : v * 10 + d ≤ 1000000000 → read_on v (drop i xs) ≡ read_on (v * 10 + d) (drop (i + 1) xs)
    read_more small = rw is (steps ∙ rw (is_digit, le-leb next 1000000000 (omega (arith, small, is))))

    pub read_large : 1000000000 < v * 10 + d → read_on v (drop i xs) ≡ None
    read_large large = steps ∙ rw (is_digit, lt-leb next 1000000000 (omega (arith, large, is)))

module _ (bytes more w : List ℕ) (words ws : List (List ℕ)) (run : Run) (n m : ℕ) (list : Option (List ℕ)) where
  -- a word more of a list, whose bytes are grown from m to n and its run
  pub list_more : words ≡ w ∷ ws → Some run ≡ run_of w → n ≡ length bytes → m ≡ length bytes → n + run.count ≤ 2000000 → more ≡ take (n + run.count) bytes ++ replicate (n + run.count - m) run.byte → list_on bytes words ≡ list → list_on more ws ≡ list
  list_more split is long before small grown old =
      let all : take (n + run.count) bytes ≡ bytes = take_all (n + run.count) bytes (omega (arith, long)) in
      let rest : n + run.count - m ≡ run.count = omega (arith, long, before) in
      let fits = le-leb (length bytes + run.count) 2000000 (omega (arith, long, small)) in
      let step : list_on bytes (w ∷ ws) ≡ list_on (bytes ++ replicate run.count run.byte) ws = rw (← is, fits) in
      rw (grown, all, rest) (sym step ∙ (rw split at old))

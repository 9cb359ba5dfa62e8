-- A search through all messages finds the word in reach. Assumes nothing.
use Rattle.std.proofs.Common.{◌≡◌, ℕ, zero, suc, ◌+◌, ◌*◌, ◌/◌, ◌^◌, ◌<◌, ◌≤◌, List, map, length, get_or, take, Some, None, sym, refl, ap, ◌∙◌, subst, mod-lt, arith}
use Rattle.std.specs.List.{range_with_len, AllByRecursion as All}
use Rattle.std.proofs.lemmas.List.FromFn.{fill_by_all}
use Rattle.std.proofs.ByRecursion.{All-map}
use Rattle.std.proofs.lemmas.List.{take_all, length-take-le, get_or-take}
use Rattle.theory.specs.Alphabets.{Arithmetic, Lawful}
use Rattle.theory.specs.Levels.{digits}
use Rattle.theory.specs.Meanings.{Meaning, Keeps}
use Rattle.theory.specs.Reach.{messages, word_in_reach}
use Rattle.theory.specs.Words.{Symbols, wrong, marked, toll}
use Rattle.theory.proofs.Reach.{all_counting, messages_has, word_in_reach_lem, no_word_in_reach}

-- the digits of a number are symbols
pub digits_symbols : (q k v : ℕ) → 0 < q → Symbols q k (digits q k v)
digits_symbols q zero v h = record { long = refl; each = tt }
digits_symbols q (suc k) v h =
    let rest = digits_symbols q k v h in
    record { long = ap suc rest.long; each = (mod-lt (v / (q ^ k)) h, rest.each) }

-- damage over the places that both have is the toll of words of one length
pub toll_from_damage : (q : ℕ) (word rs : List ℕ) → length word ≡ length rs → 2 * wrong q word rs + marked q (take (length word) rs) ≡ toll q word rs
toll_from_damage q word rs e = ap (λ (ys : List ℕ). 2 * wrong q word rs + marked q ys) (take_all (length word) rs (omega arith))

module _ (A : Arithmetic) (laws : Lawful A) (m : Meaning) (keeps : Keeps A m) (rs : List ℕ) (long : length rs ≡ m.n) where
  symbols : (i : ℕ) → Symbols A.q m.k (digits A.q m.k i)
  symbols i = digits_symbols A.q m.k i (omega (arith, laws.two_symbols))

  -- the counted damage of a message's word is its toll
  pub damage_of : (i : ℕ) (word : List ℕ) → word ≡ m.word (digits A.q m.k i) → 2 * wrong A.q word rs + marked A.q (take (length word) rs) ≡ toll A.q (m.word (digits A.q m.k i)) rs
  damage_of i word is =
      toll_from_damage A.q word rs (ap length is ∙ (keeps.words (digits A.q m.k i) (symbols i)).long ∙ sym long)
      ∙ ap (λ (ys : List ℕ). toll A.q ys rs) is

  pub search_finds : (i : ℕ) (word : List ℕ) → word ≡ m.word (digits A.q m.k i) → 2 * wrong A.q word rs + marked A.q (take (length word) rs) < m.d → Some word ≡ word_in_reach A m rs
  search_finds i word is near =
      ap Some is ∙ sym (word_in_reach_lem A m keeps rs (digits A.q m.k i) long (record { message = symbols i; near = omega (arith, near, damage_of i word is) }))

  pub search_fails : (count : ℕ) → messages A.q m.k ≡ map (digits A.q m.k) (range_with_len 0 count) → ((i : ℕ) → i < count → m.d ≤ toll A.q (m.word (digits A.q m.k i)) rs) → None ≡ word_in_reach A m rs
  search_fails count all far =
      sym (no_word_in_reach A m rs (λ s h.
      let P : List ℕ → Type 0 = λ t. m.d ≤ toll A.q (m.word t) rs in
      let every : All P (map (digits A.q m.k) (range_with_len 0 count)) = All-map P (digits A.q m.k) (range_with_len 0 count) (all_counting _ 0 count (λ i l below. far i (omega arith))) in
      omega (arith, h.near, messages_has P A.q m.k s h.message (subst (All P) (sym all) every))))

-- Puncturing keeps a meaning, and what is in reach of it is in reach of the whole code with a mark put in. Assumes nothing.
use Rattle.std.proofs.Common.{◌≡◌, ℕ, suc, ◌+◌, ◌-◌, ◌<◌, ◌≤◌, List, length, get_or, sym, ap, ◌∙◌, arith}
use Rattle.std.specs.List.{insert, remove}
use Rattle.std.proofs.lemmas.Bool.Decides.{nat_tests}
use Rattle.theory.specs.Alphabets.{Arithmetic, Lawful}
use Rattle.theory.specs.Joins.{carrier_without, puncture}
use Rattle.theory.specs.Meanings.{Meaning, Keeps}
use Rattle.theory.specs.Reach.{InReach}
use Rattle.theory.specs.Words.{Symbols, toll}
use Rattle.theory.proofs.Distance.{distance_within}
use Rattle.theory.proofs.Gaps.{toll_inserted, differ_removed_most, removed_symbols, carrier_left}
use Rattle.theory.proofs.Words.{cost}

-- a mark put in costs one
pub toll_with_mark : (q p : ℕ) (xs rs : List ℕ) → q ≤ 255 → p < length xs → length xs ≡ suc (length rs) → toll q xs (insert rs p 255) ≡ toll q (remove xs p) rs + 1
toll_with_mark q p xs rs few h e =
    let one : cost q (get_or xs p 0) 255 ≡ 1 = grind (arith, nat_tests) in
    omega (arith, one, toll_inserted q p 255 xs rs h e)

module _ (A : Arithmetic) (laws : Lawful A) (p : ℕ) (m : Meaning) (keeps : Keeps A m) (place : p < m.n) (enough : 2 ≤ m.d) where
  -- the word has a place to lose, since the distance is at most the length, and loses at most one difference
  pub puncture_keeps : m.w + m.n ≤ 4096 → Keeps A (puncture p m)
  puncture_keeps room =
      record {
        some_places = omega (arith, distance_within A laws m keeps);
        some_symbols = keeps.some_symbols;
        some_distance = omega arith;
        room_for_word = omega arith;
        room_for_message = omega (arith, keeps.room_for_message);
        bounded = room;
        words = λ s h. removed_symbols A.q m.n p (m.word s) place (keeps.words s h);
        apart = λ s t hs ht other.
            let ls = (keeps.words s hs).long in
            let lt = (keeps.words t ht).long in
            omega (arith, keeps.apart s t hs ht other, differ_removed_most p (m.word s) (m.word t) (omega arith) (ls ∙ sym lt));
        carrier_within = λ i t e. let c = carrier_left m.n p t (m.carrier i) place e in c.2.within (keeps.carrier_within i c.0 c.1);
        carries = λ i t e s h.
            let c = carrier_left m.n p t (m.carrier i) place e in
            c.2.reads (m.word s) (omega (arith, (keeps.words s h).long)) ∙ keeps.carries i c.0 c.1 s h;
        carrier_absent = λ i h. ap (carrier_without p) (keeps.carrier_absent i h);
      }

  -- the toll of a word against what was received with the mark put in
  toll_below : (rs s : List ℕ) → length rs ≡ m.n - 1 → Symbols A.q m.k s → toll A.q (m.word s) (insert rs p 255) ≡ toll A.q (remove (m.word s) p) rs + 1
  toll_below rs s e h =
      let long = (keeps.words s h).long in
      toll_with_mark A.q p (m.word s) rs (omega (arith, laws.few_symbols)) (omega arith) (omega arith)

  -- in reach of the punctured code, in reach of the whole one
  pub puncture_reaches_below : (rs s : List ℕ) → length rs ≡ m.n - 1 → InReach A (puncture p m) rs s → InReach A m (insert rs p 255) s
  puncture_reaches_below rs s e h = record { message = h.message; near = omega (arith, h.near, toll_below rs s e h.message) }

  -- and the other way round
  pub below_reaches_puncture : (rs s : List ℕ) → length rs ≡ m.n - 1 → InReach A m (insert rs p 255) s → InReach A (puncture p m) rs s
  below_reaches_puncture rs s e h = record { message = h.message; near = omega (arith, h.near, toll_below rs s e h.message) }

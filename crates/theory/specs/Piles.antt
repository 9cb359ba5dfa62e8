-- Piles of joins, to any height: what their makings work out, and the pairs that they show.
use Rattle.std.specs.Prelude.{◌≡◌, ℕ, ◌*◌, ◌≤◌, Bool, cond, List, [], ◌++◌, replicate, ◌≢◌, nat_le}
use Rattle.theory.specs.Alphabets.{Arithmetic, Lawful}
use Rattle.theory.specs.Joins.{plotkin_making, direct_sum_making, puncture_making, shorten_making}
use Rattle.theory.specs.Meanings.{Meaning, Keeps, Making, made, refused_making}
use Rattle.theory.specs.Pairs.{AtDistance}
use Rattle.theory.specs.Words.{Symbols, differ}

-- codes of any meaning at the bottom, and joins above them
pub data Pile : Type 0 where
  leaf : Meaning → Pile
  plotkin_of : Pile → Pile → Pile
  sum_of : Pile → Pile → Pile
  puncture_at : ℕ → Pile → Pile
  shorten_at : ℕ → Pile → Pile

-- a making of what was made; where a part is refused, that refusal is the answer
abbrev pub made_of : (Meaning → Making) → Making → Making
made_of next (made m) = next m
made_of next (refused_making number) = refused_making number

-- what the makings of a pile work out, from the bottom up and from left to right
abbrev pub making_of : Arithmetic → Pile → Making
making_of A (leaf m) = made m
making_of A (plotkin_of p r) = made_of (λ u. made_of (λ v. plotkin_making A u v) (making_of A r)) (making_of A p)
making_of A (sum_of p r) = made_of (λ u. made_of (λ v. direct_sum_making u v) (making_of A r)) (making_of A p)
making_of A (puncture_at place p) = made_of (puncture_making place) (making_of A p)
making_of A (shorten_at place p) = made_of (shorten_making place) (making_of A p)

-- every code at the bottom keeps its meaning
abbrev pub LeavesKeep : Arithmetic → Pile → Type 0
LeavesKeep A (leaf m) = Keeps A m
LeavesKeep A (plotkin_of p r) = LeavesKeep A p × LeavesKeep A r
LeavesKeep A (sum_of p r) = LeavesKeep A p × LeavesKeep A r
LeavesKeep A (puncture_at place p) = LeavesKeep A p
LeavesKeep A (shorten_at place p) = LeavesKeep A p

-- over every lawful alphabet, whatever the makings of a pile work out keeps its meaning, if the codes at the bottom do
abbrev pub EveryPileKeepsItsMeaning : Type 0
EveryPileKeepsItsMeaning =
    (A : Arithmetic) → Lawful A → (p : Pile) → LeavesKeep A p → (m : Meaning) → making_of A p ≡ made m → Keeps A m

-- a pile of Plotkin joins and sums over codes that each show a pair
pub data ShowingPile : Type 0 where
  showing_leaf : Meaning → List ℕ → List ℕ → ShowingPile
  showing_plotkin : ShowingPile → ShowingPile → ShowingPile
  showing_sum : ShowingPile → ShowingPile → ShowingPile

abbrev pub pile_of : ShowingPile → Pile
pile_of (showing_leaf m s t) = leaf m
pile_of (showing_plotkin p r) = plotkin_of (pile_of p) (pile_of r)
pile_of (showing_sum p r) = sum_of (pile_of p) (pile_of r)

-- two messages
abbrev pub Pair : Type 0
Pair = List ℕ × List ℕ

abbrev pub shown_messages : ℕ
shown_messages = 2

-- the left part's pair, each followed by zeros, or the right part's, each after zeros
abbrev pub pair_of_parts : Bool → Meaning → Meaning → Pair → Pair → Pair
pair_of_parts left u v of_u of_v =
    cond left (of_u.0 ++ replicate v.k 0, of_u.1 ++ replicate v.k 0) (replicate u.k 0 ++ of_v.0, replicate u.k 0 ++ of_v.1)

abbrev pub plotkin_pair : Meaning → Meaning → Pair → Pair → Pair
plotkin_pair u v = pair_of_parts (nat_le (2 * u.d) v.d) u v

abbrev pub sum_pair : Meaning → Meaning → Pair → Pair → Pair
sum_pair u v = pair_of_parts (nat_le u.d v.d) u v

-- a pair by the meanings of two parts that were made
abbrev pub pair_by : (Meaning → Meaning → Pair → Pair → Pair) → Making → Making → Pair → Pair → Pair
pair_by rule (made u) (made v) of_u of_v = rule u v of_u of_v
pair_by rule (made u) (refused_making number) of_u of_v = ([], [])
pair_by rule (refused_making number) (made v) of_u of_v = ([], [])
pair_by rule (refused_making number) (refused_making other) of_u of_v = ([], [])

-- the pair that a pile shows
abbrev pub pair_of : Arithmetic → ShowingPile → Pair
pair_of A (showing_leaf m s t) = (s, t)
pair_of A (showing_plotkin p r) = pair_by plotkin_pair (making_of A (pile_of p)) (making_of A (pile_of r)) (pair_of A p) (pair_of A r)
pair_of A (showing_sum p r) = pair_by sum_pair (making_of A (pile_of p)) (making_of A (pile_of r)) (pair_of A p) (pair_of A r)

abbrev pub LeavesShow : Arithmetic → ShowingPile → Type 0
LeavesShow A (showing_leaf m s t) = Keeps A m × AtDistance A m s t
LeavesShow A (showing_plotkin p r) = LeavesShow A p × LeavesShow A r
LeavesShow A (showing_sum p r) = LeavesShow A p × LeavesShow A r

-- no two different messages have words that differ in fewer places than the distance
abbrev pub NoneNearer : Arithmetic → Meaning → Type 0
NoneNearer A m = (s t : List ℕ) → Symbols A.q m.k s → Symbols A.q m.k t → (s ≢ t) → m.d ≤ differ (m.word s) (m.word t)

-- over every lawful alphabet, the pair that a pile shows are two different messages whose words differ in exactly the
-- worked-out distance, and no two different messages have words that differ in fewer places
abbrev pub ShownPairIsAtTheDistance : Type 0
ShownPairIsAtTheDistance =
    (A : Arithmetic) → Lawful A → (p : ShowingPile) → LeavesShow A p → (m : Meaning) → making_of A (pile_of p) ≡ made m → AtDistance A m (pair_of A p).0 (pair_of A p).1 × NoneNearer A m

-- Every pile keeps its meaning, and the pair that it shows is at the distance: both by induction on the pile. Assumes nothing.
use Rattle.std.proofs.Common.{◌≡◌, ℕ, ◌+◌, ◌*◌, ◌<◌, ◌≤◌, Bool, true, false, eqb, ltb, leb, Some, None, Option, sym, refl, ap, ◌∙◌, subst, arith}
use Rattle.std.proofs.lemmas.Bool.{ltb-true, leb-true, eqb-true}
use Rattle.theory.specs.Alphabets.{Arithmetic, Lawful}
use Rattle.theory.specs.Joins.{plotkin, direct_sum, puncture, shorten, unless, plotkin_making, direct_sum_making, puncture_making, shorten_making_by, shorten_making}
use Rattle.theory.specs.Meanings.{Meaning, Keeps, Making, made, refused_making}
use Rattle.theory.specs.Pairs.{AtDistance}
use Rattle.theory.specs.Piles.{leaf, plotkin_of, sum_of, puncture_at, shorten_at, made_of, making_of, LeavesKeep, EveryPileKeepsItsMeaning, ShowingPile, showing_leaf, showing_plotkin, showing_sum, pile_of, Pair, pair_by, plotkin_pair, sum_pair, pair_of, LeavesShow, ShownPairIsAtTheDistance}
use Rattle.theory.proofs.DirectSum.{direct_sum_keeps, direct_sum_shows}
use Rattle.theory.proofs.Plotkin.{plotkin_keeps, plotkin_shows}
use Rattle.theory.proofs.Puncture.{puncture_keeps}
use Rattle.theory.proofs.Shorten.{shorten_keeps}

-- a check that was passed
passed : (test : Bool) (number : ℕ) (rest : Making) (m : Meaning) → unless test number rest ≡ made m → (test ≡ true) × (rest ≡ made m)
passed true number rest m e = (refl, e)
passed false number rest m e = absurd (let z : ◌≡◌ {A = ℕ} 0 1 = cc in omega arith)

same_made : (m m' : Meaning) → made m ≡ made m' → m ≡ m'
same_made m m' e = cc

-- a making of something made: what was made, and the making of it
below : (next : Meaning → Making) (o : Making) (m : Meaning) → made_of next o ≡ made m → (u : Meaning) × (o ≡ made u) × (next u ≡ made m)
below next (made u) m e = (u, refl, e)
below next (refused_making number) m e = absurd (let z : ◌≡◌ {A = ℕ} 0 1 = cc in omega arith)

-- what an accepted making of each join made, and what its checks found
module _ (A : Arithmetic) (u v m : Meaning) where
  plotkin_accepted : plotkin_making A u v ≡ made m → (u.n ≡ v.n) × (3 * u.n + u.w + v.w ≤ 4096) × (plotkin A u v ≡ m)
  unfolding plotkin_making
  plotkin_accepted e =
      let a = passed (eqb u.n v.n) 5 _ m e in
      let b = passed (leb (plotkin A u v).w 4096) 6 _ m a.1 in
      (eqb-true u.n v.n a.0, leb-true (plotkin A u v).w 4096 b.0, same_made (plotkin A u v) m b.1)

  sum_accepted : direct_sum_making u v ≡ made m → (u.n + v.n + u.w + v.w ≤ 4096) × (direct_sum u v ≡ m)
  unfolding direct_sum_making
  sum_accepted e =
      let b = passed (leb (direct_sum u v).w 4096) 6 _ m e in
      (leb-true (direct_sum u v).w 4096 b.0, same_made (direct_sum u v) m b.1)

puncture_accepted : (p : ℕ) (u m : Meaning) → puncture_making p u ≡ made m → (p < u.n) × (2 ≤ u.d) × (u.w + u.n ≤ 4096) × (puncture p u ≡ m)
unfolding puncture_making
puncture_accepted p u m e =
    let a = passed (ltb p u.n) 7 _ m e in
    let b = passed (leb 2 u.d) 8 _ m a.1 in
    let c = passed (leb (puncture p u).w 4096) 6 _ m b.1 in
    (ltb-true p u.n a.0, leb-true 2 u.d b.0, leb-true (puncture p u).w 4096 c.0, same_made (puncture p u) m c.1)

shorten_accepted : (j : ℕ) (u m : Meaning) → shorten_making j u ≡ made m → (t : ℕ) × (j < u.k) × (2 ≤ u.k) × (u.carrier j ≡ Some t) × (u.w + u.n ≤ 4096) × (shorten j t u ≡ m)
unfolding shorten_making
shorten_accepted j u m e =
    let a = passed (ltb j u.k) 7 _ m e in
    let b = passed (leb 2 u.k) 9 _ m a.1 in
    go (ltb-true j u.k a.0) (leb-true 2 u.k b.0) (u.carrier j) refl b.1
  where
    go : j < u.k → 2 ≤ u.k → (o : Option ℕ) → u.carrier j ≡ o → shorten_making_by j u o ≡ made m → (t : ℕ) × (j < u.k) × (2 ≤ u.k) × (u.carrier j ≡ Some t) × (u.w + u.n ≤ 4096) × (shorten j t u ≡ m)
    go l h None f g = absurd (let z : ◌≡◌ {A = ℕ} 0 1 = cc in omega arith)
    go l h (Some t) f g =
        let c = passed (leb (shorten j t u).w 4096) 6 _ m g in
        (t, l, h, f, leb-true (shorten j t u).w 4096 c.0, same_made (shorten j t u) m c.1)

-- one step of a pile: a join of kept meanings that is made keeps its meaning
module _ (A : Arithmetic) (laws : Lawful A) where
  pub plotkin_step : (u v m : Meaning) → Keeps A u → Keeps A v → plotkin_making A u v ≡ made m → Keeps A m
  plotkin_step u v m hu hv e =
      let a = plotkin_accepted A u v m e in
      subst (Keeps A) a.2 (plotkin_keeps A laws u v hu hv a.0 a.1)

  pub sum_step : (u v m : Meaning) → Keeps A u → Keeps A v → direct_sum_making u v ≡ made m → Keeps A m
  sum_step u v m hu hv e = let a = sum_accepted A u v m e in subst (Keeps A) a.1 (direct_sum_keeps A laws u v hu hv a.0)

  pub puncture_step : (p : ℕ) (u m : Meaning) → Keeps A u → puncture_making p u ≡ made m → Keeps A m
  puncture_step p u m hu e =
      let a = puncture_accepted p u m e in
      subst (Keeps A) a.3 (puncture_keeps A laws p u hu a.0 a.1 a.2)

  pub shorten_step : (j : ℕ) (u m : Meaning) → Keeps A u → shorten_making j u ≡ made m → Keeps A m
  shorten_step j u m hu e =
      let a = shorten_accepted j u m e in
      subst (Keeps A) a.5 (shorten_keeps A laws j a.0 u hu a.1 a.2 a.3 a.4)

pub every_pile_keeps_its_meaning : EveryPileKeepsItsMeaning
every_pile_keeps_its_meaning A laws (leaf l) h m e = subst (Keeps A) (same_made l m e) h
every_pile_keeps_its_meaning A laws (plotkin_of p r) h m e =
    let a = below (λ u. made_of (λ v. plotkin_making A u v) (making_of A r)) (making_of A p) m e in
    let b = below (λ v. plotkin_making A a.0 v) (making_of A r) m a.2 in
    plotkin_step A laws a.0 b.0 m (every_pile_keeps_its_meaning A laws p h.0 a.0 a.1) (every_pile_keeps_its_meaning A laws r h.1 b.0 b.1) b.2
every_pile_keeps_its_meaning A laws (sum_of p r) h m e =
    let a = below (λ u. made_of (λ v. direct_sum_making u v) (making_of A r)) (making_of A p) m e in
    let b = below (λ v. direct_sum_making a.0 v) (making_of A r) m a.2 in
    sum_step A laws a.0 b.0 m (every_pile_keeps_its_meaning A laws p h.0 a.0 a.1) (every_pile_keeps_its_meaning A laws r h.1 b.0 b.1) b.2
every_pile_keeps_its_meaning A laws (puncture_at place p) h m e =
    let a = below (puncture_making place) (making_of A p) m e in
    puncture_step A laws place a.0 m (every_pile_keeps_its_meaning A laws p h a.0 a.1) a.2
every_pile_keeps_its_meaning A laws (shorten_at place p) h m e =
    let a = below (shorten_making place) (making_of A p) m e in
    shorten_step A laws place a.0 m (every_pile_keeps_its_meaning A laws p h a.0 a.1) a.2

-- the codes at the bottom of a showing pile keep their meaning
leaves_keep : (A : Arithmetic) (p : ShowingPile) → LeavesShow A p → LeavesKeep A (pile_of p)
leaves_keep A (showing_leaf m s t) h = h.0
leaves_keep A (showing_plotkin p r) h = (leaves_keep A p h.0, leaves_keep A r h.1)
leaves_keep A (showing_sum p r) h = (leaves_keep A p h.0, leaves_keep A r h.1)

-- the pair of two parts that were made
pub pair_by_lem : (rule : Meaning → Meaning → Pair → Pair → Pair) (o o' : Making) (u v : Meaning) (of_u of_v : Pair) → o ≡ made u → o' ≡ made v → pair_by rule o o' of_u of_v ≡ rule u v of_u of_v
pair_by_lem rule o o' u v of_u of_v e f =
    ap (λ (x : Making). pair_by rule x o' of_u of_v) e ∙ ap (λ (y : Making). pair_by rule (made u) y of_u of_v) f

pair_at_distance : (A : Arithmetic) → Lawful A → (p : ShowingPile) → LeavesShow A p → (m : Meaning) → making_of A (pile_of p) ≡ made m → AtDistance A m (pair_of A p).0 (pair_of A p).1
pair_at_distance A laws (showing_leaf l s t) h m e = subst (λ (x : Meaning). AtDistance A x s t) (same_made l m e) h.1
pair_at_distance A laws (showing_plotkin p r) h m e =
    let a = below (λ u. made_of (λ v. plotkin_making A u v) (making_of A (pile_of r))) (making_of A (pile_of p)) m e in
    let b = below (λ v. plotkin_making A a.0 v) (making_of A (pile_of r)) m a.2 in
    let c = plotkin_accepted A a.0 b.0 m b.2 in
    let hu = every_pile_keeps_its_meaning A laws (pile_of p) (leaves_keep A p h.0) a.0 a.1 in
    let hv = every_pile_keeps_its_meaning A laws (pile_of r) (leaves_keep A r h.1) b.0 b.1 in
    let shows = plotkin_shows A laws a.0 b.0 hu hv c.0 (pair_of A p) (pair_of A r) (pair_at_distance A laws p h.0 a.0 a.1) (pair_at_distance A laws r h.1 b.0 b.1) in
    let is = pair_by_lem plotkin_pair (making_of A (pile_of p)) (making_of A (pile_of r)) a.0 b.0 (pair_of A p) (pair_of A r) a.1 b.1 in
    subst (λ (x : Pair). AtDistance A m x.0 x.1) (sym is) (subst (λ (x : Meaning). AtDistance A x (plotkin_pair a.0 b.0 (pair_of A p) (pair_of A r)).0 (plotkin_pair a.0 b.0 (pair_of A p) (pair_of A r)).1) c.2 shows)
pair_at_distance A laws (showing_sum p r) h m e =
    let a = below (λ u. made_of (λ v. direct_sum_making u v) (making_of A (pile_of r))) (making_of A (pile_of p)) m e in
    let b = below (λ v. direct_sum_making a.0 v) (making_of A (pile_of r)) m a.2 in
    let c = sum_accepted A a.0 b.0 m b.2 in
    let hu = every_pile_keeps_its_meaning A laws (pile_of p) (leaves_keep A p h.0) a.0 a.1 in
    let hv = every_pile_keeps_its_meaning A laws (pile_of r) (leaves_keep A r h.1) b.0 b.1 in
    let shows = direct_sum_shows A laws a.0 b.0 hu hv (pair_of A p) (pair_of A r) (pair_at_distance A laws p h.0 a.0 a.1) (pair_at_distance A laws r h.1 b.0 b.1) in
    let is = pair_by_lem sum_pair (making_of A (pile_of p)) (making_of A (pile_of r)) a.0 b.0 (pair_of A p) (pair_of A r) a.1 b.1 in
    subst (λ (x : Pair). AtDistance A m x.0 x.1) (sym is) (subst (λ (x : Meaning). AtDistance A x (sum_pair a.0 b.0 (pair_of A p) (pair_of A r)).0 (sum_pair a.0 b.0 (pair_of A p) (pair_of A r)).1) c.1 shows)

pub shown_pair_is_at_the_distance : ShownPairIsAtTheDistance
shown_pair_is_at_the_distance A laws p h m e =
    (pair_at_distance A laws p h m e, (every_pile_keeps_its_meaning A laws (pile_of p) (leaves_keep A p h) m e).apart)

-- What a call that passes its checks was handed; and a cue that is not there is refused whatever else holds. Assumes nothing.
use Rattle.std.proofs.Common.{◌≡◌, ℕ, ◌<◌, ◌≤◌, Bool, true, false, ◌&&◌, ◌||◌, eqb, ltb, Some, None, Option, sym, refl, ◌∙◌, ⊎_elim, arith}
use Rattle.std.proofs.lemmas.Bool.{ltb-false, leb-false, le-leb, or_parts, cond-true, cases_eq, eq-eqb, ne_eqb}
use Rattle.theory.specs.Alphabets.{Arithmetic}
use Rattle.theory.specs.Calls.{accepted}
use Rattle.theory.specs.Meanings.{Meaning}
use Rattle.store_theory.specs.Books.{passes}
use Rattle.store_theory.specs.Calls.{outcome_of, store_making}
use Rattle.store_theory.specs.Checks.{refuse, absent, few_cells, few_bytes, making_check, record_check, slip_check, hold_check, wipe_check, touch_check}
use Rattle.store_theory.specs.Layout.{Plan, cell_count, most_cues, most_levels}

-- a check that was passed
passed : (number : ℕ) (applies : Bool) (rest : Option ℕ) → refuse number applies rest ≡ None → (applies ≡ false) × (rest ≡ None)
passed number true rest e = absurd (let z : ◌≡◌ {A = ℕ} 0 1 = cc in omega arith)
passed number false rest e = (refl, e)

-- a store that is made has at least one cue and at most as many as there are marks, and at least one level in each
pub made_in_range : (A : Arithmetic) (m : Meaning) (p : Plan) → store_making A m p ≡ accepted → (1 ≤ p.cues) × (p.cues ≤ most_cues) × (1 ≤ p.levels)
unfolding making_check
made_in_range A m p e = go (making_check A m p) refl e
  where
    go : (o : Option ℕ) → making_check A m p ≡ o → outcome_of o ≡ accepted → (1 ≤ p.cues) × (p.cues ≤ most_cues) × (1 ≤ p.levels)
    go (Some number) f g = absurd (let z : ◌≡◌ {A = ℕ} 0 1 = cc in omega arith)
    go None f g =
        let first = passed 11 (ltb p.cues 1 || ltb most_cues p.cues || ltb p.levels 1 || ltb most_levels p.levels) _ f in
        let ranges = or_parts (ltb p.cues 1 || ltb most_cues p.cues || ltb p.levels 1) (ltb most_levels p.levels) first.0 in
        let cues = or_parts (ltb p.cues 1 || ltb most_cues p.cues) (ltb p.levels 1) ranges.0 in
        let both = or_parts (ltb p.cues 1) (ltb most_cues p.cues) cues.0 in
        (ltb-false p.cues 1 both.0, ltb-false most_cues p.cues both.1, ltb-false p.levels 1 cues.1)

module _ (A : Arithmetic) (m : Meaning) (p : Plan) where
  -- there is such a cue, and there are cells and working memory enough
  pub record Enough (cue cells : ℕ) : Type 0 where
    pub there : cue < p.cues
    pub room : cell_count A m p ≤ cells

  -- the first two checks of a call: there is such a cue, and it is handed enough
  front_passed : (cue : ℕ) (few : Bool) (rest : Option ℕ) → refuse 12 (absent p cue) (refuse 1 few rest) ≡ None → (cue < p.cues) × (few ≡ false) × (rest ≡ None)
  front_passed cue few rest e =
      let first = passed 12 (absent p cue) (refuse 1 few rest) e in
      let second = passed 1 few rest first.1 in
      (leb-false p.cues cue first.0, second.0, second.1)

  bytes_enough : (cue cells memory : ℕ) → cue < p.cues → few_bytes A m p cells memory ≡ false → Enough cue cells
  bytes_enough cue cells memory there e =
      record { there = there; room = ltb-false cells (cell_count A m p) (or_parts (few_cells A m p cells) (ltb memory m.w) e).0 }

  -- a cue that is not there is refused whatever else is found
  refused_absent : (cue : ℕ) (rest rest' : Option ℕ) → p.cues ≤ cue → refuse 12 (absent p cue) rest ≡ refuse 12 (absent p cue) rest'
  refused_absent cue rest rest' l =
      cond-true (absent p cue) (Some 12) rest (le-leb p.cues cue l) ∙ sym (cond-true (absent p cue) (Some 12) rest' (le-leb p.cues cue l))

  module _ (cue cells levels memory : ℕ) where
    pub record_passed : (h : Bool) → record_check A m p h cue cells levels memory ≡ None → Enough cue cells × (levels ≤ p.levels)
    unfolding record_check
    record_passed h e =
        let front = front_passed cue (few_bytes A m p cells memory) _ e in
        let many = passed 13 (ltb p.levels levels) _ front.2 in
        (bytes_enough cue cells memory front.0 front.1, ltb-false p.levels levels many.0)

    pub slip_passed : (h : Bool) → slip_check A m p h cue cells levels memory ≡ None → Enough cue cells × (levels ≤ p.levels)
    unfolding slip_check
    slip_passed h e =
        let front = front_passed cue (few_bytes A m p cells memory) _ e in
        let many = passed 13 (ltb p.levels levels) _ front.2 in
        (bytes_enough cue cells memory front.0 front.1, ltb-false p.levels levels many.0)

    pub touch_passed : (h : Bool) → touch_check A m p h cue cells memory ≡ None → Enough cue cells
    unfolding touch_check
    touch_passed h e = let front = front_passed cue (few_bytes A m p cells memory) _ e in bytes_enough cue cells memory front.0 front.1

    pub wipe_passed : (h : Bool) → wipe_check A m p h cue cells ≡ None → Enough cue cells
    unfolding wipe_check
    wipe_passed h e =
        let front = front_passed cue (few_cells A m p cells) _ e in
        record { there = front.0; room = ltb-false cells (cell_count A m p) front.1 }

    pub record_absent : (h h' : Bool) → p.cues ≤ cue → record_check A m p h cue cells levels memory ≡ record_check A m p h' cue cells levels memory
    unfolding record_check
    record_absent h h' l = refused_absent cue _ _ l

    pub slip_absent : (h h' : Bool) → p.cues ≤ cue → slip_check A m p h cue cells levels memory ≡ slip_check A m p h' cue cells levels memory
    unfolding slip_check
    slip_absent h h' l = refused_absent cue _ _ l

    pub touch_absent : (h h' : Bool) → p.cues ≤ cue → touch_check A m p h cue cells memory ≡ touch_check A m p h' cue cells memory
    unfolding touch_check
    touch_absent h h' l = refused_absent cue _ _ l

    pub wipe_absent : (h h' : Bool) → p.cues ≤ cue → wipe_check A m p h cue cells ≡ wipe_check A m p h' cue cells
    unfolding wipe_check
    wipe_absent h h' l = refused_absent cue _ _ l

    pub hold_absent : (h h' : Bool) → p.cues ≤ cue → hold_check p h cue ≡ hold_check p h' cue
    unfolding hold_check
    hold_absent h h' l = refused_absent cue _ _ l

-- A call of cue `which`, seen from cue `cue`: the store's checks found this, the book's that, and where the cues are one they
-- found the same. So it was accepted here, accepted elsewhere, or refused.
pub seen_from : (P : Option ℕ → Bool → Type 0) (which cue : ℕ) (found booked : Option ℕ) → (which ≡ cue → found ≡ booked) → (which ≡ cue → found ≡ None → P None true) → ((which ≡ cue → ⊥) → found ≡ None → P None false) → ((number : ℕ) → P (Some number) false) → P found (eqb which cue && passes booked)
seen_from P which cue found booked alike here elsewhere refusal =
    ⊎_elim one another (cases_eq which cue)
  where
    at_one : (o o' : Option ℕ) (b : Bool) → b ≡ true → o ≡ o' → (o ≡ None → P None true) → P o (b && passes o')
    at_one o o' false t e h = absurd (let z : ◌≡◌ {A = ℕ} 0 1 = cc in omega arith)
    at_one None None true t e h = h refl
    at_one None (Some number) true t e h = absurd (let z : ◌≡◌ {A = ℕ} 0 1 = cc in omega arith)
    at_one (Some number) None true t e h = absurd (let z : ◌≡◌ {A = ℕ} 0 1 = cc in omega arith)
    at_one (Some number) (Some other) true t e h = refusal number

    at_another : (o o' : Option ℕ) (b : Bool) → b ≡ false → (o ≡ None → P None false) → P o (b && passes o')
    at_another o o' true t h = absurd (let z : ◌≡◌ {A = ℕ} 0 1 = cc in omega arith)
    at_another None o' false t h = h refl
    at_another (Some number) o' false t h = refusal number

    one : which ≡ cue → P found (eqb which cue && passes booked)
    one e = at_one found booked (eqb which cue) (eq-eqb which cue e) (alike e) (here e)

    another : (which ≡ cue → ⊥) → P found (eqb which cue && passes booked)
    another e = at_another found booked (eqb which cue) (ne_eqb which cue e) (elsewhere e)

-- What a recall comes to once its words and levels are read. Assumes nothing.
use Rattle.std.proofs.Common.{◌≡◌, ℕ, List, [], ◌∷◌, ◌++◌, length, drop, Some, None, Option, sym, refl, ap, ◌∙◌, subst, ap₂, arith}
use Rattle.std.proofs.lemmas.List.{drop_at, length-append}
use Rattle.store_theory.specs.Calls.{StoreAnswer, outcome_of, zeroed, first_place, is_beyond_reach, level_fault, shown_levels, read_words, recalled_cue_by, recalled_cue}
use Rattle.store_theory.specs.Layout.{Plan, cue_words, level_numbers}
use Rattle.store_theory.specs.States.{State}
use Rattle.store_theory.specs.Statements.{LastRecorded}
use Rattle.store_theory.proofs.Recalls.{recall_gives_what_was_last_recorded}
use Rattle.theory.specs.Alphabets.{Arithmetic}
use Rattle.theory.specs.Calls.{Outcome, accepted, refused}
use Rattle.theory.specs.Meanings.{Meaning}
use Rattle.theory.specs.Memory.{cleared}
use Rattle.theory.proofs.Trips.{not_accepted}
use Rattle.cues.specs.Shapes.{plan_in}
use Rattle.cues.specs.declared.shape.Shape.{Shape}
use Rattle.cues.specs.Steps.{reach_outcome, level_outcome, symbols_in}
use Rattle.cues.proofs.Sizes.{KnownStore}
use Rattle.cues.proofs.WordWrites.{cleared_same}

-- zeros in place of what was written in front
pub front_cleared : (n : ℕ) (xs written : List ℕ) → length written ≡ n → cleared (written ++ drop n xs) 0 n ≡ zeroed n xs
front_cleared n xs written e =
    cleared_same n n xs (written ++ drop n xs) refl (omega (arith, e, length-append written (drop n xs))) (drop_at written (drop n xs) n e)

module _ (A : Arithmetic) (m : Meaning) (p : Plan) (cue : ℕ) (state : State) (cells levels memory : List ℕ) where
  -- what was read stands as it is, or zeros stand in its place
  module _ (o : Outcome) (levels' memory' : List ℕ) (shown : o ≡ accepted → levels' ≡ level_numbers A p (symbols_in A m p cue cells) ++ drop p.levels levels) (dark : (o ≡ accepted → ⊥) → levels' ≡ zeroed p.levels levels) (clean : memory' ≡ zeroed m.w memory) where
    abbrev given : Outcome → List ℕ → List ℕ → StoreAnswer
    given answer ls ms = (answer, state, cells, ls, ms)

    zeros : (number : ℕ) (values : List ℕ) → o ≡ refused number values → given o levels' memory' ≡ given (refused number values) (zeroed p.levels levels) (zeroed m.w memory)
    zeros number values e =
        ap₂ (given o) (dark (λ a. not_accepted number values (sym e ∙ a))) clean
        ∙ ap (λ (x : Outcome). given x (zeroed p.levels levels) (zeroed m.w memory)) e

    by_levels : (fault : Option ℕ) → o ≡ level_outcome A m p cue fault → given o levels' memory' ≡ shown_levels A m p cue state cells levels memory (symbols_in A m p cue cells) fault
    by_levels None e = ap₂ (given o) (shown e) clean ∙ ap (λ (x : Outcome). given x (level_numbers A p (symbols_in A m p cue cells) ++ drop p.levels levels) (zeroed m.w memory)) e
    by_levels (Some level) e = zeros 16 (cue ∷ level ∷ []) e

    by_words : (fault : Option ℕ) → o ≡ reach_outcome A m p cue fault (level_outcome A m p cue (level_fault A p (symbols_in A m p cue cells))) → given o levels' memory' ≡ read_words A m p cue state cells levels memory (cue_words A m p cells cue) fault
    by_words None e = by_levels (level_fault A p (symbols_in A m p cue cells)) e
    by_words (Some word) e = zeros 3 (cue ∷ word ∷ []) e

    pub recall_read : o ≡ reach_outcome A m p cue (first_place (is_beyond_reach A m) (cue_words A m p cells cue)) (level_outcome A m p cue (level_fault A p (symbols_in A m p cue cells))) → ◌≡◌ {A = StoreAnswer} (o, state, cells, levels', memory') (recalled_cue_by A m p cue state cells levels memory None)
    recall_read e = by_words (first_place (is_beyond_reach A m) (cue_words A m p cells cue)) e

-- what a recall comes to by its definition, gives what was last recorded
pub last_recorded : {A : Arithmetic} {m : Meaning} {shape : Shape} (fit : KnownStore A m shape) (cue : ℕ) (state : State) (cells levels memory : List ℕ) {left : StoreAnswer} → left ≡ recalled_cue A m (plan_in shape) cue state cells levels memory → LastRecorded A m (plan_in shape) cue state cells levels memory left
last_recorded {A} {m} {shape} fit cue state cells levels memory e =
    subst (LastRecorded A m (plan_in shape) cue state cells levels memory) (sym e) (recall_gives_what_was_last_recorded A fit.laws m fit.keeps (plan_in shape) (ap outcome_of fit.numbers.making) cue state cells levels memory)

-- The laws of reach: at most one message is in reach; one in reach is the one found; none in reach, none found.
-- And the same of the message whose word is read. Assumes nothing.
use Rattle.std.proofs.Common.{◌≡◌, ℕ, zero, suc, ◌+◌, ◌<◌, ◌≤◌, Bool, true, false, cond, ltb, List, [], ◌∷◌, ◌++◌, map, length, Some, None, Option, sym, refl, ap, ◌∙◌, subst, ⊎_elim, arith}
use Rattle.std.specs.List.{range_with_len, flat_map, AllByRecursion as All}
use Rattle.std.specs.Option.{option_map}
use Rattle.std.proofs.ByRecursion.{All-append, All-map, All-weaker}
use Rattle.std.proofs.lemmas.Bool.{ltb-true, lt-ltb, both_ways, cases_lt}
use Rattle.theory.specs.Alphabets.{Arithmetic}
use Rattle.theory.specs.Meanings.{Meaning, Keeps}
use Rattle.theory.specs.Reach.{InReach, messages, first, message_in_reach, word_in_reach, same, message_of_word}
use Rattle.theory.specs.Words.{Symbols, differ, toll}
use Rattle.theory.proofs.Words.{differ_le_tolls, differ_self, toll_self, cases_same, same_true, same_self}

all_joined : {X Y : Type 0} (P : Y → Type 0) (f : X → List Y) (xs : List X) → All (λ x. All P (f x)) xs → All P (flat_map f xs)
all_joined P f [] h = tt
all_joined P f (x ∷ xs) h = All-append P (f x) (flat_map f xs) h.0 (all_joined P f xs h.1)

pub all_counting : (P : ℕ → Type 0) (a n : ℕ) → ((i : ℕ) → a ≤ i → i < a + n → P i) → All P (range_with_len a n)
all_counting P a zero h = tt
all_counting P a (suc n) h = (h a (omega arith) (omega arith), all_counting P (a + 1) n (λ i l m. h i (omega arith) (omega arith)))

-- every listed message is one
pub messages_are : (q k : ℕ) → All (Symbols q k) (messages q k)
messages_are q zero = (record { long = refl; each = tt }, tt)
messages_are q (suc k) =
    all_joined (Symbols q (suc k)) (λ x. map (λ s. x ∷ s) (messages q k)) (range_with_len 0 q)
    (all_counting _ 0 q (λ x l m. All-map (Symbols q (suc k)) (λ s. x ∷ s) (messages q k)
    (All-weaker (Symbols q k) _ (λ s h. record { long = ap suc h.long; each = (omega arith, h.each) }) (messages q k) (messages_are q k))))

all_of_append : {X : Type 0} (P : X → Type 0) (xs ys : List X) → All P (xs ++ ys) → All P xs × All P ys
all_of_append P [] ys h = (tt, h)
all_of_append P (x ∷ xs) ys h = let r = all_of_append P xs ys h.1 in ((h.0, r.0), r.1)

all_of_map : {X Y : Type 0} (P : Y → Type 0) (f : X → Y) (xs : List X) → All P (map f xs) → All (λ x. P (f x)) xs
all_of_map P f [] h = tt
all_of_map P f (x ∷ xs) h = (h.0, all_of_map P f xs h.1)

all_of_joined : {Y : Type 0} (P : Y → Type 0) (f : ℕ → List Y) (a n : ℕ) → All P (flat_map f (range_with_len a n)) → (i : ℕ) → a ≤ i → i < a + n → All P (f i)
all_of_joined P f a zero h i l m = absurd (omega arith)
all_of_joined P f a (suc n) h i l m =
    let r = all_of_append P (f a) (flat_map f (range_with_len (a + 1) n)) h in
    ⊎_elim (λ (b : a < i). all_of_joined P f (a + 1) n r.1 i (omega arith) (omega arith)) (λ (b : i ≤ a). let e : a ≡ i = omega arith in subst (λ (j : ℕ). All P (f j)) e r.0) (cases_lt a i)

-- and every message is listed: what holds of all that are listed holds of it
pub messages_has : (P : List ℕ → Type 0) (q k : ℕ) (s : List ℕ) → Symbols q k s → All P (messages q k) → P s
messages_has P q zero [] h all = all.0
messages_has P q zero (x ∷ s) h all = absurd (omega (arith, h.long))
messages_has P q (suc k) [] h all = absurd (omega (arith, h.long))
messages_has P q (suc k) (x ∷ s) h all =
    let here = all_of_joined P (λ x. map (λ s. x ∷ s) (messages q k)) 0 q all x (omega arith) (omega (arith, h.each.0)) in
    messages_has (λ t. P (x ∷ t)) q k s (record { long = omega (arith, h.long); each = h.each.1 }) (all_of_map P (λ s. x ∷ s) (messages q k) here)

module _ {X : Type 0} (test : X → Bool) where
  pub first_passes : (P : X → Type 0) (xs : List X) (x : X) → All P xs → first test xs ≡ Some x → P x × (test x ≡ true)
  first_passes P [] x h e = absurd (let z : ◌≡◌ {A = ℕ} 0 1 = cc in omega arith)
  first_passes P (y ∷ xs) x h e = go (test y) refl e (first_passes P xs x h.1)
    where
      go : (b : Bool) → test y ≡ b → cond b (Some y) (first test xs) ≡ Some x → (first test xs ≡ Some x → P x × (test x ≡ true)) → P x × (test x ≡ true)
      go true p f rest = let e : y ≡ x = cc in subst (λ (z : X). P z × (test z ≡ true)) e (h.0, p)
      go false p f rest = rest f

  pub first_none : (xs : List X) → first test xs ≡ None → All (λ x. test x ≡ false) xs
  first_none [] e = tt
  first_none (y ∷ xs) e = go (test y) refl e (first_none xs)
    where
      go : (b : Bool) → test y ≡ b → cond b (Some y) (first test xs) ≡ None → (first test xs ≡ None → All (λ x. test x ≡ false) xs) → (test y ≡ false) × All (λ x. test x ≡ false) xs
      go true p f rest = absurd (let z : ◌≡◌ {A = ℕ} 0 1 = cc in omega arith)
      go false p f rest = (p, rest f)

module _ (A : Arithmetic) (m : Meaning) where
  -- what is found is in reach
  pub found_in_reach : (rs s : List ℕ) → message_in_reach A m rs ≡ Some s → InReach A m rs s
  unfolding message_in_reach
  found_in_reach rs s e =
      let test : List ℕ → Bool = λ t. ltb (toll A.q (m.word t) rs) m.d in
      let f = first_passes test (Symbols A.q m.k) (messages A.q m.k) s (messages_are A.q m.k) e in
      record { message = f.0; near = ltb-true (toll A.q (m.word s) rs) m.d f.1 }

  -- where nothing is found, no message is in reach
  pub none_in_reach : (rs : List ℕ) → message_in_reach A m rs ≡ None → (s : List ℕ) → InReach A m rs s → ⊥
  unfolding message_in_reach
  none_in_reach rs e s h =
      let test : List ℕ → Bool = λ t. ltb (toll A.q (m.word t) rs) m.d in
      let none = messages_has (λ t. test t ≡ false) A.q m.k s h.message (first_none test (messages A.q m.k) e) in
      both_ways (test s) none (lt-ltb (toll A.q (m.word s) rs) m.d h.near)

  -- a message whose word is found is a message, and that is its word
  pub read_is_word : (xs s : List ℕ) → message_of_word A m xs ≡ Some s → Symbols A.q m.k s × (m.word s ≡ xs)
  unfolding message_of_word
  read_is_word xs s e =
      let test : List ℕ → Bool = λ t. same (m.word t) xs in
      let f = first_passes test (Symbols A.q m.k) (messages A.q m.k) s (messages_are A.q m.k) e in
      (f.0, same_true (m.word s) xs f.1)

  -- where none is found, it is no message's word
  pub none_has_word : (xs : List ℕ) → message_of_word A m xs ≡ None → (s : List ℕ) → Symbols A.q m.k s → m.word s ≡ xs → ⊥
  unfolding message_of_word
  none_has_word xs e s h w =
      let test : List ℕ → Bool = λ t. same (m.word t) xs in
      let none = messages_has (λ t. test t ≡ false) A.q m.k s h (first_none test (messages A.q m.k) e) in
      both_ways (test s) none (ap (λ (ys : List ℕ). same ys xs) w ∙ same_self xs)

module _ (A : Arithmetic) (m : Meaning) (keeps : Keeps A m) where
  -- words that differ in fewer than d places are of one message
  pub apart_close : (s t : List ℕ) → Symbols A.q m.k s → Symbols A.q m.k t → differ (m.word s) (m.word t) < m.d → s ≡ t
  apart_close s t hs ht close = ⊎_elim (λ (e : s ≡ t). e) (λ (e : s ≡ t → ⊥). absurd (omega (arith, keeps.apart s t hs ht e))) (cases_same s t)

  -- at most one message is in reach
  pub at_most_one_in_reach : (rs s t : List ℕ) → length rs ≡ m.n → InReach A m rs s → InReach A m rs t → s ≡ t
  at_most_one_in_reach rs s t e hs ht =
      let ls = (keeps.words s hs.message).long in
      let lt = (keeps.words t ht.message).long in
      apart_close s t hs.message ht.message (omega (arith, hs.near, ht.near, differ_le_tolls A.q (m.word s) (m.word t) rs (ls ∙ sym e) (lt ∙ sym e)))

  -- a message in reach is the one found
  pub in_reach_found : (rs s : List ℕ) → length rs ≡ m.n → InReach A m rs s → message_in_reach A m rs ≡ Some s
  in_reach_found rs s e h = go (message_in_reach A m rs) refl
    where
      go : (o : Option (List ℕ)) → message_in_reach A m rs ≡ o → message_in_reach A m rs ≡ Some s
      go None f = absurd (none_in_reach A m rs f s h)
      go (Some t) f = f ∙ ap Some (at_most_one_in_reach rs t s e (found_in_reach A m rs t f) h)

  pub same_word_same_message : (s t : List ℕ) → Symbols A.q m.k s → Symbols A.q m.k t → m.word s ≡ m.word t → s ≡ t
  same_word_same_message s t hs ht e =
      apart_close s t hs ht (omega (arith, keeps.some_distance, ap (λ (xs : List ℕ). differ (m.word s) xs) (sym e) ∙ differ_self (m.word s)))

  -- the word of a message is read as that message
  pub own_word_found : (s : List ℕ) → Symbols A.q m.k s → message_of_word A m (m.word s) ≡ Some s
  own_word_found s h = go (message_of_word A m (m.word s)) refl
    where
      go : (o : Option (List ℕ)) → message_of_word A m (m.word s) ≡ o → message_of_word A m (m.word s) ≡ Some s
      go None f = absurd (none_has_word A m (m.word s) f s h refl)
      go (Some t) f = let r = read_is_word A m (m.word s) t f in f ∙ ap Some (same_word_same_message t s r.0 h r.1)

  -- the word of a message is in that message's reach
  pub own_word_in_reach : (s : List ℕ) → Symbols A.q m.k s → InReach A m (m.word s) s
  own_word_in_reach s h =
      record { message = h; near = omega (arith, keeps.some_distance, toll_self A.q (m.word s) (keeps.words s h).each) }

-- the word in reach: of a message in reach, or none where none is
pub word_in_reach_lem : (A : Arithmetic) (m : Meaning) → Keeps A m → (rs s : List ℕ) → length rs ≡ m.n → InReach A m rs s → word_in_reach A m rs ≡ Some (m.word s)
word_in_reach_lem A m keeps rs s e h = ap (option_map m.word) (in_reach_found A m keeps rs s e h)

pub no_word_in_reach : (A : Arithmetic) (m : Meaning) (rs : List ℕ) → ((s : List ℕ) → InReach A m rs s → ⊥) → word_in_reach A m rs ≡ None
no_word_in_reach A m rs none = go (message_in_reach A m rs) refl
  where
    go : (o : Option (List ℕ)) → message_in_reach A m rs ≡ o → word_in_reach A m rs ≡ None
    go None e = ap (option_map m.word) e
    go (Some s) e = absurd (none s (found_in_reach A m rs s e))

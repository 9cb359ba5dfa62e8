-- The four joins: the meaning that each works out of the meanings of its parts, and its making.
use Rattle.std.specs.Prelude.{ℕ, suc, ◌+◌, ◌-◌, ◌*◌, min, Bool, cond, List, [], ◌∷◌, ◌++◌, take, drop, Some, None, Option, ◌==◌, nat_le, nat_lt}
use Rattle.std.specs.Option.{option_map}
use Rattle.std.specs.List.{insert, remove}
use Rattle.theory.specs.Alphabets.{Arithmetic, plus, minus}
use Rattle.theory.specs.Meanings.{Meaning, Making, made, refused_making}

-- two words, place by place
abbrev pub zipped : (ℕ → ℕ → ℕ) → List ℕ → List ℕ → List ℕ
zipped f [] ys = []
zipped f (x ∷ xs) [] = []
zipped f (x ∷ xs) (y ∷ ys) = f x y ∷ zipped f xs ys

-- the sum of two words
abbrev pub sums : Arithmetic → List ℕ → List ℕ → List ℕ
sums A xs ys = zipped A.add xs ys

-- received bytes less others, place by place: 255 where either is a mark
abbrev pub less : Arithmetic → List ℕ → List ℕ → List ℕ
less A bs others = zipped (λ b a. plus A b (minus A a)) bs others

-- Plotkin's (u, u + v): the message is u's and then v's
abbrev pub plotkin : Arithmetic → Meaning → Meaning → Meaning
plotkin A u v =
    record {
      n = 2 * u.n;
      k = u.k + v.k;
      d = min (2 * u.d) v.d;
      w = 3 * u.n + u.w + v.w;
      word = λ s. let left = u.word (take u.k s) in left ++ sums A left (v.word (drop u.k s));
      carrier = λ i. cond (nat_lt i u.k) (u.carrier i) None;
    }

-- the direct sum: messages and words follow one another
abbrev pub direct_sum : Meaning → Meaning → Meaning
direct_sum u v =
    record {
      n = u.n + v.n;
      k = u.k + v.k;
      d = min u.d v.d;
      w = u.n + v.n + u.w + v.w;
      word = λ s. u.word (take u.k s) ++ v.word (drop u.k s);
      carrier = λ i. cond (nat_lt i u.k) (u.carrier i) (option_map (λ t. u.n + t) (v.carrier (i - u.k)));
    }

-- a carrier once place p of the word is gone
abbrev pub carrier_without : ℕ → Option ℕ → Option ℕ
carrier_without p None = None
carrier_without p (Some t) = cond (nat_lt t p) (Some t) (cond (t == p) None (Some (t - 1)))

-- puncturing at place p: the word loses that place
abbrev pub puncture : ℕ → Meaning → Meaning
puncture p m =
    record {
      n = m.n - 1;
      k = m.k;
      d = m.d - 1;
      w = m.w + m.n;
      word = λ s. remove (m.word s) p;
      carrier = λ i. carrier_without p (m.carrier i);
    }

-- shortening at message place j with carrier t: a 0 is put into the message at j, and the word loses place t
abbrev pub shorten : ℕ → ℕ → Meaning → Meaning
shorten j t m =
    record {
      n = m.n - 1;
      k = m.k - 1;
      d = m.d;
      w = m.w + m.n;
      word = λ s. remove (m.word (insert s j 0)) t;
      carrier = λ i. carrier_without t (m.carrier (cond (nat_lt i j) i (suc i)));
    }

-- a check of a making: refused with this number unless the test passes
abbrev pub unless : Bool → ℕ → Making → Making
unless test number rest = cond test rest (refused_making number)

-- no working length passes this
abbrev pub most_working_length : ℕ
most_working_length = 4096

abbrev pub short : ℕ → Bool
short w = nat_le w most_working_length

unfoldable pub plotkin_making : Arithmetic → Meaning → Meaning → Making
plotkin_making A u v = unless (u.n == v.n) 5 (unless (short (plotkin A u v).w) 6 (made (plotkin A u v)))

unfoldable pub direct_sum_making : Meaning → Meaning → Making
direct_sum_making u v = unless (short (direct_sum u v).w) 6 (made (direct_sum u v))

unfoldable pub puncture_making : ℕ → Meaning → Making
puncture_making p m = unless (nat_lt p m.n) 7 (unless (nat_le 2 m.d) 8 (unless (short (puncture p m).w) 6 (made (puncture p m))))

abbrev pub shorten_making_by : ℕ → Meaning → Option ℕ → Making
shorten_making_by j m None = refused_making 10
shorten_making_by j m (Some t) = unless (short (shorten j t m).w) 6 (made (shorten j t m))

unfoldable pub shorten_making : ℕ → Meaning → Making
shorten_making j m = unless (nat_lt j m.k) 7 (unless (nat_le 2 m.k) 9 (shorten_making_by j m (m.carrier j)))

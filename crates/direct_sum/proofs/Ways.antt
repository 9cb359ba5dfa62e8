-- The calls of the sum at the numbers that it keeps. Assumes nothing.
use Rattle.std.proofs.Common.{◌≡◌, ℕ, ◌+◌, ◌-◌, ◌≤◌, List, [], sym, ap, ◌∙◌, subst, arith}
use Rattle.parts.specs.Numbers.{NumbersOf}
use Rattle.parts.specs.declared.numbers.Numbers.{Numbers}
use Rattle.theory.specs.Alphabets.{Arithmetic, Lawful}
use Rattle.theory.specs.Calls.{accepted, refused}
use Rattle.theory.specs.Joins.{direct_sum}
use Rattle.theory.specs.Meanings.{Meaning, Keeps}
use Rattle.theory.specs.Memory.{cleared, gathered}
use Rattle.theory.proofs.Calls.{paired}
use Rattle.theory.proofs.DirectSum.{direct_sum_keeps}
use Rattle.theory.proofs.SumCalls.{sum_sends, sum_mends_parts, none_by_left, none_by_right, none_by_toll, sum_refuses, sum_mends, tolls_stand}
use Rattle.theory.proofs.SumReads.{sum_reads_parts, no_word_by_left, no_word_by_right, sum_reads_no_word, sum_reads}
use Rattle.direct_sum.proofs.Sizes.{sizes_of, kept, kept_are, Sends, whole_toll, Mends, Reads}

module _ {A : Arithmetic} {u v : Meaning} {nu nv : Numbers} (laws : Lawful A) (keeps-u : Keeps A u) (keeps-v : Keeps A v) (of-u : NumbersOf nu u) (of-v : NumbersOf nv v) where
  same : sizes_of u v ≡ kept nu nv
  same = kept_are nu nv u v of-u of-v

  pub sends : Sends A u v (kept nu nv)
  sends = subst (Sends A u v) same (λ xs room none o o' ys zs r l. sum_sends A laws u v keeps-u keeps-v xs room none o o' ys zs r l)

  module _ (bounded : nu.length + nv.length + nu.working + nv.working ≤ 4096) where
    keeps : Keeps A (direct_sum u v)
    keeps = direct_sum_keeps A laws u v keeps-u keeps-v (omega (arith, of-u.length, of-u.working, of-v.length, of-v.working))

    mends_at : Mends A u v (sizes_of u v)
    mends_at xs room o o' ys zs r l =
        let p = sum_mends_parts A laws u v keeps-u keeps-v xs room o o' ys zs r l in
        let toll_is = ap (whole_toll A u v (sizes_of u v)) p.2 ∙ tolls_stand A laws u v keeps-u keeps-v xs room in
        let cleared-is = ap (λ (m : List ℕ). paired (refused 3 []) (cleared m (u.n + v.n) (u.n + v.n + u.w + v.w - (u.n + v.n)))) p.2 in
        record {
          by_right = λ h. cleared-is ∙ sum_refuses A laws u v keeps-u keeps-v xs room (none_by_right A laws u v keeps-u keeps-v xs room (λ a. h (p.0 ∙ a)));
          by_left = λ h. cleared-is ∙ sum_refuses A laws u v keeps-u keeps-v xs room (none_by_left A laws u v keeps-u keeps-v xs room (λ a. h (p.1 ∙ a)));
          far = λ h. cleared-is ∙ sum_refuses A laws u v keeps-u keeps-v xs room (none_by_toll A laws u v keeps-u keeps-v xs room (omega (arith, h, toll_is)));
          near = λ a b h.
              ap (λ (m : List ℕ). paired accepted (gathered m (u.n + v.n) u.n (u.n + v.n + u.w) v.n (u.n + v.n + u.w + v.w))) p.2
              ∙ sum_mends A laws u v keeps-u keeps-v xs room keeps (sym p.1 ∙ b) (sym p.0 ∙ a) (omega (arith, h, toll_is));
        }

    pub mends : Mends A u v (kept nu nv)
    mends = subst (Mends A u v) same mends_at

    reads_at : Reads A u v (sizes_of u v)
    reads_at xs room o o' ys zs r l =
        let p = sum_reads_parts A u v keeps-u keeps-v xs room o o' ys zs r l in
        let cleared-is = ap (λ (m : List ℕ). paired (refused 4 []) (cleared m (u.n + v.n) (u.n + v.n + u.w + v.w - (u.n + v.n)))) p.2 in
        record {
          by_right = λ h. cleared-is ∙ sum_reads_no_word A u v keeps-u keeps-v xs room (no_word_by_right A u v keeps-u keeps-v xs room (λ a. h (p.0 ∙ a)));
          by_left = λ h. cleared-is ∙ sum_reads_no_word A u v keeps-u keeps-v xs room (no_word_by_left A u v keeps-u keeps-v xs room (λ a. h (p.1 ∙ a)));
          both = λ a b.
              ap (λ (m : List ℕ). paired accepted (gathered m (u.n + v.n) u.k (u.n + v.n + u.w) v.k (u.n + v.n + u.w + v.w))) p.2
              ∙ sum_reads A u v keeps-u keeps-v xs room keeps (sym p.1 ∙ b) (sym p.0 ∙ a);
        }

    pub reads : Reads A u v (kept nu nv)
    reads = subst (Reads A u v) same reads_at

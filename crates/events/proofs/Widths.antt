-- On sets of n events an operation with room for k events, k at least n, gives what it gives with room for n.
-- Assumes nothing.
use Rattle.std.proofs.Common.{◌≡◌, sym, ap, ◌∙◌, Bool, false, not, ◌&&◌, ◌||◌, ℕ, zero, suc, ◌+◌, ◌*◌, ◌^◌, ◌<◌}
use Rattle.std.proofs.Common.{◌≤◌, inl, inr, zero-le, arith, not-suc-le-zero, le_of_suc-le-suc, eqb, pow_mono}
use Rattle.std.proofs.lemmas.Bool.{cases_eq}
use Rattle.events.specs.Sets.{has, digit, set_of, any_below, union, intersection, difference}
use Rattle.events.specs.Sets.{disjoint, included, count}
use Rattle.events.proofs.Members.{set_of_empty}
use Rattle.events.proofs.Machine.{has_beyond, count_is}

pub set_of_widen : (n k : ℕ) (p : ℕ → Bool) → n ≤ k → ((e : ℕ) → n ≤ e → e < k → p e ≡ false) → set_of k p ≡ set_of n p
unfolding set_of
set_of_widen zero k p h q = set_of_empty k p (λ e l t. rw (q e zero-le l) at t)
set_of_widen (suc n) zero p h q = absurd (not-suc-le-zero h)
set_of_widen (suc n) (suc k) p h q =
    ap (λ (x : ℕ). digit (p zero) + 2 * x)
    (set_of_widen n k (λ e. p (suc e)) (le_of_suc-le-suc h) (λ e i j. q (suc e) (omega arith) (omega arith)))

pub any_widen : (n k : ℕ) (p : ℕ → Bool) → n ≤ k → ((e : ℕ) → n ≤ e → e < k → p e ≡ false)
    → any_below k p ≡ any_below n p
unfolding any_below
any_widen n zero p h q = let z : n ≡ 0 = omega arith in rw z
any_widen n (suc k) p h q =
    elim (cases_eq n (suc k)) [
      | inl z ↦ rw z
      | inr z ↦ rw (q k (omega arith) (omega arith)) (any_widen n k p (omega arith) (λ e i j. q e i (omega arith)))
    ]

module _ (n k s t : ℕ) (h : n ≤ k) (hs : s < 2 ^ n) where
  pub union_widen : t < 2 ^ n → union k s t ≡ union n s t
  union_widen ht =
      set_of_widen n k (λ e. has s e || has t e) h (λ e i j. rw (has_beyond n s e hs i, has_beyond n t e ht i))

  pub intersection_widen : intersection k s t ≡ intersection n s t
  intersection_widen = set_of_widen n k (λ e. has s e && has t e) h (λ e i j. rw (has_beyond n s e hs i))

  pub difference_widen : difference k s t ≡ difference n s t
  difference_widen = set_of_widen n k (λ e. has s e && not (has t e)) h (λ e i j. rw (has_beyond n s e hs i))

  pub disjoint_widen : disjoint k s t ≡ disjoint n s t
  disjoint_widen = ap (λ (x : ℕ). eqb x 0) intersection_widen

  pub included_widen : included k s t ≡ included n s t
  included_widen = ap (λ (x : ℕ). eqb x 0) difference_widen

pub count_widen : (n k s : ℕ) → n ≤ k → s < 2 ^ n → count k s ≡ count n s
count_widen n k s h hs = count_is k s (omega (arith, pow_mono h)) ∙ sym (count_is n s hs)

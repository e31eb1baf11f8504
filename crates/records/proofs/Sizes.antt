-- The sizes of records, kind by kind.
-- Assumes nothing.
use Rattle.std.proofs.Common.{◌≡◌, refl, ap, [], ◌∷◌, Bool, true, false, ℕ, zero, suc, ◌≤◌, ◌<◌, arith, ltb}
use Rattle.std.proofs.Common.{ltb-true, ltb-false}
use lib.ListN.{get_or-eq_default}
use Rattle.records.specs.Kinds.{body_length, size_of}

-- a fact of each kind is a fact of every kind from 1 to 8
pub each_kind : (P : ℕ → Type 0) → P 1 → P 2 → P 3 → P 4 → P 5 → P 6 → P 7 → P 8 → (k : ℕ) → 1 ≤ k → k ≤ 8 → P k
each_kind P a b c d e f g h zero l m = absurd (omega arith)
each_kind P a b c d e f g h (suc zero) l m = a
each_kind P a b c d e f g h (suc (suc zero)) l m = b
each_kind P a b c d e f g h (suc (suc (suc zero))) l m = c
each_kind P a b c d e f g h (suc (suc (suc (suc zero)))) l m = d
each_kind P a b c d e f g h (suc (suc (suc (suc (suc zero))))) l m = e
each_kind P a b c d e f g h (suc (suc (suc (suc (suc (suc zero)))))) l m = f
each_kind P a b c d e f g h (suc (suc (suc (suc (suc (suc (suc zero))))))) l m = g
each_kind P a b c d e f g h (suc (suc (suc (suc (suc (suc (suc (suc zero)))))))) l m = h
each_kind P a b c d e f g h (suc (suc (suc (suc (suc (suc (suc (suc (suc k))))))))) l m = absurd (omega arith)

pub size_beyond : (k : ℕ) → 9 ≤ k → size_of k ≡ 1
unfolding size_of body_length
size_beyond k h = ap suc (get_or-eq_default (0 ∷ 1 ∷ 1 ∷ 3 ∷ 1 ∷ 4 ∷ 3 ∷ 17 ∷ 2 ∷ []) 0 h)

-- a number that is no kind's
pub size_other : (k : ℕ) → (1 ≤ k → 8 < k) → size_of k ≡ 1
unfolding size_of body_length
size_other zero q = refl
size_other (suc k) q = size_beyond (suc k) (q (omega arith))

pub size_positive : (k : ℕ) → 1 ≤ size_of k
unfolding size_of
size_positive k = omega arith

pub size_range : (k : ℕ) → 1 ≤ k → k ≤ 8 → (2 ≤ size_of k) × (size_of k ≤ 18)
unfolding size_of body_length
size_range =
    each_kind (λ k. (2 ≤ size_of k) × (size_of k ≤ 18))
    (omega arith, omega arith) (omega arith, omega arith) (omega arith, omega arith) (omega arith, omega arith)
    (omega arith, omega arith) (omega arith, omega arith) (omega arith, omega arith) (omega arith, omega arith)

pub size_most : (k : ℕ) → size_of k ≤ 18
unfolding size_of body_length
size_most zero = omega arith
size_most (suc k) = small (ltb 8 (suc k)) refl
  where
    small : (x : Bool) → ltb 8 (suc k) ≡ x → size_of (suc k) ≤ 18
    small true q = omega (arith, size_beyond (suc k) (ltb-true 8 (suc k) q))
    small false q = (size_range (suc k) (omega arith) (ltb-false 8 (suc k) q)).1

-- The operations on sets are the machine's: or, and, not, shift, subtraction of one, and the count of ones.
-- Every law is over n, or over a width k of at least n. Assumes nothing.
use Rattle.std.proofs.Common.{◌≡◌, refl, sym, ap, ◌∙◌, Bool, true, false, not, ◌&&◌, ◌||◌, inl, inr, ℕ, zero, suc}
use Rattle.std.proofs.Common.{◌+◌, ◌-◌, ◌*◌, ◌/◌, ◌%◌, ◌^◌, ◌<◌, ◌≤◌, min, max, arith, not-suc-le-zero}
use Rattle.std.proofs.Common.{le_of_suc-le-suc, ne_eqb, eqb, lit<, bit_and, bit_or, pow_pos, shl_exact}
use Rattle.std.specs.Int.{bit_at}
use Rattle.std.proofs.lemmas.Bool.{cases_eq}
use Rattle.std.proofs.lemmas.Nat.Bits.{bit_at_lowest, bit_at-suc, bit_at-lt, bit_at_or, bit_at_and, bit_at_above}
use Rattle.std.proofs.lemmas.Nat.Bits.{bit_at_ones, bit_at-pow_same, bit_at-pow_other}
use lib.Bits.{or_lt, and_le_l}
use lib.Count.{ones, ones_step, ones-le}
use lib.Pow.{pow-lt, ones_lt}
use Rattle.events.specs.Sets.{room, has, set_of, empty, full, single, union, intersection, difference, complement}
use Rattle.events.specs.Sets.{count}
use Rattle.events.proofs.Members.{has_ext, set_of_has, set_of_below}

-- membership is a bit
pub has_is : (s e : ℕ) → has s e ≡ eqb (bit_at s e) 1
unfolding has
has_is s zero = rw (bit_at_lowest s) refl
has_is s (suc e) = rw (bit_at-suc s e) (has_is (s / 2) e)

-- membership in what the machine computes

either : (x y : ℕ) → x < 2 → y < 2 → eqb (max x y) 1 ≡ (eqb x 1 || eqb y 1)
either x y p q = grind arith

both : (x y : ℕ) → x < 2 → y < 2 → eqb (min x y) 1 ≡ (eqb x 1 && eqb y 1)
both x y p q = grind arith

pub has_or : (s t e : ℕ) → has (bit_or s t) e ≡ (has s e || has t e)
has_or s t e =
    rw (has_is (bit_or s t) e, has_is s e, has_is t e, bit_at_or s t e) (either _ _ (bit_at-lt s e) (bit_at-lt t e))

pub has_and : (s t e : ℕ) → has (bit_and s t) e ≡ (has s e && has t e)
has_and s t e =
    rw (has_is (bit_and s t) e, has_is s e, has_is t e, bit_at_and s t e) (both _ _ (bit_at-lt s e) (bit_at-lt t e))

-- not, within a width of k
pub has_not : (k s e : ℕ) → s < 2 ^ k → e < k → has ((2 ^ k - 1) - s) e ≡ not (has s e)
unfolding has
has_not zero s e h l = absurd (not-suc-le-zero l)
has_not (suc k) s zero h l =
    let q : ((2 ^ suc k - 1) - s) % 2 ≡ 1 - s % 2 = omega arith in
    grind arith
has_not (suc k) s (suc e) h l =
    let q : ((2 ^ suc k - 1) - s) / 2 ≡ (2 ^ k - 1) - s / 2 = omega arith in
    rw q (has_not k (s / 2) e (omega arith) (le_of_suc-le-suc l))

-- a set below 2 ^ n has no event from n on
pub has_beyond : (n s e : ℕ) → s < 2 ^ n → n ≤ e → has s e ≡ false
has_beyond n s e h l = rw (has_is s e, bit_at_above s n e h l) refl

pub has_empty : (e : ℕ) → has empty e ≡ false
has_empty e = has_beyond 0 0 e (lit< tt) (omega arith)

pub has_power : (d e : ℕ) → has (2 ^ d) e ≡ eqb e d
has_power d e =
    elim (cases_eq e d) [
      | inl q ↦ rw (has_is (2 ^ d) e, q, bit_at-pow_same d) (grind arith)
      | inr q ↦ rw (has_is (2 ^ d) e, bit_at-pow_other d e q) (grind arith)
    ]

-- each operation as the machine computes it

pub one_shifted : (e : ℕ) → e < 32 → 1 * 2 ^ e % 4294967296 ≡ 2 ^ e
one_shifted e h = omega (arith, shl_exact {a = 1} 1 e 32 (lit< tt) (omega arith))

-- a number below 2 ^ n with just the members that a comprehension asks for is the comprehension
set_of_is : (n : ℕ) (p : ℕ → Bool) (s : ℕ) → s < 2 ^ n → ((e : ℕ) → e < n → has s e ≡ p e) → set_of n p ≡ s
set_of_is n p s h m = has_ext n (set_of n p) s (set_of_below n p) h (λ e l. set_of_has n p e l ∙ sym (m e l))

pub full_is : (n : ℕ) → full n ≡ 2 ^ n - 1
full_is n =
    set_of_is n (λ e. true) (2 ^ n - 1) (ones_lt n) (λ e l. rw (has_is (2 ^ n - 1) e, bit_at_ones n e l) refl)

pub single_is : (n d : ℕ) → d < n → single n d ≡ 2 ^ d
single_is n d h = set_of_is n (λ e. eqb e d) (2 ^ d) (pow-lt h) (λ e l. has_power d e)

pub single_shifted : (d : ℕ) → d < room → 1 * 2 ^ d % 4294967296 ≡ single room d
single_shifted d h = one_shifted d h ∙ sym (single_is room d h)

pub single_beyond : (n d : ℕ) → n ≤ d → single n d ≡ empty
single_beyond n d h =
    set_of_is n (λ e. eqb e d) 0 (pow_pos n) (λ e l. has_empty e ∙ sym (ne_eqb e d (λ q. omega arith)))

pub union_is : (n s t : ℕ) → s < 2 ^ n → t < 2 ^ n → union n s t ≡ bit_or s t
union_is n s t hs ht =
    set_of_is n (λ e. has s e || has t e) (bit_or s t) (or_lt n s t hs ht) (λ e l. has_or s t e)

pub intersection_is : (n s t : ℕ) → s < 2 ^ n → intersection n s t ≡ bit_and s t
intersection_is n s t hs =
    set_of_is n (λ e. has s e && has t e) (bit_and s t) (omega (arith, and_le_l s t)) (λ e l. has_and s t e)

-- the machine negates within its own width k
pub difference_is : (n k s t : ℕ) → n ≤ k → s < 2 ^ n → t < 2 ^ k → difference n s t ≡ bit_and s ((2 ^ k - 1) - t)
difference_is n k s t h hs ht =
    let r = (2 ^ k - 1) - t in
    set_of_is n (λ e. has s e && not (has t e)) (bit_and s r) (omega (arith, and_le_l s r))
    (λ e l. has_and s r e ∙ ap (λ (b : Bool). has s e && b) (has_not k t e ht (omega arith)))

pub complement_is : (n s : ℕ) → s < 2 ^ n → complement n s ≡ (2 ^ n - 1) - s
complement_is n s h =
    set_of_is n (λ e. has (full n) e && not (has s e)) ((2 ^ n - 1) - s) (omega (arith, pow_pos n))
    (λ e l. has_not n s e h l ∙ ap (λ (b : Bool). b && not (has s e)) (sym (set_of_has n (λ e. true) e l)))

-- the count from the lowest event up, as the machine's count of ones goes
pub count_low : (n s : ℕ) → count (suc n) s ≡ s % 2 + count n (s / 2)
unfolding has count
count_low zero s = grind arith
count_low (suc n) s = grind (arith, count_low n s)

pub count_is : (n s : ℕ) → s < 2 ^ n → count n s ≡ ones s
unfolding count
count_is zero s h = grind (arith, ones-le)
count_is (suc n) s h = rw (count_low n s, count_is n (s / 2) (omega arith)) (sym (ones_step s))

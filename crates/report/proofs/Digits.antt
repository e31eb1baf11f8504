-- The decimal digits of any number, also one that no machine holds: one by one from the last, how many there are, and at
-- most how many.
-- Assumes nothing.
use Rattle.std.proofs.Common.{◌≡◌, refl, sym, ap, ◌∙◌, Bool, true, false, cond, List, [], ◌∷◌, ◌++◌, ◌⊎◌, inl}
use Rattle.std.proofs.Common.{inr, ℕ, zero, suc, ◌+◌, ◌*◌, ◌/◌, ◌%◌, ◌≤◌, ◌<◌, arith, ltb, length, length-append}
use Rattle.std.proofs.Common.{lt-ltb, le-ltb, ltb-true, ltb-false}
use Rattle.report.specs.Text.{decimal_digit, decimal_in, decimal}

-- a number has one digit, or a last one behind others
small_or_not : (n : ℕ) → (n < 10) ⊎ (10 ≤ n)
small_or_not n = at (ltb n 10) refl
  where
    at : (b : Bool) → ltb n 10 ≡ b → (n < 10) ⊎ (10 ≤ n)
    at true q = inl (ltb-true n 10 q)
    at false q = inr (ltb-false n 10 q)

-- fuel that suffices is fuel enough
same_decimal : (f g n : ℕ) → n ≤ f → n ≤ g → decimal_in f n ≡ decimal_in g n
unfolding decimal_in
same_decimal zero zero n h k = refl
same_decimal zero (suc g) n h k = rw (lt-ltb n 10 (omega arith))
same_decimal (suc f) zero n h k = rw (lt-ltb n 10 (omega arith))
same_decimal (suc f) (suc g) n h k =
    ap (λ (ds : List ℕ). cond (ltb n 10) (decimal_digit n ∷ []) (ds ++ (decimal_digit (n % 10) ∷ [])))
    (same_decimal f g (n / 10) (omega arith) (omega arith))

pub decimal_small : (n : ℕ) → n < 10 → decimal n ≡ decimal_digit n ∷ []
unfolding decimal decimal_in
decimal_small zero h = refl
decimal_small (suc n) h = rw (lt-ltb (suc n) 10 h)

pub decimal_large : (n : ℕ) → 10 ≤ n → decimal n ≡ decimal (n / 10) ++ (decimal_digit (n % 10) ∷ [])
unfolding decimal decimal_in
decimal_large zero h = absurd (omega arith)
decimal_large (suc n) h =
    rw (le-ltb (suc n) 10 h)
    (ap (λ (ds : List ℕ). ds ++ (decimal_digit (suc n % 10) ∷ []))
    (same_decimal n (suc n / 10) (suc n / 10) (omega arith) (omega arith)))

-- how many digits there are
pub count_small : (n : ℕ) → n < 10 → length (decimal n) ≡ 1
count_small n h = ap length (decimal_small n h)

pub count_large : (n : ℕ) → 10 ≤ n → length (decimal n) ≡ length (decimal (n / 10)) + 1
count_large n h =
    ap length (decimal_large n h) ∙ length-append (decimal (n / 10)) (decimal_digit (n % 10) ∷ [])

-- 10 to the power k
pub ten_to : ℕ → ℕ
ten_to zero = 1
ten_to (suc k) = 10 * ten_to k

pub decimal_short : (k n : ℕ) → n < ten_to (suc k) → length (decimal n) ≤ suc k
unfolding ten_to
decimal_short zero n h = omega (arith, count_small n (omega arith))
decimal_short (suc k) n h = at (small_or_not n) (decimal_short k (n / 10) (omega arith))
  where
    at : (n < 10) ⊎ (10 ≤ n) → length (decimal (n / 10)) ≤ suc k → length (decimal n) ≤ suc (suc k)
    at (inl l) ih = omega (arith, count_small n l)
    at (inr l) ih = omega (arith, count_large n l)

-- a 32-bit number has at most 10 digits, a 64-bit number at most 20
pub short_32 : (n : ℕ) → n < 4294967296 → length (decimal n) ≤ 10
unfolding ten_to
short_32 n h = decimal_short 9 n (omega arith)

pub short_64 : (n : ℕ) → n < 18446744073709551616 → length (decimal n) ≤ 20
unfolding ten_to
short_64 n h = decimal_short 19 n (omega arith)

pub some_digit : (n : ℕ) → 1 ≤ length (decimal n)
some_digit n = at (small_or_not n)
  where
    at : (n < 10) ⊎ (10 ≤ n) → 1 ≤ length (decimal n)
    at (inl l) = omega (arith, count_small n l)
    at (inr l) = omega (arith, count_large n l)

-- the last k digits of n
unfoldable pub last_digits : ℕ → ℕ → List ℕ
last_digits zero n = []
last_digits (suc k) n = last_digits k (n / 10) ++ (decimal_digit (n % 10) ∷ [])

last_within : (f n : ℕ) → n ≤ f → last_digits (length (decimal n)) n ≡ decimal n
unfolding last_digits
last_within zero n h = let q : n % 10 ≡ n = omega arith in rw (
  count_small n (omega arith),
  decimal_small n
      (omega arith),
  q,
)
last_within (suc f) n h = at (small_or_not n) (last_within f (n / 10))
  where
    at : (n < 10) ⊎ (10 ≤ n) → (n / 10 ≤ f → last_digits (length (decimal (n / 10))) (n / 10) ≡ decimal (n / 10))
        → last_digits (length (decimal n)) n ≡ decimal n
    at (inl l) ih = let q : n % 10 ≡ n = omega arith in rw (count_small n l, decimal_small n l, q)
    at (inr l) ih =
        let q : length (decimal n) ≡ suc (length (decimal (n / 10))) = omega (arith, count_large n l) in
        rw q (ap (λ (ds : List ℕ). ds ++ (decimal_digit (n % 10) ∷ [])) (ih (omega arith)) ∙ sym (decimal_large n l))

-- all of its digits are as many last ones
pub last_are : (n : ℕ) → last_digits (length (decimal n)) n ≡ decimal n
last_are n = last_within n n (omega arith)

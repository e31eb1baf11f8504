-- A set is known by its members, and a comprehension `set_of n p` has just the events below n that pass p.
-- Every law is over n. Assumes nothing.
use Rattle.std.proofs.Common.{◌≡◌, refl, sym, ap₂, Bool, true, false, not, ◌||◌, ◌&&◌, ◌≢◌, inl, inr}
use Rattle.std.proofs.Common.{ℕ, zero, suc, ◌+◌, ◌*◌, ◌/◌, ◌%◌, ◌^◌, ◌<◌, arith, rules, not-suc-le-zero}
use Rattle.std.proofs.Common.{le_of_suc-le-suc, T, eqb, ltb, eq-eqb, ne_eqb, lt-ltb, le-ltb}
use Rattle.std.proofs.lemmas.Bool.{cases_lt, cases_eq}
use mir.Facts.{or_yes}
use Rattle.events.specs.Sets.{has, digit, set_of, any_below, is_empty}
use Rattle.events.proofs.Booleans.{or_left, or_right, same_test}

digit_odd : (b : Bool) (r : ℕ) → (digit b + 2 * r) % 2 ≡ digit b
digit_odd true r = omega arith
digit_odd false r = omega arith

digit_half : (b : Bool) (r : ℕ) → (digit b + 2 * r) / 2 ≡ r
digit_half true r = omega arith
digit_half false r = omega arith

digit_test : (b : Bool) → eqb (digit b) 1 ≡ b
digit_test = search rules

digit_lt : (b : Bool) → digit b < 2
digit_lt = search rules

pub set_of_has : (n : ℕ) (p : ℕ → Bool) (e : ℕ) → e < n → has (set_of n p) e ≡ p e
unfolding has set_of
set_of_has zero p e h = absurd (not-suc-le-zero h)
set_of_has (suc n) p zero h = rw (digit_odd (p zero) (set_of n (λ e. p (suc e)))) (digit_test (p zero))
set_of_has (suc n) p (suc e) h =
    rw (digit_half (p zero) (set_of n (λ e. p (suc e)))) (set_of_has n (λ e. p (suc e)) e (le_of_suc-le-suc h))

-- a comprehension over n events is below 2 ^ n
pub set_of_below : (n : ℕ) (p : ℕ → Bool) → set_of n p < 2 ^ n
unfolding set_of
set_of_below zero p = omega arith
set_of_below (suc n) p = omega (arith, set_of_below n (λ e. p (suc e)), digit_lt (p zero))

-- a comprehension depends on its test below n only
pub set_of_ext : (n : ℕ) (p q : ℕ → Bool) → ((e : ℕ) → e < n → p e ≡ q e) → set_of n p ≡ set_of n q
unfolding set_of
set_of_ext zero p q h = refl
set_of_ext (suc n) p q h =
    ap₂ (λ (b : Bool) (r : ℕ). digit b + 2 * r) (h zero (omega arith))
    (set_of_ext n (λ e. p (suc e)) (λ e. q (suc e)) (λ e l. h (suc e) (omega arith)))

-- a set with a member is not empty, and one that is not empty has a member
pub member_nonzero : (s e : ℕ) → T (has s e) → s ≢ 0
unfolding has
member_nonzero s zero h q = rw q at h
member_nonzero s (suc e) h q = member_nonzero _ e (rw q at h) refl

-- the members of a set below 2 ^ n are below n
pub member_below : (n s e : ℕ) → s < 2 ^ n → T (has s e) → e < n
unfolding has
member_below zero s e l h = absurd (member_nonzero s e h (omega arith))
member_below (suc n) s zero l h = omega arith
member_below (suc n) s (suc e) l h = omega (arith, member_below n (s / 2) e (omega arith) h)

member_found : (n s : ℕ) → s < 2 ^ n → s ≢ 0 → (e : ℕ) × T (has s e)
unfolding has
member_found zero s l z = absurd (z (omega arith))
member_found (suc n) s l z =
    elim (cases_eq (s % 2) 1) [
      | inl q ↦ (zero, rw q tt)
      | inr q ↦ let r = member_found n (s / 2) (omega arith) (λ h. z (omega arith)) in (suc r.0, r.1)
    ]

below_pow : (k : ℕ) → k < 2 ^ k
below_pow zero = omega arith
below_pow (suc k) = omega (arith, below_pow k)

pub nonzero_member : (s : ℕ) → s ≢ 0 → (e : ℕ) × T (has s e)
nonzero_member s z = member_found s s (below_pow s) z

-- a set all of whose members are below n is below 2 ^ n
pub below_of_members : (n s : ℕ) → ((e : ℕ) → T (has s e) → e < n) → s < 2 ^ n
unfolding has
below_of_members zero s h =
    elim (cases_eq s 0) [
      | inl q ↦ omega arith
      | inr q ↦ let r = nonzero_member s q in absurd (omega (arith, h r.0 r.1))
    ]
below_of_members (suc n) s h = omega (arith, below_of_members n (s / 2) (λ e t. omega (arith, h (suc e) t)))

-- the members of a comprehension: the events below n that pass its test
pub set_of_members : (n : ℕ) (p : ℕ → Bool) (e : ℕ) → has (set_of n p) e ≡ (ltb e n && p e)
set_of_members n p e =
    elim (cases_lt e n) [
      | inl l ↦ rw (lt-ltb e n l) (set_of_has n p e l)
      | inr l ↦
          rw (le-ltb e n l)
          (same_test _ _ (λ t. omega (arith, member_below n _ e (set_of_below n p) t)) (λ t. absurd t))
    ]

pub set_of_out : (n : ℕ) (p : ℕ → Bool) (e : ℕ) → T (has (set_of n p) e) → T (p e)
set_of_out n p e h = rw (set_of_has n p e (member_below n (set_of n p) e (set_of_below n p) h)) at h

pub set_of_in : (n : ℕ) (p : ℕ → Bool) (e : ℕ) → e < n → T (p e) → T (has (set_of n p) e)
set_of_in n p e l h = rw (set_of_has n p e l) h

-- a comprehension is empty if nothing passes its test
pub set_of_empty : (n : ℕ) (p : ℕ → Bool) → ((e : ℕ) → e < n → T (p e) → ⊥) → set_of n p ≡ 0
set_of_empty n p h =
    elim (cases_eq (set_of n p) 0) [
      | inl q ↦ q
      | inr q ↦ let r = nonzero_member (set_of n p) q in
          absurd (h r.0 (member_below n (set_of n p) r.0 (set_of_below n p) r.1) (set_of_out n p r.0 r.1))
    ]

-- the test whether some event below n passes
pub any_in : (n : ℕ) (p : ℕ → Bool) (e : ℕ) → e < n → T (p e) → T (any_below n p)
unfolding any_below
any_in zero p e l h = absurd (not-suc-le-zero l)
any_in (suc n) p e l h =
    elim (cases_eq e n) [
      | inl q ↦ or_left (p n) (any_below n p) (rw q at h)
      | inr q ↦ or_right (p n) (any_below n p) (any_in n p e (omega arith) h)
    ]

pub any_out : (n : ℕ) (p : ℕ → Bool) → T (any_below n p) → (e : ℕ) × (e < n) × T (p e)
unfolding any_below
any_out zero p t = absurd t
any_out (suc n) p t =
    elim (or_yes (p n) (any_below n p) t) [
      | inl h ↦ (n, omega arith, h)
      | inr h ↦ let r = any_out n p h in (r.0, omega arith, r.2)
    ]

pub any_none : (n : ℕ) (p : ℕ → Bool) → ((e : ℕ) → e < n → p e ≡ false) → any_below n p ≡ false
unfolding any_below
any_none zero p h = refl
any_none (suc n) p h = rw (h n (omega arith)) (any_none n p (λ e l. h e (omega arith)))

pub any_ext : (n : ℕ) (p q : ℕ → Bool) → ((e : ℕ) → e < n → p e ≡ q e) → any_below n p ≡ any_below n q
unfolding any_below
any_ext zero p q h = refl
any_ext (suc n) p q h = ap₂ ◌||◌ (h n (omega arith)) (any_ext n p q (λ e l. h e (omega arith)))

-- a comprehension is empty exactly if nothing below n passes its test
pub empty_is : (n : ℕ) (p : ℕ → Bool) → is_empty (set_of n p) ≡ not (any_below n p)
empty_is n p = step (any_below n p) refl
  where
    step : (b : Bool) → any_below n p ≡ b → is_empty (set_of n p) ≡ not b
    step true q =
        let r = any_out n p (rw q tt) in
        ne_eqb (set_of n p) 0 (member_nonzero (set_of n p) r.0 (set_of_in n p r.0 r.1 r.2))
    step false q = eq-eqb (set_of n p) 0 (set_of_empty n p (λ e l t. rw q at (any_in n p e l t)))

-- two digits that test alike are equal
same_digit : (x y : ℕ) → x < 2 → y < 2 → eqb x 1 ≡ eqb y 1 → x ≡ y
same_digit x y hx hy q = grind arith

-- extensionality: a set below 2 ^ n is known by its members
pub has_ext : (n s t : ℕ) → s < 2 ^ n → t < 2 ^ n → ((e : ℕ) → e < n → has s e ≡ has t e) → s ≡ t
unfolding has
has_ext zero s t hs ht h = omega arith
has_ext (suc n) s t hs ht h =
    let q = has_ext n (s / 2) (t / 2) (omega arith) (omega arith) (λ e l. h (suc e) (omega arith)) in
    let p = same_digit (s % 2) (t % 2) (omega arith) (omega arith) (h zero (omega arith)) in
    omega arith

pub members_ext : (n s t : ℕ) → s < 2 ^ n → t < 2 ^ n
    → ((e : ℕ) → e < n → T (has s e) → T (has t e)) → ((e : ℕ) → e < n → T (has t e) → T (has s e)) → s ≡ t
members_ext n s t hs ht f g = has_ext n s t hs ht (λ e l. same_test (has s e) (has t e) (f e l) (g e l))

-- a set below 2 ^ n is the comprehension of its own members
pub set_of_self : (n s : ℕ) → s < 2 ^ n → s ≡ set_of n (has s)
set_of_self n s h = has_ext n s (set_of n (has s)) h (set_of_below n (has s)) (λ e l. sym (set_of_has n (has s) e l))

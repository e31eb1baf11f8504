-- The tests on sets, targets and used operands, as facts on the model's nodes.
-- Assumes nothing.
use Rattle.std.proofs.lemmas.Bool.Decides.{nat_tests}
use Rattle.std.proofs.lemmas.List.{get_or_default}
use Rattle.std.proofs.Common.{◌≡◌, refl, ap, true, false, not, ◌≢◌, List, [], ◌∷◌, ℕ}
use Rattle.std.proofs.Common.{zero, suc, ◌+◌, ◌^◌, ◌≤◌, ◌<◌, min, arith, T, eqb, length, get_or}
use borrow.Author.Tests.{not-false}
use Rattle.events.specs.Sets.{room, has, digit, full, included}
use Rattle.events.proofs.Members.{member_below, below_of_members, set_of_below}
use Rattle.events.proofs.Operations.{full_in}
use Rattle.events.proofs.Tests.{included_iff}
use Rattle.events.proofs.Booleans.{yes_true}
use Rattle.network.specs.Network.{TargetsBelow}
use Rattle.progress.specs.Progress.{with}
use Rattle.ranges.specs.Ranges.{wrong_set, wrong_target, wrong_targets}
use Rattle.records.proofs.Choices.{true_yes}
use Rattle.reader.specs.Encoding.{TargetsFilled}
use Rattle.reader.proofs.StepEvents.{with_has}

-- a set of the machine without a bit at n or above is below 2 ^ n
pub set_out : (n A : ℕ) → A < 2 ^ room → wrong_set n A ≡ false → A < 2 ^ n
set_out n A h q = below_of_members n A inside
  where
    inside : (e : ℕ) → T (has A e) → e < n
    inside e t =
        let i = (included_iff room A (full (min n room))).0
        (true_yes (included room A (full (min n room))) (not-false (included room A (full (min n room))) q)) e
        (member_below room A e h t) t in
        omega (arith, member_below (min n room) (full (min n room)) e (set_of_below (min n room) (λ e. true)) i)

pub set_in : (n A : ℕ) → n ≤ room → A < 2 ^ n → wrong_set n A ≡ false
set_in n A h q =
    ap not (yes_true (included room A (full (min n room))) ((included_iff room A (full (min n room))).1 inside))
  where
    inside : (e : ℕ) → e < room → T (has A e) → T (has (full (min n room)) e)
    inside e l t = full_in (min n room) e (omega (arith, member_below n A e q t))

-- all numbers below k are in the set, and the test that says so
pub covers_out : (k u : ℕ) → k ≤ room → not (included room (full (min k room)) u) ≡ false → (e : ℕ) → e < k
    → T (has u e)
covers_out k u h q e l =
    (included_iff room (full (min k room)) u).0
    (true_yes (included room (full (min k room)) u) (not-false (included room (full (min k room)) u) q)) e (omega arith)
    (full_in (min k room) e (omega arith))

pub covers_in : (k u : ℕ) → ((e : ℕ) → e < k → T (has u e)) → not (included room (full (min k room)) u) ≡ false
covers_in k u f =
    ap not (yes_true (included room (full (min k room)) u) ((included_iff room (full (min k room)) u).1 inside))
  where
    inside : (e : ℕ) → e < room → T (has (full (min k room)) e) → T (has u e)
    inside e l t =
        f e (omega (arith, member_below (min k room) (full (min k room)) e (set_of_below (min k room) (λ e. true)) t))

-- each of the targets i, i + 1, .. is right
targets_each : (n i : ℕ) (ts : List ℕ) → wrong_targets n i ts ≡ false → (j : ℕ) → j < length ts
    → wrong_target n (i + j) (get_or ts j 0) ≡ false
unfolding wrong_targets
targets_each n i [] q j l = absurd (omega arith)
targets_each n i (t ∷ ts) q zero l = grind (arith, nat_tests)
targets_each n i (t ∷ ts) q (suc j) l =
    grind (arith, nat_tests, targets_each n (suc i) ts (grind (arith, nat_tests)) j (omega arith))

targets_all : (n i : ℕ) (ts : List ℕ) → ((j : ℕ) → j < length ts → wrong_target n (i + j) (get_or ts j 0) ≡ false)
    → wrong_targets n i ts ≡ false
unfolding wrong_targets
targets_all n i [] f = refl
targets_all n i (t ∷ ts) f =
    let z : i + 0 ≡ i = omega arith in
    let a : wrong_target n i t ≡ false = rw z at (f 0 (omega arith)) in
    rw a (targets_all n (suc i) ts (λ j l. let y : suc i + j ≡ i + suc j =
    omega arith in rw y (f (suc j) (omega arith))))

-- a target below n is below n, one of n or above is itself
right_below : (n e t : ℕ) → e < n → wrong_target n e t ≡ false → t < n
right_below n e t h q = grind (arith, nat_tests)

right_above : (n e t : ℕ) → n ≤ e → wrong_target n e t ≡ false → t ≡ e
right_above n e t h q = grind (arith, nat_tests)

right_in : (n e t : ℕ) → (e < n → t < n) → (n ≤ e → t ≡ e) → wrong_target n e t ≡ false
right_in n e t h q = grind (arith, nat_tests)

module _ (n : ℕ) (f : List ℕ) (hn : n ≤ 16) where
  pub targets_out : length f ≡ 16 → wrong_targets n 0 f ≡ false → TargetsBelow n f × TargetsFilled n f
  unfolding TargetsBelow TargetsFilled
  targets_out h q = (
    λ e l. rw (get_or_default f e e 0 (omega arith)) (right_below n e _ l (each e (omega arith))),
    (h, λ i l m. right_above n i _ l (each i m)),
  )
    where
      each : (j : ℕ) → j < 16 → wrong_target n j (get_or f j 0) ≡ false
      each j l = let z : 0 + j ≡ j = omega arith in rw z at (targets_each n 0 f q j (omega arith))

  pub targets_in : TargetsBelow n f → TargetsFilled n f → wrong_targets n 0 f ≡ false
  unfolding TargetsBelow TargetsFilled
  targets_in b (h, filled) =
      targets_all n 0 f
      (λ j l.
      let z : 0 + j ≡ j = omega arith in
      rw z (right_in n j _ (λ i. rw (get_or_default f j 0 j l) (b j i)) (λ k. filled j k (omega arith))))

-- adding to a set what is not in it counts it once
pub add_count : (k s i : ℕ) → k < room → has s i ≡ false → digit (has (with s i) k) ≡ digit (eqb i k) + digit (has s k)
add_count k s i h q = grind (arith, nat_tests, with_has s i k h)

pub add_other : (s i j : ℕ) → j < room → has s j ≡ false → i ≢ j → has (with s i) j ≡ false
add_other s i j h q n = grind (arith, nat_tests, with_has s i j h)

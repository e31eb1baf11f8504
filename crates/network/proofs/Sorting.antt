-- The members of the lists that `specs/Lists` builds, and that an ascending list is known by its members.
-- Assumes nothing.
use Rattle.std.proofs.Common.{◌≡◌, refl, ap, ◌∙◌, Bool, true, false, cond, ◌≢◌, ◌⊎◌, inl, inr, ⊎_elim, List, []}
use Rattle.std.proofs.Common.{◌∷◌, map, ℕ, zero, suc, ◌<◌, ◌≤◌, arith, length, T, ltb, eqb, ltb-true, ltb-false}
use Rattle.std.proofs.Common.{eqb-true}
use mathlib.Core.List.Memᴰ
use mathlib.Core.List.{flat_map, Memᴰ}
use native.Mathlib.Decide.{ℕ_discrete}
use borrow.Author.Tests.{eqb-false}
use mir.Facts.{or_yes}
use Rattle.events.proofs.Booleans.{or_left, or_right}
use Rattle.network.specs.Loops.{any_of}
use Rattle.network.specs.Lists.{insert_at, insert_all, in_order, keep_if, numbers_below, Ascending}

abbrev pub Mem : ℕ → List ℕ → Type 0
Mem x xs = Memᴰ x xs

-- some entry passes the test
module _ {A : Type 0} (p : A → Bool) where
  pub any_of_in : {x : A} {xs : List A} → Memᴰ x xs → T (p x) → T (any_of p xs)
  unfolding any_of
  any_of_in (Memᴰ.head {x = y} {xs = ys} q) t = or_left (p y) (any_of p ys) (rw q at t)
  any_of_in (Memᴰ.tail {x = y} {xs = ys} h) t = or_right (p y) (any_of p ys) (any_of_in h t)

  pub any_of_out : (xs : List A) → T (any_of p xs) → (x : A) × Memᴰ x xs × T (p x)
  unfolding any_of
  any_of_out [] t = absurd t
  any_of_out (x ∷ xs) t =
      ⊎_elim (λ h. (x, Memᴰ.head refl, h)) (λ h. let r = any_of_out xs h in (r.0, Memᴰ.tail r.1, r.2))
      (or_yes (p x) (any_of p xs) t)

-- the members of what is kept, mapped, gathered, counted off
pub keep_out : (b : Bool) (x z : ℕ) → Mem z (keep_if b x) → T b × (z ≡ x)
keep_out true x z (Memᴰ.head q) = (tt, q)
keep_out true x z (Memᴰ.tail h) = absurd (Memᴰ.not-nil h)
keep_out false x z h = absurd (Memᴰ.not-nil h)

pub keep_in : (b : Bool) (x : ℕ) → T b → Mem x (keep_if b x)
keep_in true x t = Memᴰ.head refl
keep_in false x t = absurd t

pub map_out : {A : Type 0} (f : A → ℕ) (xs : List A) (z : ℕ) → Mem z (map f xs) → (x : A) × Memᴰ x xs × (z ≡ f x)
map_out f [] z h = absurd (Memᴰ.not-nil h)
map_out f (x ∷ xs) z h =
    ⊎_elim (λ q. (x, Memᴰ.head refl, q)) (λ g. let r = map_out f xs z g in (r.0, Memᴰ.tail r.1, r.2))
    (Memᴰ.cases_cons h)

pub map_in : (f : ℕ → ℕ) {x : ℕ} {xs : List ℕ} → Mem x xs → Mem (f x) (map f xs)
map_in f (Memᴰ.head {x = y} {xs = ys} q) = Memᴰ.head (ap f q)
map_in f (Memᴰ.tail {x = y} {xs = ys} h) = Memᴰ.tail (map_in f h)

pub gather_out : {A B : Type 0} (f : A → List B) (xs : List A) (z : B) → Memᴰ z (flat_map f xs)
    → (x : A) × Memᴰ x xs × Memᴰ z (f x)
unfolding flat_map
gather_out f [] z h = absurd (Memᴰ.not-nil h)
gather_out f (x ∷ xs) z h =
    ⊎_elim (λ g. (x, Memᴰ.head refl, g)) (λ g. let r = gather_out f xs z g in (r.0, Memᴰ.tail r.1, r.2))
    (Memᴰ.append_cases (f x) h)

pub gather_in : {A B : Type 0} (f : A → List B) (z : B) {x : A} {xs : List A} → Memᴰ x xs → Memᴰ z (f x)
    → Memᴰ z (flat_map f xs)
unfolding flat_map
gather_in f z (Memᴰ.head {x = y} {xs = ys} q) g = Memᴰ.append_left (flat_map f ys) (rw q at g)
gather_in f z (Memᴰ.tail {x = y} {xs = ys} h) g = Memᴰ.append_right (f y) (gather_in f z h g)

pub number_in : (k x : ℕ) → x < k → Mem x (numbers_below k)
unfolding numbers_below
number_in zero x l = absurd (omega arith)
number_in (suc k) x l = at (ℕ_discrete x k) (number_in k x)
  where
    at : Dec (x ≡ k) → (x < k → Mem x (numbers_below k)) → Mem x (k ∷ numbers_below k)
    at (yes q) ih = Memᴰ.head q
    at (no q) ih = Memᴰ.tail (ih (omega arith))

pub number_out : (k x : ℕ) → Mem x (numbers_below k) → x < k
unfolding numbers_below
number_out zero x h = absurd (Memᴰ.not-nil h)
number_out (suc k) x h =
    ⊎_elim (λ q. omega arith) (λ g. let r = number_out k x g in omega arith) (Memᴰ.cases_cons h)

-- one insertion, by cases on where x belongs
pub insert_out : (x : ℕ) (ys : List ℕ) (z : ℕ) → Mem z (insert_at x ys) → (z ≡ x) ⊎ Mem z ys
unfolding insert_at
insert_out x [] z h = Memᴰ.cases_cons h
insert_out x (y ∷ ys) z h = at (ltb x y) (eqb x y) (insert_out x ys z) h
  where
    at : (b c : Bool) → (Mem z (insert_at x ys) → (z ≡ x) ⊎ Mem z ys)
        → Mem z (cond b (x ∷ y ∷ ys) (cond c (y ∷ ys) (y ∷ insert_at x ys))) → (z ≡ x) ⊎ Mem z (y ∷ ys)
    at true c ih g = Memᴰ.cases_cons g
    at false true ih g = inr g
    at false false ih g =
        ⊎_elim (λ q. inr (Memᴰ.head q)) (λ k. ⊎_elim inl (λ i. inr (Memᴰ.tail i)) (ih k))
        (Memᴰ.cases_cons g)

pub insert_in : (x : ℕ) (ys : List ℕ) (z : ℕ) → (z ≡ x) ⊎ Mem z ys → Mem z (insert_at x ys)
unfolding insert_at
insert_in x [] z (inl q) = Memᴰ.head q
insert_in x [] z (inr h) = absurd (Memᴰ.not-nil h)
insert_in x (y ∷ ys) z h = at (ltb x y) (eqb x y) refl (insert_in x ys z) h
  where
    at : (b c : Bool) → eqb x y ≡ c → ((z ≡ x) ⊎ Mem z ys → Mem z (insert_at x ys)) → (z ≡ x) ⊎ Mem z (y ∷ ys)
        → Mem z (cond b (x ∷ y ∷ ys) (cond c (y ∷ ys) (y ∷ insert_at x ys)))
    at true c e ih (inl q) = Memᴰ.head q
    at true c e ih (inr g) = Memᴰ.tail g
    at false true e ih (inl q) = Memᴰ.head (q ∙ eqb-true x y e)
    at false true e ih (inr g) = g
    at false false e ih (inl q) = Memᴰ.tail (ih (inl q))
    at false false e ih (inr g) = ⊎_elim Memᴰ.head (λ k. Memᴰ.tail (ih (inr k))) (Memᴰ.cases_cons g)

pub insert_ascending : (x : ℕ) (ys : List ℕ) → Ascending ys → Ascending (insert_at x ys)
unfolding insert_at Ascending
insert_ascending x [] a = (λ y h. absurd (Memᴰ.not-nil h), tt)
insert_ascending x (y ∷ ys) a = at (ltb x y) (eqb x y) refl refl (insert_ascending x ys a.1)
  where
    at : (b c : Bool) → ltb x y ≡ b → eqb x y ≡ c → Ascending (insert_at x ys)
        → Ascending (cond b (x ∷ y ∷ ys) (cond c (y ∷ ys) (y ∷ insert_at x ys)))
    at true c l e ih =
        let h : x < y = ltb-true x y l in
        (λ z m. ⊎_elim (λ q. omega arith) (λ g. omega (arith, a.0 z g)) (Memᴰ.cases_cons m), a)
    at false true l e ih = a
    at false false l e ih =
        let h : y ≤ x = ltb-false x y l in
        let ne : x ≢ y = eqb-false x y e in
        (λ z m. ⊎_elim (λ q. omega arith) (a.0 z) (insert_out x ys z m), ih)

insert_longer : (x : ℕ) (ys : List ℕ) → length ys ≤ length (insert_at x ys)
unfolding insert_at
insert_longer x [] = omega arith
insert_longer x (y ∷ ys) = at (ltb x y) (eqb x y) (insert_longer x ys)
  where
    at : (b c : Bool) → length ys ≤ length (insert_at x ys)
        → suc (length ys) ≤ length (cond b (x ∷ y ∷ ys) (cond c (y ∷ ys) (y ∷ insert_at x ys)))
    at true c ih = omega arith
    at false true ih = omega arith
    at false false ih = omega arith

-- all insertions
insert_all_out : (ys xs : List ℕ) (z : ℕ) → Mem z (insert_all ys xs) → Mem z ys ⊎ Mem z xs
unfolding insert_all
insert_all_out ys [] z h = inl h
insert_all_out ys (x ∷ xs) z h =
    ⊎_elim (λ g. ⊎_elim (λ q. inr (Memᴰ.head q)) inl (insert_out x ys z g)) (λ g. inr (Memᴰ.tail g))
    (insert_all_out (insert_at x ys) xs z h)

insert_all_in : (ys xs : List ℕ) (z : ℕ) → Mem z ys ⊎ Mem z xs → Mem z (insert_all ys xs)
unfolding insert_all
insert_all_in ys [] z h = ⊎_elim (λ g. g) (λ g. absurd (Memᴰ.not-nil g)) h
insert_all_in ys (x ∷ xs) z h = insert_all_in (insert_at x ys) xs z (moved h)
  where
    moved : Mem z ys ⊎ Mem z (x ∷ xs) → Mem z (insert_at x ys) ⊎ Mem z xs
    moved (inl g) = inl (insert_in x ys z (inr g))
    moved (inr g) = ⊎_elim (λ q. inl (insert_in x ys z (inl q))) inr (Memᴰ.cases_cons g)

insert_all_ascending : (ys xs : List ℕ) → Ascending ys → Ascending (insert_all ys xs)
unfolding insert_all
insert_all_ascending ys [] a = a
insert_all_ascending ys (x ∷ xs) a = insert_all_ascending (insert_at x ys) xs (insert_ascending x ys a)

-- a list never gets shorter: once it is too long it stays too long
pub insert_all_longer : (ys xs : List ℕ) → length ys ≤ length (insert_all ys xs)
unfolding insert_all
insert_all_longer ys [] = omega arith
insert_all_longer ys (x ∷ xs) = omega (arith, insert_longer x ys, insert_all_longer (insert_at x ys) xs)

pub in_order_out : (xs : List ℕ) (z : ℕ) → Mem z (in_order xs) → Mem z xs
unfolding in_order
in_order_out xs z h = ⊎_elim (λ g. absurd (Memᴰ.not-nil g)) (λ g. g) (insert_all_out [] xs z h)

pub in_order_in : (z : ℕ) {xs : List ℕ} → Mem z xs → Mem z (in_order xs)
unfolding in_order
in_order_in z {xs} h = insert_all_in [] xs z (inr h)

pub in_order_ascending : (xs : List ℕ) → Ascending (in_order xs)
unfolding in_order Ascending
in_order_ascending xs = insert_all_ascending [] xs tt

-- two ascending lists with the same members are equal
pub ascending_ext : (xs ys : List ℕ) → Ascending xs → Ascending ys
    → ((z : ℕ) → Mem z xs → Mem z ys) → ((z : ℕ) → Mem z ys → Mem z xs) → xs ≡ ys
unfolding Ascending
ascending_ext [] [] a b f g = refl
ascending_ext [] (y ∷ ys) a b f g = absurd (Memᴰ.not-nil (g y (Memᴰ.head refl)))
ascending_ext (x ∷ xs) [] a b f g = absurd (Memᴰ.not-nil (f x (Memᴰ.head refl)))
ascending_ext (x ∷ xs) (y ∷ ys) a b f g = λ i. q i ∷ ascending_ext xs ys a.1 b.1 down up i
  where
    least : (u v : ℕ) (us vs : List ℕ) → ((z : ℕ) → Mem z vs → v < z) → ((z : ℕ) → Mem z (u ∷ us) → Mem z (v ∷ vs))
        → v ≤ u
    least u v us vs h k =
        ⊎_elim (λ e. omega arith) (λ m. omega (arith, h u m)) (Memᴰ.cases_cons (k u (Memᴰ.head refl)))

    q : x ≡ y
    q = omega (arith, least x y xs ys b.0 f, least y x ys xs a.0 g)

    down : (z : ℕ) → Mem z xs → Mem z ys
    down z m =
        ⊎_elim (λ e. absurd (omega (arith, q, a.0 z m))) (λ r. r) (Memᴰ.cases_cons (f z (Memᴰ.tail m)))

    up : (z : ℕ) → Mem z ys → Mem z xs
    up z m = ⊎_elim (λ e. absurd (omega (arith, q, b.0 z m))) (λ r. r) (Memᴰ.cases_cons (g z (Memᴰ.tail m)))

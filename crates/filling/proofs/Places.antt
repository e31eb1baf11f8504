-- Where an entry belongs in an ascending list, insertion by index, and the turn that makes room for it in the array.
-- Assumes nothing.
use Rattle.std.proofs.Common.{◌≡◌, refl, sym, ap, ◌∙◌, List, [], ◌∷◌, ◌++◌, ℕ, zero, suc, ◌+◌, ◌-◌, ◌≤◌, ◌<◌, arith}
use Rattle.std.proofs.Common.{zero-le, suc-le-suc, not-suc-le-zero, le_of_suc-le-suc, zero-lt-suc, lt-ltb, le-ltb}
use Rattle.std.proofs.Common.{eq-eqb, ne_eqb, length, take, drop, get_or}
use Rattle.std.proofs.Common.{set, insert, inl, inr, length-append, length-take}
use Rattle.std.proofs.Common.{length-drop, length-set, take-take, nat_cmp, Result, MatchResult}
use Rattle.std.specs.List.Sorted.{IsBinarySearchResult}
use Rattle.std.proofs.lemmas.Grind.{take-set_at}
use Rattle.std.proofs.lemmas.List.{drop-take, take-set-le, drop-set-lt, drop-append-le}
use Rattle.std.proofs.lemmas.List.Sorted.{searched}
use Rattle.std.proofs.lemmas.Slice.{take-put_mid, drop-put_mid}
use Rattle.std.proofs.Math.Seq.{take-append_seam, drop-append_seam}
use borrow.Rule.Slice.PartMut.{put_mid, mid_of}
use mathlib.Core.List.{Memᴰ}
use Rattle.std.proofs.lemmas.Bool.{cases_lt}
use Rattle.network.specs.Lists.{insert_at, Ascending}

-- an ascending list, by index
member_at : (xs : List ℕ) (i : ℕ) → i < length xs → Memᴰ (get_or xs i 0) xs
member_at [] i h = absurd (not-suc-le-zero h)
member_at (x ∷ xs) zero h = Memᴰ.head refl
member_at (x ∷ xs) (suc i) h = Memᴰ.tail (member_at xs i (le_of_suc-le-suc h))

ascending_at : (xs : List ℕ) (i j : ℕ) → Ascending xs → i < j → j < length xs → get_or xs i 0 < get_or xs j 0
unfolding Ascending
ascending_at [] i j a h k = absurd (not-suc-le-zero k)
ascending_at (x ∷ xs) i zero a h k = absurd (not-suc-le-zero h)
ascending_at (x ∷ xs) zero (suc j) a h k = a.0 (get_or xs j 0) (member_at xs j (le_of_suc-le-suc k))
ascending_at (x ∷ xs) (suc i) (suc j) a h k = ascending_at xs i j a.1 (le_of_suc-le-suc h) (le_of_suc-le-suc k)

not_falling : (xs : List ℕ) → Ascending xs → (i j : ℕ) → i ≤ j → j < length xs → get_or xs i 0 ≤ get_or xs j 0
not_falling xs up i j h q =
    elim (cases_lt i j) [
      | inl r ↦ omega (arith, ascending_at xs i j up r q)
      | inr r ↦ let e : i ≡ j = omega arith in rw e (omega arith)
    ]

-- what the search says of an ascending list: where x is, or where it belongs
pub found : (xs : List ℕ) (x : ℕ) (r : Result ℕ ℕ) → Ascending xs → IsBinarySearchResult (λ y. nat_cmp y x) xs r
    → MatchResult r (λ i. (i < length xs) × (get_or xs i 0 ≡ x))
    (λ i. (i ≤ length xs) × ((k : ℕ) → k < i → get_or xs k 0 < x)
    × ((k : ℕ) → i ≤ k → k < length xs → x < get_or xs k 0))
found xs x r up gave = searched xs x r gave (not_falling xs up)

-- insertion, by index: x is there, or it belongs at i
insert_same : (xs : List ℕ) (x i : ℕ) → ((k : ℕ) → k < i → get_or xs k 0 < x) → i < length xs → get_or xs i 0 ≡ x
    → insert_at x xs ≡ xs
unfolding insert_at
insert_same [] x i below lt e = absurd (not-suc-le-zero lt)
insert_same (y ∷ ys) x zero below lt e = rw (le-ltb x y (omega arith), eq-eqb x y (sym e)) refl
insert_same (y ∷ ys) x (suc i) below lt e =
    let l : y < x = below 0 (zero-lt-suc i) in
    rw (
      le-ltb x y (omega arith),
      ne_eqb x y (λ q. omega arith),
      insert_same ys x i (λ k p. below (suc k) (suc-le-suc p)) (le_of_suc-le-suc lt) e,
    ) refl

pub insert_there : (xs : List ℕ) (x i : ℕ) → Ascending xs → i < length xs → get_or xs i 0 ≡ x → insert_at x xs ≡ xs
insert_there xs x i up lt e = insert_same xs x i (λ k h. omega (arith, ascending_at xs k i up h lt)) lt e

pub insert_new : (xs : List ℕ) (x i : ℕ) → i ≤ length xs → ((k : ℕ) → k < i → get_or xs k 0 < x)
    → ((k : ℕ) → i ≤ k → k < length xs → x < get_or xs k 0) → insert_at x xs ≡ insert xs i x
unfolding insert_at
insert_new [] x zero le below above = refl
insert_new [] x (suc i) le below above = absurd (not-suc-le-zero le)
insert_new (y ∷ ys) x zero le below above = rw (lt-ltb x y (above 0 zero-le (zero-lt-suc (length ys)))) refl
insert_new (y ∷ ys) x (suc i) le below above =
    let l : y < x = below 0 (zero-lt-suc i) in
    rw (
      le-ltb x y (omega arith),
      ne_eqb x y (λ q. omega arith),
      insert_new ys x i (le_of_suc-le-suc le) (λ k p. below (suc k) (suc-le-suc p))
          (λ k p q. above (suc k) (suc-le-suc p) (suc-le-suc q)),
    ) refl

-- the part of the array that is turned, with x at its end
part_is : (e : List ℕ) (at count x : ℕ) → at ≤ count → count < length e
    → mid_of at (count + 1 - at) (set e count x) ≡ drop at (take count e) ++ x ∷ []
part_is e at count x le lt =
    let m = count + 1 - at in
    let whole : at + m ≡ count + 1 = omega arith in
    sym (drop-take at m (set e count x))
    ∙ rw (whole, take-set_at e count (count + 1) x refl lt)
    (drop-append-le at (take count e) (x ∷ []) (omega (arith, length-take count e)))

turned : (b : List ℕ) (x : ℕ)
    → drop (length (b ++ x ∷ []) - 1) (b ++ x ∷ []) ++ take (length (b ++ x ∷ []) - 1) (b ++ x ∷ []) ≡ x ∷ b
turned b x =
    let n : length (b ++ x ∷ []) - 1 ≡ length b = omega (arith, length-append b (x ∷ [])) in
    rw (n, drop-append_seam b (x ∷ []), take-append_seam b (x ∷ [])) refl

pub front_is : (e part : List ℕ) (at count x : ℕ) → at ≤ count → count < length e
    → (let sub = mid_of at (count + 1 - at) (set e count x) in
    part ≡ drop (length sub - 1) sub ++ take (length sub - 1) sub)
    → take (count + 1) (put_mid at (count + 1 - at) (set e count x) part) ≡ insert (take count e) at x
front_is e part at count x le lt turn =
    let b = drop at (take count e) in
    let now : part ≡ x ∷ b = (rw (part_is e at count x le lt) at turn) ∙ turned b x in
    let size : length part ≡ count + 1 - at =
    omega (arith, ap length now, length-drop at (take count e), length-take count e) in
    take-put_mid at (count + 1 - at) (set e count x) part (count + 1) (omega arith) (omega (arith, length-set {A = ℕ}))
    ∙ rw (take-set-le at e count x le, now) (ap (λ f. f ++ x ∷ b) (sym (take-take at count e le)))

-- what lies behind is as it was
pub back_is : (e part : List ℕ) (at count x : ℕ) → at ≤ count → count < length e → length part ≡ count + 1 - at
    → drop (count + 1) (put_mid at (count + 1 - at) (set e count x) part) ≡ drop (count + 1) e
back_is e part at count x le lt size =
    drop-put_mid at (count + 1 - at) (set e count x) part (count + 1) (omega arith)
    (omega (arith, length-set e count x)) (omega arith)
    ∙ drop-set-lt (count + 1) e count x (omega arith)

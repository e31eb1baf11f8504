-- A list under construction in its array: what an insertion leaves. Assumes nothing.
use Rattle.std.proofs.Common.{◌≡◌, refl, sym, ap, ap₂, ◌∙◌, Bool, true, false, List, [], ◌∷◌, ◌++◌, ℕ, inl, inr}
use Rattle.std.proofs.Common.{◌+◌, ◌-◌, ◌≤◌, ◌<◌, arith, le-leb, leb, leb-true, length, take, drop, replicate}
use Rattle.std.proofs.Common.{take-append-drop, take_at}
use Rattle.std.proofs.Common.{insert, nat_cmp, Ok, Err}
use Rattle.std.specs.List.Sorted.{IsBinarySearchResult}
use Rattle.std.proofs.lemmas.List.Edits.{length-insert}
use Rattle.std.proofs.lemmas.Grind.{common_steps}
use Rattle.std.proofs.lemmas.Bool.{cases_Bool}
use Rattle.std.proofs.Math.Seq.{drop-append-add}
use Rattle.std.proofs.lemmas.List.{drop-replicate}
use borrow.Author.Tests.{lt-leb}
use lib.ListN.{length-replicate}
use Rattle.network.specs.Lists.{insert_at, Ascending}
use Rattle.network.specs.Verdict.{most_pairs}
use Rattle.network.proofs.Sorting.{insert_ascending}
use Rattle.filling.specs.Building.{Filling, fits, over, pairs_of, went_over, state_of, offer, offer_all, zeros, padded}
use Rattle.filling.specs.Building.{Held, Made, stays_over}
use Rattle.filling.specs.Fields.{state_pairs, state_over, held_length}
use Rattle.filling.proofs.Places.{found, insert_there, insert_new}

-- a list, then zeros
pub padded_length : (xs : List ℕ) → length xs ≤ most_pairs → length (padded xs) ≡ most_pairs
unfolding padded zeros
padded_length xs h = grind (arith, common_steps)

pub padded_take : (xs : List ℕ) → take (length xs) (padded xs) ≡ xs
unfolding padded
padded_take xs = take_at xs (zeros (most_pairs - length xs)) (length xs) refl

padded_drop : (xs : List ℕ) (m : ℕ) → length xs ≤ m → drop m (padded xs) ≡ zeros (most_pairs - m)
unfolding padded zeros
padded_drop xs m h =
    let past = m - length xs in
    let at : m ≡ length xs + past = omega arith in
    let rest : most_pairs - length xs - past ≡ most_pairs - m = omega arith in
    ap (λ k. drop k (padded xs)) at ∙ drop-append-add xs (zeros (most_pairs - length xs)) past
    ∙ drop-replicate past (most_pairs - length xs) 0 ∙ ap zeros rest

-- a list laid into the front of an array that has zeros from there on
padded_laid : (n m : ℕ) (xs ys zs : List ℕ) → Held n xs → n ≤ m → take m ys ≡ zs → length zs ≡ m → drop m ys ≡ drop m xs
    → ys ≡ padded zs
unfolding padded
padded_laid n m xs ys zs w l front long back =
    sym (take-append-drop m ys)
    ∙ ap₂ ◌++◌ front
    (back ∙ ap (drop m) w.padding ∙ padded_drop (take n xs) m (omega (arith, held_length w))
    ∙ ap (λ (k : ℕ). zeros (most_pairs - k)) (sym long))

-- a filling is the state that its pairs and its flag give
pub state_is : (f : Filling) → state_of (went_over f) (pairs_of f) ≡ f
unfolding pairs_of went_over state_of
state_is (fits xs) = refl
state_is (over xs) = refl

-- what an array can hold: ascending, 256 at most; offers keep it
unfoldable pub Sound : Filling → Type 0
Sound f = Ascending (pairs_of f) × (length (pairs_of f) ≤ most_pairs)

offer_sound : (f : Filling) (x : ℕ) → Sound f → Sound (offer f x)
unfolding Sound offer pairs_of
offer_sound (over xs) x s = s
offer_sound (fits xs) x s =
    elim (cases_Bool (leb (length (insert_at x xs)) most_pairs)) [
      | inl e ↦ rw e (insert_ascending x xs s.0, leb-true (length (insert_at x xs)) most_pairs e)
      | inr e ↦ rw e s
    ]

pub all_sound : (f : Filling) (cs : List ℕ) → Sound f → Sound (offer_all f cs)
unfolding offer_all
all_sound f [] s = s
all_sound f (x ∷ cs) s = all_sound (offer f x) cs (offer_sound f x s)

pub held_sound : (b : Bool) {n : ℕ} {xs : List ℕ} → Held n xs → Sound (state_of b (take n xs))
unfolding Sound
held_sound b {n} {xs} h =
    rw (state_pairs b (take n xs)) (h.ascending, omega (arith, h.count_fits, held_length h))

-- an array with the fields of a filling holds it
pub made_held : {f : Filling} {n : ℕ} {b : Bool} {xs : List ℕ} → Sound f → Made f n b xs → Held n xs
    × (f ≡ state_of b (take n xs))
unfolding Sound
made_held {f} {n} {b} {xs} s m =
    let t : take n xs ≡ pairs_of f = rw (m.entries_are, m.count_is) (padded_take (pairs_of f)) in (
      record {
        count_fits = omega (arith, m.count_is, s.1);
        size = ap length m.entries_are ∙ padded_length (pairs_of f) s.1;
        ascending = rw t s.0;
        padding = m.entries_are ∙ ap padded (sym t);
      },
      sym (state_is f) ∙ ap₂ state_of (sym m.over_is) (sym t),
    )

pub ruleset over_offer = (state_over, stays_over)

pub ruleset tally = (state_pairs, state_over, held_length)

-- what is offered to a list that is not over, by what its insertion gives: it is there already, or there is room for
-- it, or there is none
module _ (x : ℕ) (zs : List ℕ) {new : List ℕ} (e : insert_at x zs ≡ new) where
  pub offer_there : new ≡ zs → length zs ≤ most_pairs → state_of false zs ≡ offer (state_of false zs) x
  unfolding offer state_of
  offer_there same h = rw (e, same, le-leb (length zs) most_pairs h) refl

  pub offer_new : length new ≤ most_pairs → state_of false new ≡ offer (state_of false zs) x
  unfolding offer state_of
  offer_new h = rw (e, le-leb (length new) most_pairs h) refl

  pub offer_full : most_pairs < length new → state_of true zs ≡ offer (state_of false zs) x
  unfolding offer state_of
  offer_full h = rw (e, lt-leb (length new) most_pairs h) refl

-- what the search among the entries held says of x: it is there, or where it belongs
module _ {n : ℕ} {xs : List ℕ} (x i : ℕ) (held : Held n xs) where
  pub is_there : IsBinarySearchResult (λ y. nat_cmp y x) (take n xs) (Ok i) → insert_at x (take n xs) ≡ take n xs
  is_there r =
      let at = found (take n xs) x (Ok i) held.ascending r in
      insert_there (take n xs) x i held.ascending at.0 at.1

  pub belongs : IsBinarySearchResult (λ y. nat_cmp y x) (take n xs) (Err i)
      → (i ≤ n) × (insert_at x (take n xs) ≡ insert (take n xs) i x) × (length (insert (take n xs) i x) ≡ n + 1)
  belongs r =
      let at = found (take n xs) x (Err i) held.ascending r in (
        omega (arith, at.0, held_length held),
        insert_new (take n xs) x i at.0 at.1 at.2,
        omega (arith, length-insert (take n xs) i x at.0, held_length held),
      )

-- the array after one entry more
pub held_more : (x : ℕ) {n : ℕ} {xs ys : List ℕ} → Held n xs → n < most_pairs
    → take (n + 1) ys ≡ insert_at x (take n xs) → length (insert_at x (take n xs)) ≡ n + 1
    → drop (n + 1) ys ≡ drop (n + 1) xs → Held (n + 1) ys
held_more x {n} {xs} {ys} w lt front long back =
    let laid = padded_laid n (n + 1) xs ys (insert_at x (take n xs)) w (omega arith) front long back in
    record {
      count_fits = omega arith;
      size = ap length laid ∙ padded_length (insert_at x (take n xs)) (omega arith);
      ascending = rw front (insert_ascending x (take n xs) w.ascending);
      padding = laid ∙ ap padded (sym front);
    }

-- the list with no pair
pub held_new : Held 0 (replicate most_pairs 0)
unfolding padded zeros Ascending
held_new =
    record { count_fits = omega arith; size = length-replicate {A = ℕ} 256 0; ascending = tt; padding = refl }

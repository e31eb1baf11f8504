-- The list that is built of candidates is their list in order, or is over exactly if that has more than 256 entries; so
-- the order in which candidates come does not matter. Assumes nothing.
use Rattle.std.proofs.Common.{◌≡◌, refl, sym, ap, ◌∙◌, true, false, true≢false, List, [], ◌∷◌, ◌++◌, inl, inr, Bool}
use Rattle.std.proofs.Common.{ℕ, ◌≤◌, ◌<◌, arith, leb, ltb, le-leb, leb-true, lt-ltb, le-ltb, ltb-false, length}
use Rattle.std.proofs.lemmas.Bool.{cases_Bool, cases_lt}
use Rattle.network.specs.Lists.{insert_at, insert_all, in_order}
use Rattle.network.specs.Verdict.{most_pairs}
use Rattle.network.proofs.Sorting.{Mem, insert_all_longer, in_order_out, in_order_in, in_order_ascending, ascending_ext}
use Rattle.filling.specs.Building.{Filling, fits, over, pairs_of, went_over, offer, offer_all, filled, padded, Made, Gives}
use Rattle.filling.proofs.Loops.{over_stays, offer_append}

offer_fits : (ys cs : List ℕ) → length (insert_all ys cs) ≤ most_pairs
    → offer_all (fits ys) cs ≡ fits (insert_all ys cs)
unfolding insert_all offer_all offer
offer_fits ys [] h = refl
offer_fits ys (x ∷ cs) h =
    let t : leb (length (insert_at x ys)) most_pairs ≡ true =
    le-leb (length (insert_at x ys)) most_pairs (omega (arith, insert_all_longer (insert_at x ys) cs)) in
    rw t (offer_fits (insert_at x ys) cs h)

offer_over : (ys cs : List ℕ) → length ys ≤ most_pairs → most_pairs < length (insert_all ys cs)
    → went_over (offer_all (fits ys) cs) ≡ true
unfolding insert_all offer_all offer went_over
offer_over ys [] k h = absurd (omega arith)
offer_over ys (x ∷ cs) k h =
    elim (cases_Bool (leb (length (insert_at x ys)) most_pairs)) [
      | inl e ↦ rw e (offer_over (insert_at x ys) cs (leb-true (length (insert_at x ys)) most_pairs e) h)
      | inr e ↦ rw (e, over_stays ys cs) refl
    ]

pub filled_fits : (cs : List ℕ) → length (in_order cs) ≤ most_pairs → filled cs ≡ fits (in_order cs)
unfolding filled in_order
filled_fits cs h = offer_fits [] cs h

pub filled_over_is : (cs : List ℕ) → went_over (filled cs) ≡ ltb most_pairs (length (in_order cs))
unfolding filled in_order went_over
filled_over_is cs =
    elim (cases_lt most_pairs (length (in_order cs))) [
      | inl h ↦ offer_over [] cs (omega arith) h ∙ sym (lt-ltb most_pairs (length (in_order cs)) h)
      | inr h ↦ rw (filled_fits cs h, le-ltb most_pairs (length (in_order cs)) h) refl
    ]

-- what is not over is the list in order
pub filled_is : (cs : List ℕ) → went_over (filled cs) ≡ false → filled cs ≡ fits (in_order cs)
filled_is cs h = filled_fits cs (ltb-false most_pairs (length (in_order cs)) (sym (filled_over_is cs) ∙ h))

-- the list that is built of candidates is theirs in order
pub filled_gives : (cs : List ℕ) → Gives (in_order cs) (filled cs)
unfolding pairs_of
filled_gives cs =
    record {
      over_exactly = filled_over_is cs;
      pairs_are = λ h. ap pairs_of (filled_is cs h);
      count_is = λ h. ap (λ (f : Filling). length (pairs_of f)) (filled_is cs h);
      entries_are = λ h. ap (λ (f : Filling). padded (pairs_of f)) (filled_is cs h);
    }

-- what an array holds of candidates is their list, all 256 entries
pub made_gives : (cs : List ℕ) (count : ℕ) (b : Bool) (entries : List ℕ) → Made (filled cs) count b entries
    → (b ≡ ltb most_pairs (length (in_order cs))) × (b ≡ false → count ≡ length (in_order cs))
    × (b ≡ false → entries ≡ padded (in_order cs))
made_gives cs count b entries m =
    let gives = filled_gives cs in (
      m.over_is ∙ gives.over_exactly,
      λ h. m.count_is ∙ gives.count_is (sym m.over_is ∙ h),
      λ h. m.entries_are ∙ gives.entries_are (sym m.over_is ∙ h),
    )

-- a list that is over stays over, so stopping early is right
pub filled_stays : (cs ds : List ℕ) → went_over (filled cs) ≡ true → filled (cs ++ ds) ≡ filled cs
unfolding filled went_over
filled_stays cs ds h = offer_append (fits []) cs ds ∙ stays (offer_all (fits []) cs) h
  where
    stays : (f : Filling) → went_over f ≡ true → offer_all f ds ≡ f
    stays (fits xs) q = absurd (true≢false (sym q))
    stays (over xs) q = over_stays xs ds

-- candidates with the same members are in order the same list
pub in_order_ext : (cs ds : List ℕ) → ((z : ℕ) → Mem z cs → Mem z ds) → ((z : ℕ) → Mem z ds → Mem z cs)
    → in_order cs ≡ in_order ds
in_order_ext cs ds f g =
    ascending_ext (in_order cs) (in_order ds) (in_order_ascending cs) (in_order_ascending ds)
    (λ z m. in_order_in z (f z (in_order_out cs z m))) (λ z m. in_order_in z (g z (in_order_out ds z m)))

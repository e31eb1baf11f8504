-- Loops that offer one candidate after another to a collector: what is still to be offered, offered to what it is now,
-- gives what is wanted. Every loop has this invariant. Assumes nothing.
use Rattle.std.proofs.Common.{◌≡◌, refl, sym, ◌∙◌, Bool, true, List, [], ◌∷◌, ◌++◌, ℕ}
use Rattle.std.proofs.Common.{◌+◌, ◌≤◌, ◌<◌, add-one, arith, length, drop, get_or, drop_of_length-le, drop-cons}
use Rattle.std.proofs.Common.{append_assoc}
use Rattle.std.specs.Prelude.{fold}
use Rattle.std.proofs.lemmas.List.Sums.{fold-append}
use Rattle.std.proofs.lemmas.List.Folds.{fold_stays}
use mathlib.Core.List.{flat_map}
use Rattle.filling.specs.Collecting.{StaysOnceOver}
use Rattle.filling.specs.Building.{Filling, fits, over, offer, offer_all, filled}

-- over stays over; one list of candidates behind another
pub over_stays : (xs cs : List ℕ) → offer_all (over xs) cs ≡ over xs
unfolding offer_all offer
over_stays xs [] = refl
over_stays xs (x ∷ cs) = over_stays xs cs

pub offer_append : (f : Filling) (cs ds : List ℕ) → offer_all f (cs ++ ds) ≡ offer_all (offer_all f cs) ds
unfolding offer_all
offer_append f [] ds = refl
offer_append f (x ∷ cs) ds = offer_append (offer f x) cs ds

-- a run of offers to a list
pub fold_offer : (f : Filling) (cs : List ℕ) → fold offer f cs ≡ offer_all f cs
unfolding offer_all
fold_offer f [] = refl
fold_offer f (x ∷ cs) = fold_offer (offer f x) cs

pub fold_filled : (cs : List ℕ) → fold offer (fits []) cs ≡ filled cs
unfolding filled
fold_filled cs = fold_offer (fits []) cs

-- once over, what is still to be offered changes nothing
pub stopped : {S : Type 0} {after : S → ℕ → S} {is_over : S → Bool} → StaysOnceOver after is_over → {s whole : S}
    → (rest : List ℕ) → is_over s ≡ true → fold after s rest ≡ whole → s ≡ whole
stopped {after = after} stays {s} rest at_end now = sym (fold_stays after s (λ x. stays s x at_end) rest) ∙ now

-- over the entries of a slice: each yields candidates
gather_step : (f : ℕ → List ℕ) (xs : List ℕ) (i : ℕ) → i < length xs
    → flat_map f (drop i xs) ≡ f (get_or xs i 0) ++ flat_map f (drop (i + 1) xs)
unfolding flat_map
gather_step f xs i h = rw (add-one i, drop-cons xs i 0 h) refl

-- what xs yields from entry i on, and the rest behind it, is still to be offered
pub record ToOffer {S : Type 0} (after : S → ℕ → S) (s : S) (f : ℕ → List ℕ) (xs : List ℕ) (i : ℕ) (rest : List ℕ)
    (whole : S) : Type 0 where
  pub within : i ≤ length xs
  pub gives : fold after s (flat_map f (drop i xs) ++ rest) ≡ whole

module _ {S : Type 0} {after : S → ℕ → S} {s : S} {f : ℕ → List ℕ} {xs : List ℕ} {i : ℕ} {rest : List ℕ} {whole : S}
    (now : ToOffer after s f xs i rest whole) where
  first : i < length xs → fold after s (f (get_or xs i 0) ++ (flat_map f (drop (i + 1) xs) ++ rest)) ≡ whole
  first h = rw (gather_step f xs i h, append_assoc) at now.gives

  pub none_left : length xs ≤ i → fold after s rest ≡ whole
  unfolding flat_map
  none_left h = rw (drop_of_length-le xs h) at now.gives

  -- the candidates cs of entry i have been offered
  pub offered_on : {t : S} {cs : List ℕ} → i < length xs → cs ≡ f (get_or xs i 0) → t ≡ fold after s cs
      → ToOffer after t f xs (i + 1) rest whole
  offered_on {cs = cs} h e new =
      record {
        within = omega arith;
        gives = rw new (sym (fold-append after s cs (flat_map f (drop (i + 1) xs) ++ rest)) ∙ (rw (← e) at first h));
      }

  -- those of entry i come by a loop of their own
  pub offered_within : {g : ℕ → List ℕ} {ys : List ℕ} → i < length xs → f (get_or xs i 0) ≡ flat_map g ys
      → ToOffer after s g ys 0 (flat_map f (drop (i + 1) xs) ++ rest) whole
  offered_within h e = record { within = omega arith; gives = rw e at first h }

  -- none is left of the slice, and there is no rest
  pub offered_last : length xs ≤ i → rest ≡ [] → s ≡ whole
  offered_last h e = rw e at none_left h

  -- the collector is over
  pub offered_over : {is_over : S → Bool} → StaysOnceOver after is_over → is_over s ≡ true → s ≡ whole
  offered_over stays at_end = stopped stays (flat_map f (drop i xs) ++ rest) at_end now.gives

-- the loop of an entry's own is at its end
pub offered_back : {S : Type 0} {after : S → ℕ → S} {s : S} {f g : ℕ → List ℕ} {xs ys : List ℕ} {i j : ℕ}
    {rest : List ℕ} {whole : S}
    → ToOffer after s g ys j (flat_map f (drop (i + 1) xs) ++ rest) whole → length ys ≤ j → i < length xs
    → ToOffer after s f xs (i + 1) rest whole
offered_back now h l = record { within = omega arith; gives = none_left now h }

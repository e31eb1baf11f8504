-- A node's list while it is built, under the limit of 256 pairs, and how it stands in an array of 256 entries.
-- Document 01, refusal 11 and the working area. Assumes nothing.
use Rattle.std.specs.Prelude.{◌≡◌, Bool, true, false, cond, List, [], ◌∷◌, ◌++◌, ℕ, ◌-◌, ◌≤◌, leb, ltb, length, take}
use Rattle.std.specs.Prelude.{drop, replicate}
use Rattle.std.proofs.Common.{refl, sym, true≢false}
use Rattle.filling.specs.Collecting.{StaysOnceOver}
use Rattle.network.specs.Lists.{insert_at, Ascending}
use Rattle.network.specs.Verdict.{most_pairs}

-- the pairs so far, all of which fit; or those that a 257th was offered to, and then the list is over
pub data Filling : Type 0 where
  fits : List ℕ → Filling
  over : List ℕ → Filling

-- its pairs, and whether it is over
unfoldable pub pairs_of : Filling → List ℕ
pairs_of (fits xs) = xs
pairs_of (over xs) = xs

unfoldable pub went_over : Filling → Bool
went_over (fits xs) = false
went_over (over xs) = true

-- the list xs, over or not
unfoldable pub state_of : Bool → List ℕ → Filling
state_of true xs = over xs
state_of false xs = fits xs

-- the entry x is offered; what is over stays over
unfoldable pub offer : Filling → ℕ → Filling
offer (fits xs) x = cond (leb (length (insert_at x xs)) most_pairs) (fits (insert_at x xs)) (over xs)
offer (over xs) x = over xs

-- a list that is over stays as it is
pub stays_over : StaysOnceOver offer went_over
unfolding offer went_over
stays_over (fits xs) x h = absurd (true≢false (sym h))
stays_over (over xs) x h = refl

-- each of the candidates is offered, first to last
unfoldable pub offer_all : Filling → List ℕ → Filling
offer_all f [] = f
offer_all f (x ∷ xs) = offer_all (offer f x) xs

-- the list that is built of the candidates, from none
unfoldable pub filled : List ℕ → Filling
filled xs = offer_all (fits []) xs

-- the pairs of a list, then zeros
unfoldable pub zeros : ℕ → List ℕ
zeros k = replicate k 0

unfoldable pub padded : List ℕ → List ℕ
padded xs = xs ++ zeros (most_pairs - length xs)

-- the array holds an ascending list of `count` entries, then zeros
pub record Held (count : ℕ) (entries : List ℕ) : Type 0 where
  pub count_fits : count ≤ most_pairs
  pub size : length entries ≡ most_pairs
  pub ascending : Ascending (take count entries)
  pub padding : entries ≡ padded (take count entries)

-- count, over and array are those of the filling f
pub record Made (f : Filling) (count : ℕ) (is_over_now : Bool) (entries : List ℕ) : Type 0 where
  pub count_is : count ≡ length (pairs_of f)
  pub over_is : is_over_now ≡ went_over f
  pub entries_are : entries ≡ padded (pairs_of f)

-- the filling f is the list xs, or over exactly if that has more than 256 pairs; in the array, xs and then zeros
pub record Gives (xs : List ℕ) (f : Filling) : Type 0 where
  pub over_exactly : went_over f ≡ ltb most_pairs (length xs)
  pub pairs_are : went_over f ≡ false → pairs_of f ≡ xs
  pub count_is : went_over f ≡ false → length (pairs_of f) ≡ length xs
  pub entries_are : went_over f ≡ false → padded (pairs_of f) ≡ padded xs

-- the array stored in a section: as much as the section has room for; what the section has behind the array stays
unfoldable pub stored : List ℕ → List ℕ → List ℕ
stored entries section = take (length section) entries ++ drop (length entries) section

-- Each operation is settled by its contract: two results that meet it are equal, and so are two arrays or sections
-- afterwards. Assumes nothing.
use Rattle.std.proofs.Common.{◌≡◌, Bool, List, ℕ}
use Rattle.std.specs.Prelude.{length}
use Rattle.events.proofs.Unique.{settled}
use Rattle.filling.specs.Building.{Filling, Made, stored, padded, pairs_of, went_over}

-- offer, new, join, hide, rename and a leaf's pairs, each with its own filling f
pub filling_unique : (f r r' : Filling) → r ≡ f → r' ≡ f → r ≡ r'
filling_unique f r r' p q = settled p q

-- the same of a list's fields, which are those of its filling (`held_made`)
pub made_unique : (f : Filling) (n n' : ℕ) (b b' : Bool) (es es' : List ℕ) → Made f n b es → Made f n' b' es'
    → (n ≡ n') × (b ≡ b') × (es ≡ es')
made_unique f n n' b b' es es' p q =
    (settled p.count_is q.count_is, settled p.over_is q.over_is, settled p.entries_are q.entries_are)

-- offer_candidate and the loops that offer, to any collector
pub collector_unique : {S : Type 0} (s r r' : S) → r ≡ s → r' ≡ s → r ≡ r'
collector_unique s r r' p q = settled p q

pub store_unique : (es section r r' : List ℕ) → r ≡ stored es section → r' ≡ stored es section → r ≡ r'
store_unique es section r r' p q = settled p q

-- the methods of `PairList`
pub list_store_unique : (f : Filling) (section r r' : List ℕ) → r ≡ stored (padded (pairs_of f)) section
    → r' ≡ stored (padded (pairs_of f)) section → r ≡ r'
list_store_unique f section r r' p q = settled p q

pub pairs_unique : (f : Filling) (r r' : List ℕ) → r ≡ pairs_of f → r' ≡ pairs_of f → r ≡ r'
pairs_unique f r r' p q = settled p q

pub tally_unique : (f : Filling) (n n' : ℕ) (b b' : Bool) → n ≡ length (pairs_of f) → n' ≡ length (pairs_of f)
    → b ≡ went_over f → b' ≡ went_over f → (n ≡ n') × (b ≡ b')
tally_unique f n n' b b' p q v w = (settled p q, settled v w)

pub is_over_unique : (f : Filling) (r r' : Bool) → r ≡ went_over f → r' ≡ went_over f → r ≡ r'
is_over_unique f r r' p q = settled p q

-- What this crate proves, each statement by name; proofs/Promise.antt proves them. `filled ..` is what the
-- contracts of the code say. Assumes nothing.
use Rattle.std.specs.Prelude.{◌≡◌, true, false, ℕ, ◌^◌, ◌<◌, ◌≤◌}
use mathlib.Core.List.{List, ◌++◌, map, Memᴰ}
use Rattle.network.specs.Network.{Network, TargetsBelow}
use Rattle.network.specs.Lists.{pack, first_of, second_of, in_order, join_candidates, hide_candidate, rename_candidate}
use Rattle.network.specs.Lists.{list_of}
use Rattle.entries.specs.Entries.{width, AllInside, KeepsOthers}
use Rattle.filling.specs.Building.{went_over, filled, Gives}

-- 1. An entry is a pair: what is packed is found again, and every entry is what its two sets pack to
unfoldable pub PackedIsFound : Type 0
PackedIsFound = (F C : ℕ) → C < 2 ^ width → (first_of (pack F C) ≡ F) × (second_of (pack F C) ≡ C)

unfoldable pub FoundIsPacked : Type 0
FoundIsPacked = (x : ℕ) → pack (first_of x) (second_of x) ≡ x

-- 2. Each operation gives the rule's list for n events, n at most 16, or is over, of operands whose entries have n
-- events
unfoldable pub JoinGivesRule : Type 0
JoinGivesRule =
    (n : ℕ) → n ≤ width → (A : ℕ) (xs ys : List ℕ) → AllInside n xs → AllInside n ys
    → Gives (in_order (join_candidates n A xs ys)) (filled (join_candidates width A xs ys))

unfoldable pub HideGivesRule : Type 0
HideGivesRule =
    (n : ℕ) → n ≤ width → (A : ℕ) → A < 2 ^ n → (xs : List ℕ) → AllInside n xs
    → Gives (in_order (map (hide_candidate n A) xs)) (filled (map (hide_candidate width A) xs))

unfoldable pub RenameGivesRule : Type 0
RenameGivesRule =
    (n : ℕ) → n ≤ width → (f : List ℕ) → TargetsBelow n f → KeepsOthers n f → (xs : List ℕ) → AllInside n xs
    → Gives (in_order (map (rename_candidate n f) xs)) (filled (map (rename_candidate width f) xs))

-- the entries of every node's list have n events
unfoldable pub ListsInside : Type 0
ListsInside = (n : ℕ) → n ≤ width → (t : Network) → AllInside n (list_of n t)

-- 3. The order in which candidates come, and repeats, matter neither to whether the list is over nor, where it is not,
-- to the list
unfoldable pub OrderDoesNotMatter : Type 0
OrderDoesNotMatter =
    (cs ds : List ℕ) → ((x : ℕ) → Memᴰ x cs → Memᴰ x ds) → ((x : ℕ) → Memᴰ x ds → Memᴰ x cs)
    → (went_over (filled cs) ≡ went_over (filled ds)) × (went_over (filled cs) ≡ false → filled cs ≡ filled ds)

-- 4. A list that is over stays over, so stopping early is right
unfoldable pub OverStaysOver : Type 0
OverStaysOver = (cs ds : List ℕ) → went_over (filled cs) ≡ true → filled (cs ++ ds) ≡ filled cs

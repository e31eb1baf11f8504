-- Each node's list and flag as functions that compute: a list is ascending, without repeats, its pairs packed into one
-- number. Document 01, "The rules for pairs and flags" and the working area. Assumes nothing.
use Rattle.std.specs.Prelude.{Bool, false, not, ◌&&◌, cond, ℕ, zero, suc, ◌+◌, ◌*◌, ◌/◌, ◌%◌, ◌^◌, ◌<◌, ltb, eqb}
use mathlib.Core.List.{List, [], ◌∷◌, ◌++◌, Memᴰ, map, flat_map}
use Rattle.events.specs.Sets.{is_empty, union, difference, complement, disjoint, included, image}
use Rattle.events.specs.Sets.{all_sources}
use Rattle.network.specs.Machine.{Machine}
use Rattle.network.specs.Network.{Network, leaf, join, hide, rename, sends}
use Rattle.network.specs.Rules.{joined_c, Listed}
use Rattle.network.specs.Loops.{any_of, loops, spins}

-- the pair (F, C) as one entry, and the two sets of an entry
unfoldable pub pack : ℕ → ℕ → ℕ
pack F C = F * 65536 + C

unfoldable pub first_of : ℕ → ℕ
first_of x = x / 65536

unfoldable pub second_of : ℕ → ℕ
second_of x = x % 65536

-- x put at its place in an ascending list, unless it is there
unfoldable pub insert_at : ℕ → List ℕ → List ℕ
insert_at x [] = x ∷ []
insert_at x (y ∷ ys) = cond (ltb x y) (x ∷ y ∷ ys) (cond (eqb x y) (y ∷ ys) (y ∷ insert_at x ys))

-- each of the candidates put into a list, first to last
unfoldable pub insert_all : List ℕ → List ℕ → List ℕ
insert_all ys [] = ys
insert_all ys (x ∷ xs) = insert_all (insert_at x ys) xs

-- the entries of the candidates, ascending, each once
unfoldable pub in_order : List ℕ → List ℕ
in_order xs = insert_all [] xs

-- x, if it is to be kept
abbrev pub keep_if : Bool → ℕ → List ℕ
keep_if b x = cond b (x ∷ []) []

-- the numbers below k, among which are all sets of n events for k = 2 ^ n
unfoldable pub numbers_below : ℕ → List ℕ
numbers_below zero = []
numbers_below (suc k) = k ∷ numbers_below k

-- leaf: what the set L yields
unfoldable pub leaf_candidate : ℕ → Machine → ℕ → List ℕ
leaf_candidate n m L = keep_if (not (is_empty L) && loops n m L) (pack L (complement n L))

-- join, clause (a): what a left entry x and a right entry y yield together
unfoldable pub together_candidate : ℕ → ℕ → ℕ → ℕ → List ℕ
together_candidate n A x y =
    let F = union n (first_of x) (first_of y) in
    let C = joined_c n A (second_of x) (second_of y) in
    keep_if (disjoint n F C) (pack F C)

-- join, clauses (b) and (c): what an entry of one side yields alone
unfoldable pub alone_candidate : ℕ → ℕ → ℕ → List ℕ
alone_candidate n A x = keep_if (disjoint n (first_of x) A) x

-- a join's candidates: both-sided by left then right, then left alone, then right alone
unfoldable pub join_candidates : ℕ → ℕ → List ℕ → List ℕ → List ℕ
join_candidates n A xs ys =
    flat_map (λ x. flat_map (together_candidate n A x) ys) xs
    ++ (flat_map (alone_candidate n A) xs ++ flat_map (alone_candidate n A) ys)

-- what an operand's entry yields at a hide, and at a rename
unfoldable pub hide_candidate : ℕ → ℕ → ℕ → ℕ
hide_candidate n A x = pack (difference n (first_of x) A) (union n (second_of x) A)

unfoldable pub rename_candidate : ℕ → List ℕ → ℕ → ℕ
rename_candidate n f x = pack (image n (sends f) (first_of x)) (all_sources n (sends f) (second_of x))

-- the list at a node, by its kind
unfoldable pub list_of : ℕ → Network → List ℕ
list_of n (leaf m) = in_order (flat_map (leaf_candidate n m) (numbers_below (2 ^ n)))
list_of n (join a b A) = in_order (join_candidates n A (list_of n a) (list_of n b))
list_of n (hide a A) = in_order (map (hide_candidate n A) (list_of n a))
list_of n (rename a f) = in_order (map (rename_candidate n f) (list_of n a))

-- the node's own flag
unfoldable pub flag_of : ℕ → Network → Bool
flag_of n (leaf m) = spins m
flag_of n (join a b A) = false
flag_of n (hide a A) = any_of (λ x. included n (first_of x) A) (list_of n a)
flag_of n (rename a f) = false

-- each entry is below all that follow it
unfoldable pub Ascending : List ℕ → Type 0
Ascending [] = Unit {0}
Ascending (x ∷ xs) = ((y : ℕ) → Memᴰ y xs → x < y) × Ascending xs

-- xs is the list of the node: ascending, with exactly the listed pairs
pub record IsListOf (n : ℕ) (t : Network) (xs : List ℕ) : Type 0 where
  pub ascending : Ascending xs
  pub all_listed : (F C : ℕ) → Listed n t F C → Memᴰ (pack F C) xs
  pub only_listed : (x : ℕ) → Memᴰ x xs → Listed n t (first_of x) (second_of x)

-- A node of a readable file: its operands' lists in the working area, its list by its record, and its section once the
-- list is stored. Assumes nothing.
use Rattle.std.specs.Prelude.{◌≡◌, true, false, cond, List, [], map, ℕ, ◌*◌, ◌^◌, ◌<◌, ltb, length, take, drop, get_or}
use Rattle.std.specs.Prelude.{Option, Some, None}
use Rattle.network.specs.Network.{leaf, TargetsBelow}
use Rattle.network.specs.Model.{Model, idle}
use Rattle.network.specs.Lists.{in_order, join_candidates, hide_candidate, rename_candidate, list_of}
use Rattle.network.specs.Verdict.{most_pairs}
use Rattle.records.specs.declared.Record.{Record}
use Rattle.records.specs.Kinds.{leaf_kind, join_kind, hide_kind, rename_kind, is}
use Rattle.entries.specs.Entries.{AllInside, KeepsOthers}
use Rattle.filling.specs.Building.{padded, stored}

-- the operands that node record r names are below k
pub record Placed (r : Record) (k : ℕ) : Type 0 where
  pub left_below : is leaf_kind r ≡ false → r.left < k
  pub right_below : is join_kind r ≡ true → r.right < k

-- the list of node i in an area: the first pairs of its section, as many as its count says
unfoldable pub list_at : List ℕ → List ℕ → ℕ → List ℕ
list_at counts area i = take (get_or counts i 0) (drop (most_pairs * i) area)

-- the left operand's list of node record r, by the counts of the nodes' lists and their area
unfoldable pub left_of : Record → List ℕ → List ℕ → List ℕ
left_of r counts area = cond (is leaf_kind r) [] (list_at counts area r.left)

-- and the right one's
unfoldable pub right_of : Record → List ℕ → List ℕ → List ℕ
right_of r counts area = cond (is join_kind r) (list_at counts area r.right) []

-- the list at model M's node of record r whose operands' lists are xs and ys
unfoldable pub list_for : Model → Record → List ℕ → List ℕ → List ℕ
list_for M r xs ys =
    cond (is leaf_kind r) (list_of M.events (leaf (get_or M.machines r.number idle)))
    (cond (is join_kind r) (in_order (join_candidates M.events r.set xs ys))
    (cond (is hide_kind r) (in_order (map (hide_candidate M.events r.set) xs))
    (in_order (map (rename_candidate M.events r.targets) xs))))

-- r is a node record in range of model M, and xs and ys are lists of its pairs
pub record NodeReady (M : Model) (r : Record) (xs ys : List ℕ) : Type 0 where
  pub other_kind : is leaf_kind r ≡ false → is join_kind r ≡ false → is hide_kind r ≡ false → is rename_kind r ≡ true
  pub machine_in : is leaf_kind r ≡ true → r.number < length M.machines
  pub set_in : is hide_kind r ≡ true → r.set < 2 ^ M.events
  pub targets_in : is rename_kind r ≡ true → TargetsBelow M.events r.targets × KeepsOthers M.events r.targets
  pub left_inside : AllInside M.events xs
  pub right_inside : AllInside M.events ys

-- how many pairs count once the list xs is built for a node: all, but none where there are more than 256
unfoldable pub built_count : List ℕ → Option ℕ
built_count xs = cond (ltb most_pairs (length xs)) None (Some (length xs))

-- the sections from the node's own on, which was an area, once the list xs is built: its pairs and zeros in the first
-- one, but all as it was where there are more than 256
unfoldable pub built_in : List ℕ → List ℕ → List ℕ
built_in xs area = cond (ltb most_pairs (length xs)) area (stored (padded xs) area)

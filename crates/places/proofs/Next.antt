-- The nodes of a readable file stand one behind another, behind all records that are no nodes.
-- Assumes nothing.
use Rattle.std.proofs.Common.{◌≡◌, refl, ap, ◌∙◌, true, false, List, [], ◌∷◌, ◌++◌, append_assoc, ℕ, zero, suc}
use Rattle.std.proofs.Common.{◌+◌, ◌<◌, arith, length, get_or}
use mathlib.Core.List.{map, flat_map}
use Rattle.network.specs.Machine.{Machine, Step, step}
use Rattle.network.specs.Model.{Node, leaf_node, join_node, hide_node, rename_node}
use Rattle.records.specs.declared.Record.{Record}
use Rattle.records.specs.Kinds.{size_of, is_node}
use Rattle.records.specs.Records.{header_record, end_record}
use Rattle.decoding.specs.Bytes.{AreBytes}
use Rattle.reader.specs.Scan.{readable, says}
use Rattle.reader.specs.File.{records_of, file_model}
use Rattle.reader.specs.Encoding.{record_of_step, records_of_machine, record_of_node, model_records}
use Rattle.reader.proofs.OneEncoding.{file_listing}
use Rattle.places.specs.Finding.{place_in, node_place, record_at}
use Rattle.places.proofs.Seeking.{found_here, place_behind, place_next}
use Rattle.places.proofs.Found.{node_kind_found}

-- no record of them is a node
unfoldable pub NoNode : List Record → Type 0
NoNode [] = Unit {0}
NoNode (r ∷ rs) = (is_node r ≡ false) × NoNode rs

none_append : (rs qs : List Record) → NoNode rs → NoNode qs → NoNode (rs ++ qs)
unfolding NoNode
none_append [] qs a b = b
none_append (r ∷ rs) qs a b = (a.0, none_append rs qs a.1 b)

steps_none : (xs : List Step) → NoNode (map record_of_step xs)
unfolding NoNode map record_of_step
steps_none [] = tt
steps_none (step s l t ∷ xs) = (refl, steps_none xs)

machines_none : (ms : List Machine) → NoNode (flat_map records_of_machine ms)
unfolding NoNode flat_map records_of_machine
machines_none [] = tt
machines_none (m ∷ ms) = (
  refl,
  none_append (map record_of_step m.steps) (flat_map records_of_machine ms) (steps_none m.steps)
      (machines_none ms),
)

-- the records of the file s: some that are no nodes, its nodes, an end
pub record NodesStand (s : List ℕ) : Type 0 where
  pub front : List Record
  pub count : ℕ
  pub none : NoNode front
  pub listed : records_of s ≡ front ++ (map record_of_node (file_model s).nodes ++ (end_record count ∷ []))

pub nodes_stand : (s : List ℕ) → AreBytes s → says s ≡ readable → NodesStand s
unfolding NoNode model_records file_model
nodes_stand s y e =
    let l = (file_listing s y e).listing in
    let header = header_record (file_model s).events in
    let machines = flat_map records_of_machine (file_model s).machines in
    record {
      front = header ∷ machines;
      count = l.count;
      none = (refl, machines_none (file_model s).machines);
      listed =
          l.listed
          ∙ ap (λ (rs : List Record). header ∷ rs)
          (append_assoc machines (map record_of_node (file_model s).nodes) (end_record l.count ∷ []));
    }

pub node_is_node : (x : Node) → is_node (record_of_node x) ≡ true
unfolding record_of_node
node_is_node (leaf_node i) = refl
node_is_node (join_node i j A) = refl
node_is_node (hide_node i A) = refl
node_is_node (rename_node i f) = refl

-- where nodes stand one behind another, each begins where the one before it ends
module _ (tail : List Record) where
  abbrev from : List Node → List Record
  from xs = map record_of_node xs ++ tail

  nodes_next : (xs : List Node) (k : ℕ) → suc k < length xs
      → place_in is_node (from xs) k + size_of (record_of_node (get_or xs k (leaf_node 0))).kind
      ≡ place_in is_node (from xs) (suc k)
  unfolding map
  nodes_next [] k h = absurd (omega arith)
  nodes_next (x ∷ []) k h = absurd (omega arith)
  nodes_next (x ∷ x' ∷ xs) zero h =
      let here = found_here is_node (record_of_node x) (from (x' ∷ xs)) 0 (rw (node_is_node x)) in
      let next = found_here is_node (record_of_node x') (from xs) 0 (rw (node_is_node x')) in
      omega (arith, here, next, place_next is_node (record_of_node x) (from (x' ∷ xs)) 0 (node_is_node x))
  nodes_next (x ∷ x' ∷ xs) (suc k) h =
      let here = place_next is_node (record_of_node x) (from (x' ∷ xs)) k (node_is_node x) in
      let next = place_next is_node (record_of_node x) (from (x' ∷ xs)) (suc k) (node_is_node x) in
      omega (arith, here, next, nodes_next (x' ∷ xs) k (omega arith))

  -- so it is behind any records that are no nodes
  behind_next : (front : List Record) (xs : List Node) (k : ℕ) → NoNode front → suc k < length xs
      → place_in is_node (front ++ from xs) k + size_of (record_of_node (get_or xs k (leaf_node 0))).kind
      ≡ place_in is_node (front ++ from xs) (suc k)
  unfolding NoNode
  behind_next [] xs k a h = nodes_next xs k h
  behind_next (p ∷ front) xs k a h =
      let here = place_behind is_node p (front ++ from xs) k a.0 in
      let next = place_behind is_node p (front ++ from xs) (suc k) a.0 in
      omega (arith, here, next, behind_next front xs k a.1 h)

-- node k + 1 of a readable file begins where node k ends
pub next_node : (s : List ℕ) → AreBytes s → says s ≡ readable → (k : ℕ) → suc k < length (file_model s).nodes
    → node_place s k + size_of (record_at s (node_place s k)).kind ≡ node_place s (suc k)
unfolding node_place
next_node s y e k h =
    let w = nodes_stand s y e in
    rw (node_kind_found s k (omega arith), w.listed)
    (behind_next (end_record w.count ∷ []) w.front (file_model s).nodes k w.none h)

-- The walk over the nodes of a readable file finds them all, in order, and stops behind the last. Assumes nothing.
use Rattle.std.proofs.Common.{◌≡◌, refl, sym, ap, ◌∙◌, true, false, List, [], ◌∷◌, ◌++◌, map, ℕ, zero, suc, ◌+◌}
use Rattle.std.proofs.Common.{◌<◌, ◌≤◌, arith, eqb, length, drop, get_or, drop-drop, eq-eqb, ne_eqb}
use Rattle.network.specs.Model.{Node, leaf_node, join_node, hide_node, rename_node}
use Rattle.records.specs.declared.Record.{Record}
use Rattle.records.specs.Kinds.{end_kind, size_of, is_node}
use Rattle.records.specs.Records.{end_record}
use Rattle.decoding.specs.Bytes.{AreBytes, byte, first_record}
use Rattle.decoding.proofs.Bytes.{first_kind}
use Rattle.reader.specs.Scan.{readable, says}
use Rattle.reader.specs.File.{records_from, records_of, file_model}
use Rattle.places.specs.Finding.{place_in, node_place}
use Rattle.reader.specs.Encoding.{record_of_node}
use Rattle.reader.proofs.Records.{none_left, records_next}
use Rattle.places.proofs.Seeking.{found_here, place_behind}
use Rattle.places.proofs.Next.{NoNode, nodes_stand, node_is_node}
use Rattle.reader.proofs.Turns.{rest}
use Rattle.reader.proofs.Formed.{model_formed}
use Rattle.analysis.specs.Promise.{section}
use Rattle.report.specs.Printed.{kind_of, in_turn}
use Rattle.console.proofs.FromArea.{node_kind, kind_found}
use Rattle.console.specs.Output.{text_of}
use Rattle.console.specs.Walking.{walked}
use Rattle.console.specs.Promise.{section_text, WalkFindsNodes}

-- a record that stands first among those of some bytes
record Next (f : ℕ) (b : List ℕ) (r : Record) (rs : List Record) : Type 0 where
  fuel : ℕ
  some : 0 < length b
  here : first_record b ≡ r
  kind : byte b 0 ≡ r.kind
  behind : records_from fuel (drop (size_of r.kind) b) ≡ rs

next : (f : ℕ) (b : List ℕ) (r : Record) (rs : List Record) → records_from f b ≡ r ∷ rs → Next f b r rs
unfolding records_from
next zero b r rs q = let z : ◌≡◌ {A = ℕ} 0 1 = cc in absurd (omega arith)
next (suc f) [] r rs q =
    let e = sym (none_left (suc f) [] refl) ∙ q in
    let z : ◌≡◌ {A = ℕ} 0 1 = cc in absurd (omega arith)
next (suc f) (y ∷ t) r rs q =
    let e : first_record (y ∷ t) ∷ records_from f (rest (y ∷ t)) ≡ r ∷ rs =
    sym (records_next f (y ∷ t) (omega arith)) ∙ q in
    let h : first_record (y ∷ t) ≡ r = cc in
    let k : (first_record (y ∷ t)).kind ≡ r.kind = ap (λ (x : Record). x.kind) h in
    record {
      fuel = f;
      some = omega arith;
      here = h;
      kind = sym (first_kind y t) ∙ k;
      behind = ap (λ (n : ℕ). records_from f (drop (size_of n) (y ∷ t))) (sym k) ∙ cc;
    }

-- the texts of some nodes in turn, from number k on
each_node : List ℕ → List Node → ℕ → List ℕ
each_node area [] k = []
each_node area (x ∷ xs) k = text_of k (kind_of x) (section area k) ++ each_node area xs (suc k)

node_no_end : (x : Node) → eqb (kind_of x) end_kind ≡ false
unfolding kind_of
node_no_end (leaf_node i) = refl
node_no_end (join_node i j A) = refl
node_no_end (hide_node i A) = refl
node_no_end (rename_node i f) = refl

-- the walk over bytes whose records are those of some nodes and an end
walk_is : (area : List ℕ) (xs : List Node) (f fuel : ℕ) (b : List ℕ) (k x : ℕ)
    → records_from f b ≡ map record_of_node xs ++ (end_record x ∷ []) → length xs < fuel
    → walked fuel area b k ≡ each_node area xs k
unfolding walked each_node
walk_is area xs f zero b k x q h = absurd (omega arith)
walk_is area [] f (suc fuel) b k x q h =
    let n = next f b (end_record x) [] q in
    rw (ne_eqb (length b) 0 (λ z. omega (arith, n.some)), eq-eqb (byte b 0) end_kind n.kind)
walk_is area (y ∷ xs) f (suc fuel) b k x q h =
    let n = next f b (record_of_node y) (map record_of_node xs ++ (end_record x ∷ [])) q in
    let e : byte b 0 ≡ kind_of y = n.kind ∙ node_kind y in
    let i = walk_is area xs n.fuel fuel (drop (size_of (record_of_node y).kind) b) (suc k) x n.behind
    (omega arith) in
    rw (ne_eqb (length b) 0 (λ z. omega (arith, n.some)), e, node_no_end y)
    (ap (λ (t : List ℕ). text_of k (kind_of y) (section area k) ++ t)
    (ap (λ (m : ℕ). walked fuel area (drop (size_of m) b) (suc k)) (sym (node_kind y)) ∙ i))

-- the records from the first node on
first_node : (front : List Record) (r : Record) (rs : List Record) (f : ℕ) (b : List ℕ) → NoNode front
    → is_node r ≡ true → records_from f b ≡ front ++ (r ∷ rs)
    → (f' : ℕ) × (records_from f' (drop (place_in is_node (front ++ (r ∷ rs)) 0) b) ≡ r ∷ rs)
unfolding NoNode
first_node [] r rs f b a n q =
    let z : place_in is_node (r ∷ rs) 0 ≡ 0 = found_here is_node r rs 0 (rw n) in
    (f, ap (λ (m : ℕ). records_from f (drop m b)) z ∙ q)
first_node (p ∷ front) r rs f b a n q =
    let w = next f b p (front ++ (r ∷ rs)) q in
    let i = first_node front r rs w.fuel (drop (size_of p.kind) b) a.1 n w.behind in
    let place = place_in is_node (front ++ (r ∷ rs)) 0 in
    let z : place_in is_node (p ∷ (front ++ (r ∷ rs))) 0 ≡ size_of p.kind + place_in is_node (front ++ (r ∷ rs)) 0 =
    place_behind is_node p (front ++ (r ∷ rs)) 0 a.0 in (
      i.0,
      ap (λ (m : ℕ). records_from i.0 (drop m b)) z
          ∙ ap (records_from i.0) (sym (drop-drop place (size_of p.kind) b)) ∙ i.1,
    )

-- texts in turn, by the nodes' list
in_turn_lem : (area : List ℕ) (f : ℕ → List ℕ) (xs : List Node) (k : ℕ)
    → ((i : ℕ) → i < length xs → f (k + i) ≡ text_of (k + i) (kind_of (get_or xs i (leaf_node 0))) (section area (k + i)))
    → each_node area xs k ≡ in_turn f k (length xs)
unfolding each_node in_turn
in_turn_lem area f [] k h = refl
in_turn_lem area f (x ∷ xs) k h =
    let z : k + 0 ≡ k = omega arith in
    let first : f k ≡ text_of k (kind_of x) (section area k) = rw z at (h zero (omega arith)) in
    let later = in_turn_lem area f xs (suc k)
    (λ i l. let q : k + suc i ≡ suc k + i = omega arith in rw q at (h (suc i) (omega arith))) in
    ap (λ (t : List ℕ). t ++ each_node area xs (suc k)) (sym first) ∙ ap (λ (t : List ℕ). f k ++ t) later

-- the walk from the first node of a file whose records are some that are no nodes, nodes, and an end
from_first : (s area : List ℕ) (fuel : ℕ) (xs : List Node) (front : List Record) (x : ℕ) → NoNode front
    → 0 < length xs → length xs < fuel → records_of s ≡ front ++ (map record_of_node xs ++ (end_record x ∷ []))
    → walked fuel area (drop (node_place s 0) s) 0 ≡ each_node area xs 0
unfolding node_place records_of
from_first s area fuel [] front x none some few q = absurd (omega arith)
from_first s area fuel (n ∷ xs) front x none some few q =
    let tail = map record_of_node xs ++ (end_record x ∷ []) in
    let w = first_node front (record_of_node n) tail (length s) s none (node_is_node n) q in
    ap (λ (rs : List Record). walked fuel area (drop (place_in is_node rs 0) s) 0) q
    ∙ walk_is area (n ∷ xs) w.0 fuel (drop (place_in is_node (front ++ (record_of_node n ∷ tail)) 0) s) 0 x w.1
    (omega arith)

-- a node's text from the file and the area, by the node's kind
node_said : (s area : List ℕ) (i : ℕ) → i < length (file_model s).nodes
    → section_text s area (0 + i)
    ≡ text_of (0 + i) (kind_of (get_or (file_model s).nodes i (leaf_node 0))) (section area (0 + i))
unfolding section_text text_of
node_said s area i h =
    let z : 0 + i ≡ i = omega arith in
    rw z (ap (λ (kind : ℕ). text_of i kind (section area i)) (kind_found s i h))

-- any 33 records or more suffice
pub walk_suffices : (s area : List ℕ) (fuel : ℕ) → 33 ≤ fuel → AreBytes s → says s ≡ readable
    → walked fuel area (drop (node_place s 0) s) 0 ≡ in_turn (section_text s area) 0 (length (file_model s).nodes)
walk_suffices s area fuel h y e =
    let w = nodes_stand s y e in
    let M = file_model s in
    let formed = model_formed s y e in
    from_first s area fuel M.nodes w.front w.count w.none formed.well_formed.some_node
    (omega (arith, formed.within_limits.nodes_limit.1)) w.listed
    ∙ in_turn_lem area (section_text s area) M.nodes 0 (node_said s area)

pub walk_finds_nodes : WalkFindsNodes
unfolding WalkFindsNodes
walk_finds_nodes s area y e = walk_suffices s area 33 (omega arith) y e

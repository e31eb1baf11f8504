-- How long a model's encoding is: header 2, twelve machines 24, 512 steps 2,048, one leaf and 31 renames 560, end 3.
-- Assumes nothing.
use Rattle.std.proofs.Common.{◌≡◌, refl, sym, ap, List, [], ◌∷◌, ℕ, ◌+◌, ◌*◌, ◌≤◌, arith, length, length-append}
use mathlib.Core.List.{map, flat_map, Memᴰ}
use Rattle.network.specs.Machine.{Step, step, Machine}
use Rattle.network.specs.Model.{Node, leaf_node, join_node, hide_node, rename_node, Model, own_machine, leaf_machines}
use Rattle.network.specs.Limits.{step_total}
use Rattle.decoding.specs.Bytes.{AreBytes, bytes_of}
use Rattle.records.specs.Records.{end_record}
use Rattle.reader.specs.Scan.{readable, says}
use Rattle.reader.specs.File.{file_model}
use Rattle.reader.specs.Encoding.{record_of_step, records_of_machine, record_of_node, model_records, bytes_of_all}
use Rattle.reader.specs.Encoding.{encode, TargetsFilled, Encodable}
use Rattle.reader.proofs.OneEncoding.{bytes_append, one_encoding}
use Rattle.reader.proofs.Formed.{model_formed}

steps_size : (xs : List Step) → length (bytes_of_all (map record_of_step xs)) ≡ 4 * length xs
unfolding flat_map record_of_step bytes_of
steps_size [] = refl
steps_size (step s l t ∷ xs) = omega (arith, steps_size xs)

machine_size : (m : Machine) → length (bytes_of_all (records_of_machine m)) ≡ 2 + 4 * length m.steps
unfolding flat_map records_of_machine bytes_of
machine_size m = omega (arith, steps_size m.steps)

machines_size : (ms : List Machine)
    → length (bytes_of_all (flat_map records_of_machine ms)) ≡ 2 * length ms + 4 * step_total ms
unfolding flat_map step_total
machines_size [] = refl
machines_size (m ∷ ms) =
    omega (
      arith,
      ap length (bytes_append (records_of_machine m) (flat_map records_of_machine ms)),
      length-append (bytes_of_all (records_of_machine m)) (bytes_of_all (flat_map records_of_machine ms)),
      machine_size m,
      machines_size ms,
    )

-- a node has at least 2 bytes; a leaf has 2, and no node more than 18
node_size : (n : ℕ) (x : Node) (ms : List Machine) → ((i : ℕ) (f : List ℕ) → x ≡ rename_node i f → TargetsFilled n f)
    → (2 ≤ length (bytes_of (record_of_node x))) × (length (bytes_of (record_of_node x)) + 16 * length (own_machine ms x) ≤ 18)
unfolding record_of_node bytes_of own_machine TargetsFilled
node_size n (leaf_node i) ms f = (omega arith, omega arith)
node_size n (join_node i j A) ms f = (omega arith, omega arith)
node_size n (hide_node i A) ms f = (omega arith, omega arith)
node_size n (rename_node i t) ms f = let h = (f i t refl).0 in (omega arith, omega (arith, h))

nodes_size : (n : ℕ) (xs : List Node) (ms : List Machine)
    → ((i : ℕ) (f : List ℕ) → Memᴰ (rename_node i f) xs → TargetsFilled n f)
    → (2 * length xs ≤ length (bytes_of_all (map record_of_node xs)))
    × (length (bytes_of_all (map record_of_node xs)) + 16 * length (flat_map (own_machine ms) xs) ≤ 18 * length xs)
unfolding flat_map
nodes_size n [] ms f = (omega arith, omega arith)
nodes_size n (x ∷ xs) ms f =
    let a = node_size n x ms (λ i t q. f i t (Memᴰ.head (sym q))) in
    let i = nodes_size n xs ms (λ i t m. f i t (Memᴰ.tail m)) in
    let l = length-append (bytes_of (record_of_node x)) (bytes_of_all (map record_of_node xs)) in
    let k = length-append (own_machine ms x) (flat_map (own_machine ms) xs) in
    (omega (arith, a.0, i.0, l), omega (arith, a.1, i.1, l, k))

-- the bytes before the end
body_size : (M : Model) → length (bytes_of_all (model_records M))
    ≡ 2 + length (bytes_of_all (flat_map records_of_machine M.machines)) + length
    (bytes_of_all (map record_of_node M.nodes))
unfolding model_records flat_map bytes_of
body_size M =
    omega (
      arith,
      ap length (bytes_append (flat_map records_of_machine M.machines) (map record_of_node M.nodes)),
      length-append (bytes_of_all (flat_map records_of_machine M.machines)) (bytes_of_all (map record_of_node M.nodes)),
    )

pub encode_size : (M : Model) → Encodable M → (9 ≤ length (encode M)) × (length (encode M) ≤ 2637)
unfolding encode bytes_of leaf_machines
encode_size M e =
    let b = bytes_of_all (model_records M) in
    let l = length-append b (bytes_of (end_record (length b))) in
    let w = e.within_limits in
    let s = nodes_size M.events M.nodes M.machines e.targets_filled in
    let m = machines_size M.machines in
    let z = body_size M in (
      omega (arith, l, z, m, s.0, w.machines_limit.0, w.nodes_limit.0),
      omega (arith, l, z, m, s.1, w.machines_limit.1, w.steps_limit, w.nodes_limit.1, w.leaves_limit.0),
    )

pub size_limits : (s : List ℕ) → AreBytes s → says s ≡ readable → (9 ≤ length s) × (length s ≤ 2637)
size_limits s y e =
    let q = encode_size (file_model s) (model_formed s y e) in
    let z : length (encode (file_model s)) ≡ length s = ap length (one_encoding s y e) in
    (omega (arith, q.0), omega (arith, q.1))

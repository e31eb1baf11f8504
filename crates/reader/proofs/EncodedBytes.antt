-- The encoding of a model that a file can say consists of bytes, and each of its records decodes.
-- Assumes nothing.
use Rattle.std.proofs.Common.{◌≡◌, refl, List, [], ◌∷◌, ◌++◌, ℕ, zero, suc, ◌+◌, ◌/◌, ◌%◌, ◌≤◌, ◌<◌, arith}
use Rattle.std.proofs.Common.{length, get_or, pow_mono}
use mathlib.Core.List.{map, flat_map, Memᴰ}
use native.Mathlib.Decide.{dec_lt}
use lib.ListN.{get_or-eq_default}
use Rattle.network.specs.Machine.{Step, step, Machine, MachineFormed, StepFormed}
use Rattle.network.specs.Network.{TargetsBelow}
use Rattle.network.specs.Model.{Node, leaf_node, join_node, hide_node, rename_node, NodeFormed}
use Rattle.decoding.specs.Bytes.{byte, AreBytes, two_bytes, bytes_of}
use Rattle.records.specs.Records.{machine_record}
use Rattle.decoding.proofs.Decodes.{Decodes, decodes_machine, decodes_step, decodes_leaf, decodes_join, decodes_hide}
use Rattle.decoding.proofs.Decodes.{decodes_rename}
use Rattle.reader.specs.Encoding.{code_of, record_of_step, records_of_machine, record_of_node, bytes_of_all}
use Rattle.reader.specs.Encoding.{TargetsFilled}
use Rattle.reader.proofs.OneEncoding.{bytes_append}
use Rattle.reader.proofs.ScanBack.{AllDecode, decode_append}
use Rattle.reader.proofs.StepKeys.{code_below}
use Rattle.std.proofs.lemmas.List.{get_or_default}
use Rattle.reader.proofs.NodePhase.{NodeFilled, NodesFit}
use Rattle.reader.proofs.NodesPass.{fit_tail}

-- bytes one behind another
pub bytes_nil : AreBytes []
unfolding AreBytes
bytes_nil i = omega arith

pub bytes_cons : (x : ℕ) (xs : List ℕ) → x < 256 → AreBytes xs → AreBytes (x ∷ xs)
unfolding AreBytes
bytes_cons x xs h w zero = h
bytes_cons x xs h w (suc i) = w i

pub bytes_both : (xs ys : List ℕ) → AreBytes xs → AreBytes ys → AreBytes (xs ++ ys)
unfolding AreBytes
bytes_both [] ys v w i = w i
bytes_both (x ∷ xs) ys v w zero = v zero
bytes_both (x ∷ xs) ys v w (suc i) = bytes_both xs ys (λ j. v (suc j)) w i

pub bytes_two : (x : ℕ) → x < 65536 → AreBytes (two_bytes x)
bytes_two x h = bytes_cons (x % 256) (x / 256 ∷ []) (omega arith) (bytes_cons (x / 256) [] (omega arith) bytes_nil)

steps_bytes : (n c : ℕ) (xs : List Step) → n ≤ 16 → c ≤ 32 → ((x : Step) → Memᴰ x xs → StepFormed n c x)
    → AreBytes (bytes_of_all (map record_of_step xs)) × AllDecode (map record_of_step xs)
unfolding flat_map record_of_step bytes_of StepFormed AllDecode
steps_bytes n c [] hn hc f = (bytes_nil, tt)
steps_bytes n c (step s l t ∷ xs) hn hc f =
    let w = f (step s l t) (Memᴰ.head refl) in
    let i = steps_bytes n c xs hn hc (λ x m. f x (Memᴰ.tail m)) in
    let own : AreBytes (3 ∷ s ∷ code_of l ∷ t ∷ []) =
    bytes_cons 3 _ (omega arith)
    (bytes_cons s _ (omega (arith, w.0))
    (bytes_cons (code_of l) _ (code_below n l hn w.2) (bytes_cons t [] (omega (arith, w.1)) bytes_nil))) in (
      bytes_both (3 ∷ s ∷ code_of l ∷ t ∷ []) (bytes_of_all (map record_of_step xs)) own i.0,
      (decodes_step s (code_of l) t, i.1),
    )

machine_bytes : (c : ℕ) → c < 256 → AreBytes (bytes_of (machine_record c))
unfolding bytes_of
machine_bytes c h = bytes_cons 2 (c ∷ []) (omega arith) (bytes_cons c [] h bytes_nil)

pub machines_bytes : (n : ℕ) (ms : List Machine) → n ≤ 16
    → ((m : Machine) → Memᴰ m ms → MachineFormed n m × (m.states ≤ 32))
    → AreBytes (bytes_of_all (flat_map records_of_machine ms)) × AllDecode (flat_map records_of_machine ms)
unfolding flat_map records_of_machine AllDecode
machines_bytes n [] hn f = (bytes_nil, tt)
machines_bytes n (m ∷ ms) hn f =
    let w = f m (Memᴰ.head refl) in
    let s = steps_bytes n m.states m.steps hn w.1 w.0.every_step in
    let i = machines_bytes n ms hn (λ y k. f y (Memᴰ.tail k)) in
    let own : AreBytes (bytes_of (machine_record m.states) ++ bytes_of_all (map record_of_step m.steps)) =
    bytes_both (bytes_of (machine_record m.states)) (bytes_of_all (map record_of_step m.steps))
    (machine_bytes m.states (omega (arith, w.1))) s.0 in (
      rw (bytes_append (records_of_machine m) (flat_map records_of_machine ms))
          (bytes_both (bytes_of_all (records_of_machine m)) (bytes_of_all (flat_map records_of_machine ms)) own i.0),
      (
        decodes_machine m.states,
        decode_append (map record_of_step m.steps) (flat_map records_of_machine ms) s.1
            i.1,
      ),
    )

targets_bytes : (n : ℕ) (f : List ℕ) → n ≤ 16 → TargetsBelow n f → TargetsFilled n f → AreBytes f
unfolding AreBytes TargetsBelow TargetsFilled
targets_bytes n f hn b (h, filled) i = go (dec_lt i n) (dec_lt i 16)
  where
    go : Dec (i < n) → Dec (i < 16) → byte f i < 256
    go (yes l) d = let q : byte f i ≡ get_or f i i = get_or_default f i 0 i (omega arith) in omega (arith, q, b i l)
    go (no l) (yes k) = omega (arith, filled i (omega (arith, l)) k)
    go (no l) (no k) = let q : byte f i ≡ 0 = get_or-eq_default f 0 (omega (arith, k)) in omega arith

node_bytes : (n c k : ℕ) (x : Node) → n ≤ 16 → c ≤ 12 → k ≤ 32 → NodeFormed n c k x → NodeFilled n x
    → AreBytes (bytes_of (record_of_node x)) × Decodes (record_of_node x)
unfolding record_of_node bytes_of NodeFormed NodeFilled TargetsFilled
node_bytes n c k (leaf_node i) hn hc hk f t =
    (bytes_cons 4 (i ∷ []) (omega arith) (bytes_cons i [] (omega (arith, f)) bytes_nil), decodes_leaf i)
node_bytes n c k (join_node i j A) hn hc hk f t =
    let p = pow_mono {i = n} {j = 16} hn in (
      bytes_cons 5 (i ∷ j ∷ two_bytes A) (omega arith)
          (bytes_cons i (j ∷ two_bytes A) (omega (arith, f.0))
          (bytes_cons j (two_bytes A) (omega (arith, f.1)) (bytes_two A (omega (arith, f.2, p))))),
      decodes_join i j A,
    )
node_bytes n c k (hide_node i A) hn hc hk f t =
    let p = pow_mono {i = n} {j = 16} hn in (
      bytes_cons 6 (i ∷ two_bytes A) (omega arith)
          (bytes_cons i (two_bytes A) (omega (arith, f.0)) (bytes_two A (omega (arith, f.1, p)))),
      decodes_hide i A,
    )
node_bytes n c k (rename_node i s) hn hc hk f t = (
  bytes_cons 7 (i ∷ s) (omega arith) (bytes_cons i s (omega (arith, f.0)) (targets_bytes n s hn f.1 t)),
  decodes_rename i s t.0,
)

pub nodes_bytes : (n c k : ℕ) (xs : List Node) → n ≤ 16 → c ≤ 12 → k + length xs ≤ 32 → NodesFit n c k xs
    → AreBytes (bytes_of_all (map record_of_node xs)) × AllDecode (map record_of_node xs)
unfolding flat_map AllDecode
nodes_bytes n c k [] hn hc hk f = (bytes_nil, tt)
nodes_bytes n c k (x ∷ xs) hn hc hk f =
    let z : k + 0 ≡ k = omega arith in
    let w = node_bytes n c k x hn hc (omega arith) (rw z at (f.formed 0 (omega arith)))
    (f.filled x (Memᴰ.head refl)) in
    let i = nodes_bytes n c (k + 1) xs hn hc (omega arith) (fit_tail n c k x xs f) in
    (bytes_both (bytes_of (record_of_node x)) (bytes_of_all (map record_of_node xs)) w.0 i.0, (w.1, i.1))

-- Nodes: records that meet no test are nodes in range whose operands are free, and the other way round.
-- Assumes nothing.
use Rattle.std.proofs.Common.{◌≡◌, refl, List, [], ◌∷◌, ℕ, zero, suc, ◌+◌, ◌≤◌, ◌<◌, arith, length, get_or}
use mathlib.Core.List.{map, Memᴰ}
use mathlib.Core.List.Memᴰ
use Rattle.network.specs.Model.{Node, leaf_node, join_node, hide_node, rename_node, NodeFormed}
use Rattle.progress.specs.declared.Progress.{Progress}
use Rattle.records.specs.Kinds.{size_of}
use Rattle.records.specs.Records.{leaf_record, join_record, hide_record, rename_record}
use Rattle.progress.specs.Progress.{take_record}
use Rattle.tests.specs.FirstHit.{first_hit}
use Rattle.tests.proofs.Passing.{passed_out}
use Rattle.tests.proofs.Meeting.{leaf_out, join_out, hide_out, rename_out}
use Rattle.decoding.proofs.Shapes.{Plain}
use Rattle.reader.specs.Encoding.{record_of_node, TargetsFilled}
use Rattle.reader.proofs.Passes.{Passes}
use Rattle.reader.proofs.Plain.{AllPlain}
use Rattle.reader.proofs.Ranges.{set_out, targets_out}
use Rattle.reader.proofs.StepPhase.{all_cons}
use Rattle.reader.proofs.NodeAfter.{after_node, operands_free, AllFree}
use Rattle.std.specs.Prelude.{Ok}

-- the targets of a rename are filled up
unfoldable pub NodeFilled : ℕ → Node → Type 0
NodeFilled n (leaf_node i) = Unit {0}
NodeFilled n (join_node i j A) = Unit {0}
NodeFilled n (hide_node i A) = Unit {0}
NodeFilled n (rename_node i f) = TargetsFilled n f

node_out : (g : Progress) (x : Node) → g.n ≤ 16 → Plain (record_of_node x)
    → first_hit g (record_of_node x) (size_of (record_of_node x).kind) ≡ Ok tt
    → NodeFormed g.n g.machines g.nodes x × NodeFilled g.n x
unfolding record_of_node NodeFormed NodeFilled
node_out g (leaf_node i) hn p w =
    let r = leaf_record i in
    let m = leaf_out g r (size_of r.kind) (passed_out g r (size_of r.kind) w) refl in
    (m.machine_below, tt)
node_out g (join_node i j A) hn p w =
    let r = join_record i j A in
    let m = join_out g r (size_of r.kind) (passed_out g r (size_of r.kind) w) refl in
    ((m.left_free.earlier, m.right_free.earlier, set_out g.n A (omega (arith, p.set_below)) m.set_known), tt)
node_out g (hide_node i A) hn p w =
    let r = hide_record i A in
    let m = hide_out g r (size_of r.kind) (passed_out g r (size_of r.kind) w) refl in
    ((m.left_free.earlier, set_out g.n A (omega (arith, p.set_below)) m.set_known), tt)
node_out g (rename_node i f) hn p w =
    let r = rename_record i f in
    let m = rename_out g r (size_of r.kind) (passed_out g r (size_of r.kind) w) refl in
    let t = targets_out g.n f hn p.sixteen m.targets_known in
    ((m.left_free.earlier, t.0), t.1)

-- nodes from number k on, in range
pub record NodesFit (n c k : ℕ) (xs : List Node) : Type 0 where
  pub formed : (j : ℕ) → j < length xs → NodeFormed n c (k + j) (get_or xs j (leaf_node 0))
  pub filled : (x : Node) → Memᴰ x xs → NodeFilled n x

fit_cons : (n c k : ℕ) (x : Node) (xs : List Node) → NodeFormed n c k x × NodeFilled n x → NodesFit n c (k + 1) xs
    → NodesFit n c k (x ∷ xs)
fit_cons n c k x xs p i = record { formed = formed; filled = all_cons (NodeFilled n) x xs p.1 i.filled }
  where
    formed : (j : ℕ) → j < length (x ∷ xs) → NodeFormed n c (k + j) (get_or (x ∷ xs) j (leaf_node 0))
    formed zero l = let z : k + 0 ≡ k = omega arith in rw z p.0
    formed (suc j) l = let z : k + suc j ≡ k + 1 + j = omega arith in rw z (i.formed j (omega arith))

pub fit_along : (n n' c c' k k' : ℕ) (xs : List Node) → n ≡ n' → c ≡ c' → k ≡ k' → NodesFit n c k xs
    → NodesFit n' c' k' xs
fit_along n n' c c' k k' xs p q r f = rw (← p, ← q, ← r) f

pub nodes_out : (xs : List Node) (g : Progress) → g.n ≤ 16 → AllPlain (map record_of_node xs)
    → Passes g (map record_of_node xs)
    → NodesFit g.n g.machines g.nodes xs
unfolding AllPlain Passes
nodes_out [] g hn p w = record { formed = λ j l. absurd (omega arith); filled = λ x m. absurd (Memᴰ.not-nil m) }
nodes_out (x ∷ xs) g hn p w =
    let a = after_node g x [] in
    fit_cons g.n g.machines g.nodes x xs (node_out g x hn p.0 w.0)
    (fit_along _ _ _ _ _ _ xs a.n_same a.machines_same a.nodes_more
    (nodes_out xs (take_record g (record_of_node x)) (omega (arith, a.n_same)) p.1 w.1))

-- the operands of nodes that pass are free, each in its turn
pub nodes_free : (xs : List Node) (g : Progress) → g.nodes + length xs ≤ 32 → Passes g (map record_of_node xs)
    → AllFree g xs
unfolding AllFree Passes
nodes_free [] g h w = tt
nodes_free (x ∷ xs) g h w = (
  operands_free g x (omega arith) w.0,
  nodes_free xs (take_record g (record_of_node x)) (omega (arith, (after_node g x []).nodes_more)) w.1,
)

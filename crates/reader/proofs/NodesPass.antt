-- Nodes in range, each an operand at most once, pass the tests where there is room for them.
-- Assumes nothing.
use Rattle.std.proofs.lemmas.Bool.Decides.{nat_tests}
use Rattle.std.proofs.Common.{◌≡◌, refl, sym, ◌∙◌, false, ◌≢◌, List, [], ◌∷◌, ◌++◌, ℕ, suc, ◌+◌}
use Rattle.std.proofs.Common.{◌≤◌, ◌<◌, arith, length, get_or, length-append}
use mathlib.Core.List.Memᴰ
use mathlib.Core.List.{map, flat_map}
use Rattle.events.specs.Sets.{room, has, digit}
use Rattle.network.specs.Machine.{Machine}
use Rattle.network.specs.Model.{Node, leaf_node, join_node, hide_node, rename_node, NodeFormed, operands, times}
use Rattle.network.specs.Model.{own_machine}
use Rattle.progress.specs.declared.Progress.{Progress}
use Rattle.records.specs.Kinds.{size_of}
use Rattle.records.specs.Records.{leaf_record, join_record, hide_record, rename_record}
use Rattle.progress.specs.Progress.{take_record}
use Rattle.tests.specs.FirstHit.{first_hit}
use Rattle.tests.proofs.MayStand.{NodeMay, leaf_met, join_met, hide_met, rename_met}
use Rattle.tests.proofs.Passes.{met_in}
use Rattle.reader.specs.Encoding.{record_of_node}
use Rattle.reader.proofs.Passes.{Passes}
use Rattle.reader.proofs.Ranges.{set_in, targets_in}
use Rattle.reader.proofs.NodeAfter.{after_node, OperandsFree, used_node, times_append}
use Rattle.reader.proofs.NodePhase.{NodeFilled, NodesFit, fit_along}
use Rattle.std.specs.Prelude.{Ok}

-- each number is used or named at most once
abbrev pub OnceMore : Progress → List ℕ → Type 0
OnceMore g xs = (k : ℕ) → k < room → digit (has g.used k) + times k xs ≤ 1

-- an operand that is named is not used yet
free_first : (g : Progress) (i : ℕ) (xs : List ℕ) → i < room → OnceMore g (i ∷ xs) → has g.used i ≡ false
unfolding times
free_first g i xs h f = grind (arith, nat_tests, f i h)

free_second : (g : Progress) (i j : ℕ) (xs : List ℕ) → j < room → OnceMore g (i ∷ j ∷ xs) → has g.used j ≡ false
unfolding times
free_second g i j xs h f = grind (arith, nat_tests, f j h)

two_apart : (g : Progress) (i j : ℕ) (xs : List ℕ) → i < room → OnceMore g (i ∷ j ∷ xs) → i ≢ j
unfolding times
two_apart g i j xs h f e = grind (arith, nat_tests, f i h)

-- one node
module _ (g : Progress) (may : NodeMay g) (hn : g.n ≤ 16) where
  operands_once : (x : Node) (xs : List ℕ) → NodeFormed g.n g.machines g.nodes x
      → OnceMore g (operands x ++ xs) → OperandsFree g x
  unfolding NodeFormed operands OperandsFree
  operands_once (leaf_node i) xs f o = tt
  operands_once (join_node i j A) xs f o =
      let hi : i < room = omega (arith, f.0, may.node_room) in
      let hj : j < room = omega (arith, f.1, may.node_room) in
      (free_first g i (j ∷ xs) hi o, free_second g i j xs hj o, two_apart g i j xs hi o, hi, hj)
  operands_once (hide_node i A) xs f o =
      let hi : i < room = omega (arith, f.0, may.node_room) in (free_first g i xs hi o, hi)
  operands_once (rename_node i t) xs f o =
      let hi : i < room = omega (arith, f.0, may.node_room) in (free_first g i xs hi o, hi)

  node_passes : (x : Node) (ms : List Machine) → g.leaves + length (own_machine ms x) ≤ 12
      → NodeFormed g.n g.machines g.nodes x
      → NodeFilled g.n x → OperandsFree g x → first_hit g (record_of_node x) (size_of (record_of_node x).kind) ≡ Ok tt
  unfolding NodeFormed NodeFilled OperandsFree record_of_node own_machine
  node_passes (leaf_node i) ms few f t o =
      met_in g (leaf_record i) (leaf_met refl (record { may = may; leaf_room = omega arith; machine_below = f }))
  node_passes (join_node i j A) ms few f t o =
      met_in g (join_record i j A)
      (join_met refl
      (record {
        may = may;
        left_free = record { earlier = f.0; unused = o.0 };
        right_free = record { earlier = f.1; unused = o.1 };
        apart = o.2;
        set_known = set_in g.n A (omega arith) f.2;
      }))
  node_passes (hide_node i A) ms few f t o =
      met_in g (hide_record i A)
      (hide_met refl
      (record {
        may = may;
        left_free = record { earlier = f.0; unused = o.0 };
        set_known = set_in g.n A (omega arith) f.1;
      }))
  node_passes (rename_node i s) ms few f t o =
      met_in g (rename_record i s)
      (rename_met refl
      (record {
        may = may;
        left_free = record { earlier = f.0; unused = o.0 };
        targets_known = targets_in g.n s hn f.1 t;
      }))

pub fit_tail : (n c k : ℕ) (x : Node) (xs : List Node) → NodesFit n c k (x ∷ xs) → NodesFit n c (k + 1) xs
fit_tail n c k x xs f = record { formed = formed; filled = λ y m. f.filled y (Memᴰ.tail m) }
  where
    formed : (j : ℕ) → j < length xs → NodeFormed n c (k + 1 + j) (get_or xs j (leaf_node 0))
    formed j l = let z : k + 1 + j ≡ k + suc j = omega arith in rw z (f.formed (suc j) (omega arith))

pub nodes_in : (xs : List Node) (g : Progress) (ms : List Machine) → g.n ≢ 0 → g.machines ≢ 0 → g.n ≤ 16
    → g.nodes + length xs ≤ 32 → g.leaves + length (flat_map (own_machine ms) xs) ≤ 12
    → NodesFit g.n g.machines g.nodes xs → OnceMore g (flat_map operands xs) → Passes g (map record_of_node xs)
unfolding Passes flat_map
nodes_in [] g ms n0 m0 hn few leaves f o = tt
nodes_in (x ∷ xs) g ms n0 m0 hn few leaves f o =
    let may : NodeMay g = record { has_header = n0; some_machine = m0; node_room = omega arith } in
    let l = length-append (own_machine ms x) (flat_map (own_machine ms) xs) in
    let z : g.nodes + 0 ≡ g.nodes = omega arith in
    let head : NodeFormed g.n g.machines g.nodes x = rw z at (f.formed 0 (omega arith)) in
    let free = operands_once g may hn x (flat_map operands xs) head o in
    let a = after_node g x ms in (
      node_passes g may hn x ms (omega (arith, l)) head (f.filled x (Memᴰ.head refl)) free,
      nodes_in xs (take_record g (record_of_node x)) ms (λ q. n0 (sym a.n_same ∙ q))
          (λ q. m0 (sym a.machines_same ∙ q))
          (omega (arith, a.n_same)) (omega (arith, a.nodes_more)) (omega (arith, a.leaves_more, l))
          (fit_along _ _ _ _ _ _ xs (sym a.n_same) (sym a.machines_same) (sym a.nodes_more)
          (fit_tail g.n g.machines g.nodes x xs f))
          (λ k h. omega (arith, o k h, used_node g x free k h, times_append k (operands x) (flat_map operands xs))),
    )

-- What is read once nodes are taken: the counts, and each operand counted among the used.
-- Assumes nothing.
use Rattle.std.proofs.Common.{◌≡◌, refl, ◌∙◌, false, ◌≢◌, List, [], ◌∷◌, ◌++◌, ℕ, ◌+◌, ◌≤◌, ◌<◌, arith, length}
use Rattle.std.proofs.Common.{length-append}
use mathlib.Core.List.{map, flat_map}
use Rattle.events.specs.Sets.{room, has, digit}
use Rattle.network.specs.Machine.{Machine}
use Rattle.network.specs.Model.{Node, leaf_node, join_node, hide_node, rename_node, operands, times, own_machine}
use Rattle.progress.specs.declared.Progress.{Progress}
use Rattle.records.specs.Kinds.{size_of}
use Rattle.records.specs.Records.{join_record, hide_record, rename_record}
use Rattle.progress.specs.Progress.{with, used_with, take_record}
use Rattle.tests.specs.FirstHit.{first_hit}
use Rattle.tests.proofs.Passing.{passed_out}
use Rattle.tests.proofs.Meeting.{join_out, hide_out, rename_out}
use Rattle.reader.specs.Encoding.{record_of_node}
use Rattle.reader.proofs.Passes.{after}
use Rattle.reader.proofs.Ranges.{add_count, add_other}
use Rattle.std.specs.Prelude.{Ok}

-- one node: the counts
pub record AfterNode (g : Progress) (x : Node) (ms : List Machine) : Type 0 where
  pub n_same : (take_record g (record_of_node x)).n ≡ g.n
  pub machines_same : (take_record g (record_of_node x)).machines ≡ g.machines
  pub steps_same : (take_record g (record_of_node x)).steps ≡ g.steps
  pub nodes_more : (take_record g (record_of_node x)).nodes ≡ g.nodes + 1
  pub leaves_more : (take_record g (record_of_node x)).leaves ≡ g.leaves + length (own_machine ms x)

pub after_node : (g : Progress) (x : Node) (ms : List Machine) → AfterNode g x ms
unfolding take_record record_of_node own_machine
after_node g (leaf_node i) ms =
    record { n_same = refl; machines_same = refl; steps_same = refl; nodes_more = refl; leaves_more = refl }
after_node g (join_node i j A) ms =
    record { n_same = refl; machines_same = refl; steps_same = refl; nodes_more = refl; leaves_more = refl }
after_node g (hide_node i A) ms =
    record { n_same = refl; machines_same = refl; steps_same = refl; nodes_more = refl; leaves_more = refl }
after_node g (rename_node i f) ms =
    record { n_same = refl; machines_same = refl; steps_same = refl; nodes_more = refl; leaves_more = refl }

-- some nodes: the counts
pub record AfterNodes (g : Progress) (xs : List Node) (ms : List Machine) (h : Progress) : Type 0 where
  pub n_same : h.n ≡ g.n
  pub machines_same : h.machines ≡ g.machines
  pub steps_same : h.steps ≡ g.steps
  pub nodes_more : h.nodes ≡ g.nodes + length xs
  pub leaves_more : h.leaves ≡ g.leaves + length (flat_map (own_machine ms) xs)

pub after_nodes : (xs : List Node) (g : Progress) (ms : List Machine)
    → AfterNodes g xs ms (after g (map record_of_node xs))
unfolding after flat_map
after_nodes [] g ms =
    record {
      n_same = refl;
      machines_same = refl;
      steps_same = refl;
      nodes_more = omega arith;
      leaves_more =
          omega arith;
    }
after_nodes (x ∷ xs) g ms =
    let a = after_node g x ms in
    let i = after_nodes xs (take_record g (record_of_node x)) ms in
    record {
      n_same = i.n_same ∙ a.n_same;
      machines_same = i.machines_same ∙ a.machines_same;
      steps_same = i.steps_same ∙ a.steps_same;
      nodes_more = omega (arith, i.nodes_more, a.nodes_more);
      leaves_more =
          omega (arith, i.leaves_more, a.leaves_more, length-append (own_machine ms x) (flat_map (own_machine ms) xs));
    }

-- the operands of one node are free, each once
unfoldable pub OperandsFree : Progress → Node → Type 0
OperandsFree g (leaf_node i) = Unit {0}
OperandsFree g (join_node i j A) = (has g.used i ≡ false) × (has g.used j ≡ false) × (i ≢ j) × (i < room)
    × (j < room)
OperandsFree g (hide_node i A) = (has g.used i ≡ false) × (i < room)
OperandsFree g (rename_node i f) = (has g.used i ≡ false) × (i < room)

pub used_node : (g : Progress) (x : Node) → OperandsFree g x → (k : ℕ) → k < room
    → digit (has (take_record g (record_of_node x)).used k) ≡ times k (operands x) + digit (has g.used k)
unfolding OperandsFree take_record used_with record_of_node operands times
used_node g (leaf_node i) f k h = omega arith
used_node g (join_node i j A) f k h =
    add_count k (with g.used i) j h (add_other g.used i j f.4 f.1 f.2)
    ∙ omega (arith, add_count k g.used i h f.0)
used_node g (hide_node i A) f k h = add_count k g.used i h f.0 ∙ omega arith
used_node g (rename_node i t) f k h = add_count k g.used i h f.0 ∙ omega arith

pub operands_free : (g : Progress) (x : Node) → g.nodes ≤ 32
    → first_hit g (record_of_node x) (size_of (record_of_node x).kind) ≡ Ok tt
    → OperandsFree g x
unfolding OperandsFree record_of_node
operands_free g (leaf_node i) h w = tt
operands_free g (join_node i j A) h w =
    let r = join_record i j A in
    let m = join_out g r (size_of r.kind) (passed_out g r (size_of r.kind) w) refl in (
      m.left_free.unused,
      m.right_free.unused,
      m.apart,
      omega (arith, m.left_free.earlier),
      omega
          (arith, m.right_free.earlier),
    )
operands_free g (hide_node i A) h w =
    let r = hide_record i A in
    let m = hide_out g r (size_of r.kind) (passed_out g r (size_of r.kind) w) refl in
    (m.left_free.unused, omega (arith, m.left_free.earlier))
operands_free g (rename_node i f) h w =
    let r = rename_record i f in
    let m = rename_out g r (size_of r.kind) (passed_out g r (size_of r.kind) w) refl in
    (m.left_free.unused, omega (arith, m.left_free.earlier))

pub times_append : (k : ℕ) (xs ys : List ℕ) → times k (xs ++ ys) ≡ times k xs + times k ys
unfolding times
times_append k [] ys = omega arith
times_append k (x ∷ xs) ys = rw (times_append k xs ys) (omega arith)

-- every operand is counted among the used, where each was free
unfoldable pub AllFree : Progress → List Node → Type 0
AllFree g [] = Unit {0}
AllFree g (x ∷ xs) = OperandsFree g x × AllFree (take_record g (record_of_node x)) xs

pub used_nodes : (xs : List Node) (g : Progress) → AllFree g xs → (k : ℕ) → k < room
    → digit (has (after g (map record_of_node xs)).used k) ≡ times k (flat_map operands xs) + digit (has g.used k)
unfolding AllFree after flat_map times
used_nodes [] g f k h = omega arith
used_nodes (x ∷ xs) g f k h =
    omega (
      arith,
      used_nodes xs (take_record g (record_of_node x)) f.1 k h,
      used_node g x f.0 k h,
      times_append k (operands x) (flat_map operands xs),
    )

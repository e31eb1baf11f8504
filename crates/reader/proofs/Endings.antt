-- What a model's records lack: an operand from the last node on, and an end before the last record.
-- Assumes nothing.
use Rattle.std.proofs.Common.{◌≡◌, refl, ◌≢◌, List, [], ◌∷◌, ◌++◌, ℕ, suc, ◌+◌, ◌≤◌, arith, length, ne_eqb}
use mathlib.Core.List.{map, flat_map}
use Rattle.network.specs.Machine.{Step, step, Machine}
use Rattle.network.specs.Model.{Node, leaf_node, join_node, hide_node, rename_node, NodeFormed, operands, times}
use Rattle.records.specs.declared.Record.{Record}
use Rattle.records.specs.Kinds.{end_kind}
use Rattle.records.specs.Records.{end_record}
use Rattle.reader.specs.Encoding.{record_of_step, records_of_machine, record_of_node}
use Rattle.reader.proofs.Records.{EndsOnce}
use Rattle.reader.proofs.NodeAfter.{times_append}
use Rattle.reader.proofs.NodePhase.{NodesFit}
use Rattle.reader.proofs.NodesPass.{fit_tail}

-- a number from the last node's on is no operand
late_node : (n c k : ℕ) (x : Node) (e : ℕ) → NodeFormed n c k x → k ≤ e → times e (operands x) ≡ 0
unfolding NodeFormed operands times
late_node n c k (leaf_node i) e f h = refl
late_node n c k (join_node i j A) e f h =
    rw (ne_eqb i e (λ q. omega (arith, f.0)), ne_eqb j e (λ q. omega (arith, f.1)))
late_node n c k (hide_node i A) e f h = rw (ne_eqb i e (λ q. omega (arith, f.0)))
late_node n c k (rename_node i t) e f h = rw (ne_eqb i e (λ q. omega (arith, f.0)))

pub late_nodes : (n c k : ℕ) (xs : List Node) (e : ℕ) → NodesFit n c k xs → k + length xs ≤ suc e
    → times e (flat_map operands xs) ≡ 0
unfolding flat_map times
late_nodes n c k [] e f h = refl
late_nodes n c k (x ∷ xs) e f h =
    let z : k + 0 ≡ k = omega arith in
    omega (
      arith,
      times_append e (operands x) (flat_map operands xs),
      late_node n c k x e (rw z at (f.formed 0 (omega arith))) (omega arith),
      late_nodes n c (k + 1) xs e (fit_tail n c k x xs f) (omega arith),
    )

-- records that are no end, then an end
unfoldable pub NoEnds : List Record → Type 0
NoEnds [] = Unit {0}
NoEnds (r ∷ rs) = (r.kind ≢ end_kind) × NoEnds rs

pub ends_in : (rs : List Record) (x : ℕ) → NoEnds rs → EndsOnce (rs ++ (end_record x ∷ []))
unfolding NoEnds EndsOnce
ends_in [] x n = refl
ends_in (r ∷ []) x n = (n.0, refl)
ends_in (r ∷ r' ∷ rs) x n = (n.0, ends_in (r' ∷ rs) x n.1)

pub no_ends_append : (rs qs : List Record) → NoEnds rs → NoEnds qs → NoEnds (rs ++ qs)
unfolding NoEnds
no_ends_append [] qs m n = n
no_ends_append (r ∷ rs) qs m n = (m.0, no_ends_append rs qs m.1 n)

steps_no_end : (xs : List Step) → NoEnds (map record_of_step xs)
unfolding NoEnds record_of_step
steps_no_end [] = tt
steps_no_end (step s l t ∷ xs) = (λ q. omega arith, steps_no_end xs)

pub machines_no_end : (ms : List Machine) → NoEnds (flat_map records_of_machine ms)
unfolding NoEnds flat_map records_of_machine
machines_no_end [] = tt
machines_no_end (m ∷ ms) = (
  λ q. omega arith,
  no_ends_append (map record_of_step m.steps) (flat_map records_of_machine ms)
      (steps_no_end m.steps) (machines_no_end ms),
)

pub nodes_no_end : (xs : List Node) → NoEnds (map record_of_node xs)
unfolding NoEnds record_of_node
nodes_no_end [] = tt
nodes_no_end (leaf_node i ∷ xs) = (λ q. omega arith, nodes_no_end xs)
nodes_no_end (join_node i j A ∷ xs) = (λ q. omega arith, nodes_no_end xs)
nodes_no_end (hide_node i A ∷ xs) = (λ q. omega arith, nodes_no_end xs)
nodes_no_end (rename_node i f ∷ xs) = (λ q. omega arith, nodes_no_end xs)

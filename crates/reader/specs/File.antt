-- The records of a file, one behind another, and the model that they say, in the terms of crate `network`.
-- Document 01, "The model file". Assumes nothing.
use Rattle.std.specs.Prelude.{cond, List, [], ◌∷◌, ℕ, zero, suc, eqb, length, drop}
use Rattle.network.specs.Machine.{Step, step, Machine}
use Rattle.network.specs.Model.{Node, leaf_node, join_node, hide_node, rename_node, Model}
use Rattle.records.specs.declared.Record.{Record}
use Rattle.records.specs.Kinds.{machine_kind, step_kind, leaf_kind, join_kind, hide_kind, size_of, is, is_node}
use Rattle.decoding.specs.Labels.{label_of}
use Rattle.decoding.specs.Bytes.{first_record}

-- the records that stand in the bytes b, at most `fuel` of them
unfoldable pub records_from : ℕ → List ℕ → List Record
records_from zero b = []
records_from (suc fuel) b =
    cond (eqb (length b) 0) [] (first_record b ∷ records_from fuel (drop (size_of (first_record b).kind) b))

-- the records of the file s
unfoldable pub records_of : List ℕ → List Record
records_of s = records_from (length s) s

-- the step that a record says
unfoldable pub step_of : Record → Step
step_of r = step r.from (label_of r.label) r.to

-- the steps that stand first among some records: behind a machine, its own
unfoldable pub steps_of : List Record → List Step
steps_of [] = []
steps_of (r ∷ rs) = cond (is step_kind r) (step_of r ∷ steps_of rs) []

-- the machines among some records, each with the steps behind it
unfoldable pub machines_of : List Record → List Machine
machines_of [] = []
machines_of (r ∷ rs) =
    cond (is machine_kind r) (record { states = r.number; steps = steps_of rs } ∷ machines_of rs) (machines_of rs)

-- the node that a record says
unfoldable pub node_of : Record → Node
node_of r =
    cond (is leaf_kind r) (leaf_node r.number)
    (cond (is join_kind r) (join_node r.left r.right r.set)
    (cond (is hide_kind r) (hide_node r.left r.set)
    (rename_node r.left r.targets)))

-- the nodes among some records
unfoldable pub nodes_of : List Record → List Node
nodes_of [] = []
nodes_of (r ∷ rs) = cond (is_node r) (node_of r ∷ nodes_of rs) (nodes_of rs)

-- n: the number in the first record, the header
unfoldable pub event_count : List Record → ℕ
event_count [] = 0
event_count (r ∷ rs) = r.number

-- the model that some records say
unfoldable pub model_of : List Record → Model
model_of rs = record { events = event_count rs; machines = machines_of rs; nodes = nodes_of rs }

-- the model of the file s
unfoldable pub file_model : List ℕ → Model
file_model s = model_of (records_of s)

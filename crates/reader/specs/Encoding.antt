-- The bytes of a model, and which models have a file. Document 01, "The model file": "So a model has one encoding".
-- Assumes nothing.
use Rattle.std.specs.Prelude.{◌≡◌, ◌⊎◌, ℕ, ◌<◌, ◌≤◌, length, get_or}
use mathlib.Core.List.{List, [], ◌∷◌, ◌++◌, Memᴰ, map, flat_map}
use Rattle.network.specs.Machine.{Label, silent, event, Step, step, Machine}
use Rattle.network.specs.Model.{Node, leaf_node, join_node, hide_node, rename_node, Model, WellFormed}
use Rattle.network.specs.Limits.{WithinLimits}
use Rattle.records.specs.declared.Record.{Record}
use Rattle.records.specs.Kinds.{silent_label}
use Rattle.records.specs.Records.{header_record, machine_record, step_record, leaf_record, join_record, hide_record}
use Rattle.records.specs.Records.{rename_record, end_record}
use Rattle.decoding.specs.Bytes.{bytes_of}

-- the byte of a label
unfoldable pub code_of : Label → ℕ
code_of silent = silent_label
code_of (event e) = e

-- the record of a step
unfoldable pub record_of_step : Step → Record
record_of_step (step s l s') = step_record s (code_of l) s'

-- the records of a machine: the machine, followed by its steps
unfoldable pub records_of_machine : Machine → List Record
records_of_machine m = machine_record m.states ∷ map record_of_step m.steps

-- the record of a node
unfoldable pub record_of_node : Node → Record
record_of_node (leaf_node i) = leaf_record i
record_of_node (join_node i j A) = join_record i j A
record_of_node (hide_node i A) = hide_record i A
record_of_node (rename_node i f) = rename_record i f

-- the records of a model: one header, then machines each followed by its steps, then nodes
unfoldable pub model_records : Model → List Record
model_records M = header_record M.events ∷ (flat_map records_of_machine M.machines ++ map record_of_node M.nodes)

-- the bytes of some records, one behind another
abbrev pub bytes_of_all : List Record → List ℕ
bytes_of_all rs = flat_map bytes_of rs

-- the encoding of model M: its records, then the end with the number of bytes before it, then nothing
unfoldable pub encode : Model → List ℕ
encode M = let b = bytes_of_all (model_records M) in b ++ bytes_of (end_record (length b))

-- step x is below step y: by from, then label (silent as 255), then to
unfoldable pub StepBelow : Step → Step → Type 0
StepBelow (step s l t) (step s' l' t') =
    (s < s') ⊎ ((s ≡ s') × ((code_of l < code_of l') ⊎ ((code_of l ≡ code_of l') × (t < t'))))

-- steps ascend strictly: each is below all that follow it
unfoldable pub StepsAscend : List Step → Type 0
StepsAscend [] = Unit {0}
StepsAscend (x ∷ xs) = ((y : Step) → Memᴰ y xs → StepBelow x y) × StepsAscend xs

-- the targets of a rename as a file has them: sixteen; target i is i for every i not below n
unfoldable pub TargetsFilled : ℕ → List ℕ → Type 0
TargetsFilled n f = (length f ≡ 16) × ((i : ℕ) → n ≤ i → i < 16 → get_or f i 0 ≡ i)

-- model M is one that a file can say: well formed, within the limits, steps ascending, renames with sixteen targets
pub record Encodable (M : Model) : Type 0 where
  pub well_formed : WellFormed M
  pub within_limits : WithinLimits M
  pub steps_ascend : (m : Machine) → Memᴰ m M.machines → StepsAscend m.steps
  pub targets_filled : (i : ℕ) (f : List ℕ) → Memᴰ (rename_node i f) M.nodes → TargetsFilled M.events f

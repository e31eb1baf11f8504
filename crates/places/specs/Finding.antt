-- What later crates need of a readable file: where a node or a machine begins, what stands there, and the steps
-- behind it. Assumes nothing.
use Rattle.std.specs.Prelude.{Bool, cond, List, [], ◌∷◌, ℕ, ◌+◌, ◌-◌, eqb, length, drop}
use Rattle.records.specs.declared.Record.{Record}
use Rattle.records.specs.Kinds.{machine_kind, leaf_kind, size_of, is, is_node}
use Rattle.decoding.specs.Bytes.{first_record}
use Rattle.reader.specs.File.{records_of, steps_of}

-- where, among some records, number k of those that p picks begins, counted from 0; behind them all where there is none
unfoldable pub place_in : (Record → Bool) → List Record → ℕ → ℕ
place_in p [] k = 0
place_in p (r ∷ rs) k =
    cond (p r) (cond (eqb k 0) 0 (size_of r.kind + place_in p rs (k - 1))) (size_of r.kind + place_in p rs k)

-- where node k of the file s begins
unfoldable pub node_place : List ℕ → ℕ → ℕ
node_place s k = place_in is_node (records_of s) k

-- where machine m of the file s begins
unfoldable pub machine_place : List ℕ → ℕ → ℕ
machine_place s m = place_in (is machine_kind) (records_of s) m

-- the record that begins at a place of s
unfoldable pub record_at : List ℕ → ℕ → Record
record_at s place = first_record (drop place s)

-- the state count of machine m of the file s
unfoldable pub states_of : List ℕ → ℕ → ℕ
states_of s m = (record_at s (machine_place s m)).number

-- how many steps stand one behind another from a place of s on
unfoldable pub steps_at : List ℕ → ℕ → ℕ
steps_at s place = length (steps_of (records_of (drop place s)))

-- what a record of s multiplies the bound by: a leaf by its machine's state count
unfoldable pub factor_of : List ℕ → Record → ℕ
factor_of s r = cond (is leaf_kind r) (states_of s r.number) 1

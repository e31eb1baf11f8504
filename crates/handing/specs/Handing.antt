-- A record as it is handed to the writer, a kind and its numbers, as it is handed on, and as bytes to be stored.
-- Document 01, "The writer adds one record ..". Assumes nothing.
use Rattle.std.specs.Prelude.{cond, List, ◌∷◌, ◌++◌, map, ℕ, ◌-◌, ◌%◌, eqb, take, drop, get_or, replicate}
use Rattle.records.specs.declared.Record.{Record}
use Rattle.records.specs.Kinds.{header_kind, machine_kind, step_kind, leaf_kind, join_kind, hide_kind, rename_kind}
use Rattle.records.specs.Kinds.{end_kind}
use Rattle.records.specs.Records.{header_record, machine_record, step_record, leaf_record, join_record, hide_record}
use Rattle.records.specs.Records.{rename_record, end_record, other_record}
use Rattle.records.specs.Kinds.{is, size_of}
use Rattle.decoding.specs.Bytes.{bytes_of}

-- a number as one byte of it, the lowest
abbrev pub low_byte : ℕ → ℕ
low_byte x = x % 256

-- the record that a kind k and its numbers xs say, behind `used` bytes: numbers that the kind doesn't use are ignored,
-- and the end's count is filled in
unfoldable pub handed_in : ℕ → ℕ → List ℕ → Record
handed_in used k xs =
    let x = get_or xs 0 0 in
    let y = get_or xs 1 0 in
    let z = get_or xs 2 0 in
    cond (eqb k header_kind) (header_record x)
    (cond (eqb k machine_kind) (machine_record x)
    (cond (eqb k step_kind) (step_record x y z)
    (cond (eqb k leaf_kind) (leaf_record x)
    (cond (eqb k join_kind) (join_record x y z)
    (cond (eqb k hide_kind) (hide_record x y)
    (cond (eqb k rename_kind) (rename_record x (take 16 (drop 1 xs)))
    (cond (eqb k end_kind) (end_record used)
    (other_record k))))))))

-- the seventeen numbers that say record r, beside its kind
unfoldable pub numbers_of : Record → List ℕ
numbers_of r =
    cond (is step_kind r) (r.from ∷ r.label ∷ r.to ∷ replicate 14 0)
    (cond (is join_kind r) (r.left ∷ r.right ∷ r.set ∷ replicate 14 0)
    (cond (is hide_kind r) (r.left ∷ r.set ∷ replicate 15 0)
    (cond (is rename_kind r) (r.left ∷ r.targets)
    (r.number ∷ replicate 16 0))))

-- the low bytes of record r's encoding, then zeros, eighteen in all
unfoldable pub record_array : Record → List ℕ
record_array r = map low_byte (bytes_of r) ++ replicate (18 - size_of r.kind) 0

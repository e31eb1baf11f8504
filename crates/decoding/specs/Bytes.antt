-- A record's bytes: decoding and encoding. Document 01, "The model file": sets and counts are two bytes, low byte
-- first. Assumes nothing.
use Rattle.std.specs.Prelude.{cond, ◌||◌, List, [], ◌∷◌, ℕ, ◌+◌, ◌*◌, ◌/◌, ◌%◌, ◌<◌, eqb, take, get_or}
use Rattle.records.specs.declared.Record.{Record}
use Rattle.records.specs.Kinds.{header_kind, machine_kind, step_kind, leaf_kind, join_kind, hide_kind, rename_kind}
use Rattle.records.specs.Kinds.{end_kind}
use Rattle.records.specs.Kinds.{size_of, is}
use Rattle.records.specs.Records.{header_record, machine_record, step_record, leaf_record, join_record, hide_record}
use Rattle.records.specs.Records.{rename_record, end_record, other_record}

-- byte i of b, 0 behind its end
abbrev pub byte : List ℕ → ℕ → ℕ
byte b i = get_or b i 0

-- every entry of b is a byte
unfoldable pub AreBytes : List ℕ → Type 0
AreBytes b = (i : ℕ) → byte b i < 256

-- the number of two bytes, low byte first
abbrev pub two : ℕ → ℕ → ℕ
two low high = low + 256 * high

-- the two bytes of a number, low byte first
abbrev pub two_bytes : ℕ → List ℕ
two_bytes x = x % 256 ∷ x / 256 ∷ []

-- the sixteen targets of the rename whose bytes b are
unfoldable pub targets_in : List ℕ → List ℕ
targets_in b =
    byte b 2 ∷ byte b 3 ∷ byte b 4 ∷ byte b 5 ∷ byte b 6 ∷ byte b 7 ∷ byte b 8 ∷ byte b 9
    ∷ byte b 10 ∷ byte b 11 ∷ byte b 12 ∷ byte b 13 ∷ byte b 14 ∷ byte b 15 ∷ byte b 16 ∷ byte b 17 ∷ []

-- the record whose bytes b are
unfoldable pub record_of : List ℕ → Record
record_of b =
    cond (eqb (byte b 0) header_kind) (header_record (byte b 1))
    (cond (eqb (byte b 0) machine_kind) (machine_record (byte b 1))
    (cond (eqb (byte b 0) step_kind) (step_record (byte b 1) (byte b 2) (byte b 3))
    (cond (eqb (byte b 0) leaf_kind) (leaf_record (byte b 1))
    (cond (eqb (byte b 0) join_kind) (join_record (byte b 1) (byte b 2) (two (byte b 3) (byte b 4)))
    (cond (eqb (byte b 0) hide_kind) (hide_record (byte b 1) (two (byte b 2) (byte b 3)))
    (cond (eqb (byte b 0) rename_kind) (rename_record (byte b 1) (targets_in b))
    (cond (eqb (byte b 0) end_kind) (end_record (two (byte b 1) (byte b 2)))
    (other_record (byte b 0)))))))))

-- the record that stands first in b: its kind's byte fixes how many bytes it has
unfoldable pub first_record : List ℕ → Record
first_record b = record_of (take (size_of (byte b 0)) b)

-- the bytes of record r
unfoldable pub bytes_of : Record → List ℕ
bytes_of r =
    cond (is header_kind r || is machine_kind r || is leaf_kind r) (r.kind ∷ r.number ∷ [])
    (cond (is step_kind r) (r.kind ∷ r.from ∷ r.label ∷ r.to ∷ [])
    (cond (is join_kind r) (r.kind ∷ r.left ∷ r.right ∷ two_bytes r.set)
    (cond (is hide_kind r) (r.kind ∷ r.left ∷ two_bytes r.set)
    (cond (is rename_kind r) (r.kind ∷ r.left ∷ r.targets)
    (cond (is end_kind r) (r.kind ∷ two_bytes r.number)
    (r.kind ∷ []))))))

-- The kinds of record and their lengths. Document 01, "The model file".
-- Assumes nothing.
use Rattle.std.specs.Prelude.{Bool, ◌||◌, [], ◌∷◌, ℕ, suc, eqb, get_or}
use Rattle.records.specs.declared.Record.{Record}

-- the kinds, by the numbers of the table: a header
abbrev pub header_kind : ℕ
header_kind = 1

-- a machine
abbrev pub machine_kind : ℕ
machine_kind = 2

-- a step, which belongs to the latest machine
abbrev pub step_kind : ℕ
step_kind = 3

-- a leaf
abbrev pub leaf_kind : ℕ
leaf_kind = 4

-- a join
abbrev pub join_kind : ℕ
join_kind = 5

-- a hide
abbrev pub hide_kind : ℕ
hide_kind = 6

-- a rename
abbrev pub rename_kind : ℕ
rename_kind = 7

-- an end
abbrev pub end_kind : ℕ
end_kind = 8

-- the label that is silent
abbrev pub silent_label : ℕ
silent_label = 255

-- body bytes of each kind; none for a number that is no kind
unfoldable pub body_length : ℕ → ℕ
body_length k = get_or (0 ∷ 1 ∷ 1 ∷ 3 ∷ 1 ∷ 4 ∷ 3 ∷ 17 ∷ 2 ∷ []) k 0

-- all bytes of a record: one byte of kind, then its body
unfoldable pub size_of : ℕ → ℕ
size_of k = suc (body_length k)

-- record r is of kind k
abbrev pub is : ℕ → Record → Bool
is k r = eqb r.kind k

-- record r is a node: a leaf, a join, a hide or a rename
abbrev pub is_node : Record → Bool
is_node r = is leaf_kind r || is join_kind r || is hide_kind r || is rename_kind r

-- record r has an operand
abbrev pub has_operand : Record → Bool
has_operand r = is join_kind r || is hide_kind r || is rename_kind r

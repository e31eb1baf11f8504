-- A record of each kind: its kind and its numbers. Document 01, "The model file".
-- A number that the kind doesn't use is 0. Assumes nothing.
use Rattle.std.specs.Prelude.{List, [], ◌∷◌, ℕ, ◌+◌, ◌*◌}
use Rattle.records.specs.declared.Record.{Record}
use Rattle.records.specs.Kinds.{header_kind, machine_kind, step_kind, leaf_kind, join_kind, hide_kind, rename_kind}
use Rattle.records.specs.Kinds.{end_kind}

-- sixteen targets, all 0: those of a record that is no rename
unfoldable pub no_targets : List ℕ
no_targets = 0 ∷ 0 ∷ 0 ∷ 0 ∷ 0 ∷ 0 ∷ 0 ∷ 0 ∷ 0 ∷ 0 ∷ 0 ∷ 0 ∷ 0 ∷ 0 ∷ 0 ∷ 0 ∷ []

-- a record of kind k with the given number, step, operands, set and targets
abbrev pub record_with : ℕ → ℕ → ℕ → ℕ → ℕ → ℕ → ℕ → ℕ → List ℕ → Record
record_with k x from label to left right set targets =
    record {
      kind = k;
      number = x;
      from = from;
      label = label;
      to = to;
      left = left;
      right = right;
      set = set;
      targets =
          targets;
    }

-- a header of n events
abbrev pub header_record : ℕ → Record
header_record n = record_with header_kind n 0 0 0 0 0 0 no_targets

-- a machine of c states
abbrev pub machine_record : ℕ → Record
machine_record c = record_with machine_kind c 0 0 0 0 0 0 no_targets

-- a step: from, label, to
abbrev pub step_record : ℕ → ℕ → ℕ → Record
step_record from label to = record_with step_kind 0 from label to 0 0 0 no_targets

-- a leaf of machine m
abbrev pub leaf_record : ℕ → Record
leaf_record m = record_with leaf_kind m 0 0 0 0 0 0 no_targets

-- a join of nodes i and j over the set A
abbrev pub join_record : ℕ → ℕ → ℕ → Record
join_record i j A = record_with join_kind 0 0 0 0 i j A no_targets

-- a hide of node i with the set A
abbrev pub hide_record : ℕ → ℕ → Record
hide_record i A = record_with hide_kind 0 0 0 0 i 0 A no_targets

-- a rename of node i by the targets f
abbrev pub rename_record : ℕ → List ℕ → Record
rename_record i f = record_with rename_kind 0 0 0 0 i 0 0 f

-- an end behind x bytes
abbrev pub end_record : ℕ → Record
end_record x = record_with end_kind x 0 0 0 0 0 0 no_targets

-- a record whose kind k is none of these
abbrev pub other_record : ℕ → Record
other_record k = record_with k 0 0 0 0 0 0 0 no_targets

-- a step as one number, so that steps ascend by from, then label, then to
abbrev pub key_of : Record → ℕ
key_of r = r.from * 65536 + r.label * 256 + r.to

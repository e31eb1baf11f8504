-- The tests on one record, all but test 5, in the words of document 01's table of refusal numbers.
-- r is the record, g what has been read before it, left how many bytes there are from its start on. Assumes nothing.
use Rattle.std.specs.Prelude.{Bool, not, ◌&&◌, ◌||◌, ℕ, ◌-◌, min, leb, ltb, eqb}
use Rattle.events.specs.Sets.{room, has, full, included, count}
use Rattle.records.specs.declared.Record.{Record}
use Rattle.progress.specs.declared.Progress.{Progress}
use Rattle.records.specs.Kinds.{header_kind, machine_kind, step_kind, leaf_kind, join_kind, end_kind}
use Rattle.records.specs.Kinds.{size_of, is, is_node, has_operand}
use Rattle.progress.specs.Progress.{with}
use Rattle.records.specs.Records.{key_of}

-- 3: kind not 1 to 8
abbrev pub bad_kind : Record → Bool
bad_kind r = eqb r.kind 0 || ltb 8 r.kind

-- 2: file stops inside a record
abbrev pub cut_short : Record → ℕ → Bool
cut_short r left = ltb left (size_of r.kind)

-- 4: no header first; a second header; a step before any machine; a machine or step after a node; a node before any
-- machine; an end before any node
abbrev pub misplaced : Progress → Record → Bool
misplaced g r =
    (eqb g.n 0 && not (is header_kind r))
    || (is header_kind r && not (eqb g.n 0))
    || (is step_kind r && eqb g.machines 0)
    || ((is machine_kind r || is step_kind r) && not (eqb g.nodes 0))
    || (is_node r && eqb g.machines 0)
    || (is end_kind r && eqb g.nodes 0)

-- 8: thirteenth machine or leaf, 513th step, 33rd node
abbrev pub too_many : Progress → Record → Bool
too_many g r =
    (is machine_kind r && leb 12 g.machines)
    || (is leaf_kind r && leb 12 g.leaves)
    || (is step_kind r && leb 512 g.steps)
    || (is_node r && leb 32 g.nodes)

-- operand k is not an earlier node, or already used
abbrev pub not_free : Progress → ℕ → Bool
not_free g k = leb g.nodes k || has g.used k

-- 6: operand not an earlier node, or already used; a join naming one node twice
abbrev pub bad_operand : Progress → Record → Bool
bad_operand g r =
    (has_operand r && not_free g r.left)
    || (is join_kind r && (not_free g r.right || eqb r.left r.right))

-- 7: step not above the one before it in its machine
abbrev pub not_above : Progress → Record → Bool
not_above g r = is step_kind r && ltb (key_of r) g.floor

-- 10: ninth different event in one machine
abbrev pub ninth_event : Progress → Record → Bool
ninth_event g r = is step_kind r && ltb 8 (count room (with g.events r.label))

-- a node other than the last unused
abbrev pub unused_node : Progress → Bool
unused_node g = not (included room (full (min (g.nodes - 1) room)) g.used)

-- 9: end: wrong byte count, a node other than the last unused, or bytes after it
abbrev pub bad_end : Progress → Record → ℕ → Bool
bad_end g r left = is end_kind r && (not (eqb r.number g.place) || unused_node g || ltb (size_of end_kind) left)

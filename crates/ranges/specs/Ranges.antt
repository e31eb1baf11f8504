-- Test 5 on one record: numbers outside their range, in the words of document 01's table of refusal numbers.
-- r is the record, g what has been read before it. Assumes nothing.
use Rattle.std.specs.Prelude.{Bool, false, not, ◌&&◌, ◌||◌, List, [], ◌∷◌, ℕ, suc, min, leb, ltb, eqb}
use Rattle.events.specs.Sets.{room, full, included}
use Rattle.records.specs.declared.Record.{Record}
use Rattle.progress.specs.declared.Progress.{Progress}
use Rattle.records.specs.Kinds.{header_kind, machine_kind, step_kind, leaf_kind, join_kind, hide_kind, rename_kind}
use Rattle.records.specs.Kinds.{silent_label, is}

-- a number outside least to most
abbrev pub outside : ℕ → ℕ → ℕ → Bool
outside least most x = ltb x least || ltb most x

-- a set bit not below n
abbrev pub wrong_set : ℕ → ℕ → Bool
wrong_set n s = not (included room s (full (min n room)))

-- for i below n, a target not below n; for other i, a target that is not i
abbrev pub wrong_target : ℕ → ℕ → ℕ → Bool
wrong_target n i target = (ltb i n && leb n target) || (leb n i && not (eqb target i))

-- one of the targets i, i + 1, .. is wrong
unfoldable pub wrong_targets : ℕ → ℕ → List ℕ → Bool
wrong_targets n i [] = false
wrong_targets n i (target ∷ targets) = wrong_target n i target || wrong_targets n (suc i) targets

-- a state or the label of a step outside its range
abbrev pub wrong_step : Progress → Record → Bool
wrong_step g r =
    leb g.states r.from || (leb g.n r.label && not (eqb r.label silent_label)) || leb g.states r.to

-- 5: n, state count, state, label, machine number, target or set outside its range
abbrev pub out_of_range : Progress → Record → Bool
out_of_range g r =
    (is header_kind r && outside 1 16 r.number)
    || (is machine_kind r && outside 1 32 r.number)
    || (is step_kind r && wrong_step g r)
    || (is leaf_kind r && leb g.machines r.number)
    || (is rename_kind r && wrong_targets g.n 0 r.targets)
    || ((is join_kind r || is hide_kind r) && wrong_set g.n r.set)

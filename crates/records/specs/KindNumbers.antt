-- The numbers of the kinds of record. Document 01, "The model file". Assumes nothing.
use Rattle.std.specs.Prelude.{◌≡◌, ℕ, ◌≤◌, ◌<◌, Result, MatchResult}
use Rattle.records.specs.declared.Kind.{Kind}
use Rattle.records.specs.declared.Kind.TheVariants.{Header, Machine, Step, Leaf, Join, Hide, Rename, End}
use Rattle.records.specs.declared.UnknownKind.{UnknownKind}
use Rattle.records.specs.Kinds.{header_kind, machine_kind, step_kind, leaf_kind, join_kind, hide_kind, rename_kind}
use Rattle.records.specs.Kinds.{end_kind}

-- the number of each kind
abbrev pub number_of : Kind → ℕ
number_of Header = header_kind
number_of Machine = machine_kind
number_of Step = step_kind
number_of Leaf = leaf_kind
number_of Join = join_kind
number_of Hide = hide_kind
number_of Rename = rename_kind
number_of End = end_kind

-- the kind whose number n is, or n itself, which is no kind's: above 8, unless it is 0
abbrev pub IsKind : ℕ → Result Kind UnknownKind → Type 0
IsKind n r = MatchResult r (λ kind. number_of kind ≡ n) (λ e. (e.0 ≡ n) × (1 ≤ n → 8 < n))

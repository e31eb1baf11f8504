-- Two outcomes that meet a contract of this crate are equal: the operands' lists, a leaf's flag, and, for a list that
-- is built, its count, if it counts, and every entry of its section and those behind it. Assumes nothing.
use Rattle.std.proofs.Common.{◌≡◌, Bool, ◌&&◌, List, ℕ, get_or}
use Rattle.std.specs.Prelude.{Option}
use Rattle.events.proofs.Unique.{settled}
use Rattle.network.specs.Model.{Model, idle}
use Rattle.network.specs.Loops.{spins}
use Rattle.records.specs.declared.Record.{Record}
use Rattle.records.specs.Kinds.{leaf_kind, is}
use Rattle.nodes.specs.declared.Operands.{Operands}
use Rattle.nodes.specs.Nodes.{left_of, right_of, built_count, built_in}

pub operands_of_unique : (r : Record) (counts area : List ℕ) (o o' : Operands) → o.left.now ≡ left_of r counts area
    → o.right.now ≡ right_of r counts area → o'.left.now ≡ left_of r counts area
    → o'.right.now ≡ right_of r counts area → (o.left.now ≡ o'.left.now) × (o.right.now ≡ o'.right.now)
operands_of_unique r counts area o o' p q p' q' = (settled p p', settled q q')

pub is_spinning_leaf_unique : (M : Model) (r : Record) (x x' : Bool)
    → x ≡ (is leaf_kind r && spins (get_or M.machines r.number idle))
    → x' ≡ (is leaf_kind r && spins (get_or M.machines r.number idle)) → x ≡ x'
is_spinning_leaf_unique M r x x' p q = settled p q

-- of two lists built at the same node
pub build_unique : (xs area : List ℕ) (count count' : Option ℕ) (now now' : List ℕ) → count ≡ built_count xs
    → now ≡ built_in xs area → count' ≡ built_count xs → now' ≡ built_in xs area → (count ≡ count') × (now ≡ now')
build_unique xs area count count' now now' p q p' q' = (settled p p', settled q q')

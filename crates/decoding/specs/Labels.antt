-- The label that a number of a step record says. Document 01, "The model file". Assumes nothing.
use Rattle.std.specs.Prelude.{cond, ℕ, eqb}
use Rattle.network.specs.Machine.{Label, silent, event}
use Rattle.records.specs.Kinds.{silent_label}

-- a label: 255 is silent
unfoldable pub label_of : ℕ → Label
label_of x = cond (eqb x silent_label) silent (event x)

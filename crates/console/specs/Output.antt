-- A node's text, and what an output holds of a text. Assumes nothing.
use Rattle.std.specs.Prelude.{ℕ, Result, OnOk, OnErr, ⊤, take}
use mathlib.Core.List.{List, ◌++◌, flat_map}
use Rattle.std.specs.declared.option.Option.{Option}
use Rattle.std.specs.Io.{StartsWith}
use Rattle.std.specs.Io.KnownBytes.{Appends}
use Rattle.report.specs.Text.{node_line, pair_line, pair_count}

-- the text of node k of a kind whose section is xs: its line, and a line for each entry before the first zero
unfoldable pub text_of : ℕ → ℕ → List ℕ → List ℕ
text_of k kind xs = node_line k kind (pair_count xs) ++ flat_map pair_line (take (pair_count xs) xs)

-- how writing the text t went: all of it was added to what the output held or, where the answer is an error, a beginning
-- of it; of an output that says what it holds
unfoldable pub IsWritten : {E : Type 0} → Result ⊤ E → (held held' : Option (List ℕ)) → List ℕ → Type 0
IsWritten r held held' t =
    OnOk r (Appends held held' t) × OnErr r ((begun : List ℕ) × StartsWith t begun × Appends held held' begun)

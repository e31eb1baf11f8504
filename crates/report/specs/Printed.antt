-- The whole printed result for a file's bytes. Document 01, "The printed result". Assumes nothing.
use mathlib.Core.List.{List, [], ◌++◌, flat_map}
use Rattle.std.specs.Prelude.{ℕ, zero, suc, length, get_or, Result, Ok, Err}
use Rattle.network.specs.Model.{Node, leaf_node, join_node, hide_node, rename_node, Model, node_network}
use Rattle.network.specs.Lists.{list_of}
use Rattle.network.specs.Verdict.{Verdict, pass, inconclusive, refused, verdict}
use Rattle.records.specs.Kinds.{leaf_kind, join_kind, hide_kind, rename_kind}
use Rattle.reader.specs.Scan.{reading_of}
use Rattle.reader.specs.File.{file_model}
use Rattle.report.specs.Text.{first_line, node_line, pair_line}
use Rattle.tests.specs.declared.Refusal.{Refusal}
use Rattle.progress.specs.declared.Progress.{Progress}
use Rattle.tests.specs.Reasons.{number_of}

-- the verdict on the bytes s, read as far as the reading says, in an area with room enough
unfoldable pub verdict_at : Result Progress Refusal → List ℕ → Verdict
verdict_at (Err f) s = refused (number_of f.reason) f.place
verdict_at (Ok g) s = verdict (file_model s)

-- the kind of a node, by the number of its record's kind
unfoldable pub kind_of : Node → ℕ
kind_of (leaf_node i) = leaf_kind
kind_of (join_node i j A) = join_kind
kind_of (hide_node i A) = hide_kind
kind_of (rename_node i f) = rename_kind

-- node k of model M: its line, and a line for each pair of its list
unfoldable pub node_text : Model → ℕ → List ℕ
node_text M k =
    let xs = list_of M.events (node_network M k) in
    node_line k (kind_of (get_or M.nodes k (leaf_node 0))) (length xs) ++ flat_map pair_line xs

-- the texts of `count` numbers in turn, from k on
unfoldable pub in_turn : (ℕ → List ℕ) → ℕ → ℕ → List ℕ
in_turn text k zero = []
in_turn text k (suc count) = text k ++ in_turn text (suc k) count

-- the printed result for model M after a verdict: the first line and, after a pass, each node's text
unfoldable pub printed_for : Model → Verdict → List ℕ
printed_for M (pass b) = first_line (pass b) ++ in_turn (node_text M) 0 (length M.nodes)
printed_for M (inconclusive k) = first_line (inconclusive k)
printed_for M (refused number place) = first_line (refused number place)

-- the printed result for the bytes s
unfoldable pub printed : List ℕ → List ℕ
printed s = printed_for (file_model s) (verdict_at (reading_of s) s)

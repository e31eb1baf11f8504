-- The text so far, and the lines of the pairs to come behind it, are the node's text.
use Rattle.std.proofs.Common.{◌≡◌, ◌+◌, ◌*◌, ◌≤◌, ◌++◌, drop, length}
use mathlib.Core.List.{flat_map}
use Rattle.report.specs.Text.{pair_line}
use Rattle.console.specs.Output.{text_of}
use Rattle.console.proofs.node_text.Given as goal

abbrev pub invariant-loop-x : goal.invariant-loop-x
invariant-loop-x l = record {
  on : l.text.items ++ flat_map pair_line (drop l.x-index l.x-items) ≡ text_of l.k l.kind l.section;
  short : length l.text.items ≤ 40 + 10 * l.x-index;
}

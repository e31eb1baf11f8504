-- So many entries at most as were looked at.
use Rattle.std.proofs.Common.{◌≤◌}
use Rattle.replay.proofs.count_of.Given as goal

abbrev pub invariant-loop-entry : goal.invariant-loop-entry
invariant-loop-entry l = l.count ≤ l.entry-index

-- What taking a record that meets no test does to the counts: they stay within the limits, and a place within the
-- sizes. Assumes nothing.
use Rattle.std.proofs.Common.{ℕ, ◌+◌, ◌≤◌, arith}
use Rattle.std.proofs.lemmas.Bool.Decides.{nat_tests}
use Rattle.records.specs.declared.Record.{Record}
use Rattle.progress.specs.declared.Progress.{Progress}
use Rattle.records.specs.Kinds.{size_of}
use Rattle.progress.specs.Progress.{take_record, Within}
use Rattle.tests.proofs.Passing.{Passed}

-- the counts that no record passes
pub record Counts (g : Progress) : Type 0 where
  pub machines_most : g.machines ≤ 12
  pub steps_most : g.steps ≤ 512
  pub nodes_most : g.nodes ≤ 32
  pub leaves_most : g.leaves ≤ 12

pub counts_keep : (g : Progress) (r : Record) (left : ℕ) → Counts g → Passed g r left → Counts (take_record g r)
unfolding take_record
counts_keep g r left w p = grind (arith, nat_tests)

pub within_keeps : (g : Progress) (r : Record) (left : ℕ) → Within g → Passed g r left
    → g.place + size_of r.kind ≤ 4096
    → Within (take_record g r)
unfolding take_record
within_keeps g r left w p h = grind (arith, nat_tests)

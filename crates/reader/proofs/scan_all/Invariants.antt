use Rattle.std.proofs.Common.{length, ◌-◌}
use Rattle.reader.proofs.Scanning.{Scanning}
use Rattle.reader.proofs.scan_all.Given as goal

abbrev pub invariant-loop-g : goal.invariant-loop-g
invariant-loop-g l = Scanning l.s l.g

abbrev pub decreases-loop-g : goal.decreases-loop-g
decreases-loop-g l = length l.s - l.g.place

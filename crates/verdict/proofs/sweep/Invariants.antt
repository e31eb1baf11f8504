use Rattle.verdict.proofs.Sweeps.{Sweeping}
use Rattle.verdict.proofs.sweep.Given as goal

abbrev pub invariant-loop-k : goal.invariant-loop-k
invariant-loop-k l = Sweeping l.file l.initial.area l.k l.place l.area l.counts

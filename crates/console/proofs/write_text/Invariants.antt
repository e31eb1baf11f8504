-- The rest of the text is left.
use Rattle.std.proofs.Common.{length}
use Rattle.console.proofs.Writing.{Leaves}
use Rattle.console.proofs.write_text.Given as goal

abbrev pub invariant-loop-rest : goal.invariant-loop-rest
invariant-loop-rest g l = Leaves (g.W.Write.contents l.initial.out) l.text (g.W.Write.contents l.out) l.rest

abbrev pub decreases-loop-rest : goal.decreases-loop-rest
decreases-loop-rest g l = length l.rest

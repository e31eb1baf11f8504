use Rattle.std.proofs.Common.{◌≡◌}
use Rattle.entries.proofs.Images.{sent_below}
use Rattle.entries.proofs.image_of.Given as goal

abbrev pub invariant-loop-e : goal.invariant-loop-e
invariant-loop-e l = l.image ≡ sent_below l.e l.fn.targets l.s

use Rattle.std.proofs.Common.{sym, ◌∙◌, map, drop}
use Rattle.entries.specs.Entries.{width}
use Rattle.network.specs.Lists.{rename_candidate}
use Rattle.filling.proofs.Loops.{stopped}
use Rattle.lists.proofs.offer_rename.Goals as goal

pub returns-then-is_over : goal.returns-then-is_over
returns-then-is_over g c =
    stopped g.met.C.Collector.stays (map (rename_candidate width c.args.targets) (drop c.loop-x.x-index c.args.xs.now))
    (sym c.is_over.ensures ∙ c.if-is_over.true) c.loop-x.invariant

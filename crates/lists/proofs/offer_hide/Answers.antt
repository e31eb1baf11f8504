use Rattle.std.proofs.Common.{sym, ◌∙◌, map, drop}
use Rattle.entries.specs.Entries.{width}
use Rattle.network.specs.Lists.{hide_candidate}
use Rattle.filling.proofs.Loops.{stopped}
use Rattle.lists.proofs.offer_hide.Goals as goal

pub returns-then-is_over : goal.returns-then-is_over
returns-then-is_over g c =
    stopped g.met.C.Collector.stays (map (hide_candidate width c.args.a) (drop c.loop-x.x-index c.args.xs.now))
    (sym c.is_over.ensures ∙ c.if-is_over.true) c.loop-x.invariant

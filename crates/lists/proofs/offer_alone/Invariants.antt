use Rattle.std.proofs.Common.{[]}
use Rattle.std.specs.Prelude.{fold}
use mathlib.Core.List.{flat_map}
use Rattle.entries.specs.Entries.{width}
use Rattle.network.specs.Lists.{alone_candidate}
use Rattle.filling.proofs.Loops.{ToOffer}
use Rattle.lists.proofs.offer_alone.Given as goal

abbrev pub invariant-loop-x : goal.invariant-loop-x
invariant-loop-x g l =
    let after = g.C.Collector.after in
    let yields = alone_candidate width l.a in
    ToOffer after l.out yields l.xs l.x-index [] (fold after l.fn.out (flat_map yields l.xs))

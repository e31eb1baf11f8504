use Rattle.std.proofs.Common.{◌≡◌, drop}
use Rattle.std.specs.Prelude.{fold}
use mathlib.Core.List.{map}
use Rattle.entries.specs.Entries.{width}
use Rattle.network.specs.Lists.{hide_candidate}
use Rattle.lists.proofs.offer_hide.Given as goal

abbrev pub invariant-loop-x : goal.invariant-loop-x
invariant-loop-x g l =
    let after = g.C.Collector.after in
    let yields = hide_candidate width l.a in
    fold after l.out (map yields (drop l.x-index l.xs)) ≡ fold after l.fn.out (map yields l.xs)

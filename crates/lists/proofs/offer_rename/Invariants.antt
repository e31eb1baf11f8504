use Rattle.std.proofs.Common.{◌≡◌, drop}
use Rattle.std.specs.Prelude.{fold}
use mathlib.Core.List.{map}
use Rattle.entries.specs.Entries.{width}
use Rattle.network.specs.Lists.{rename_candidate}
use Rattle.lists.proofs.offer_rename.Given as goal

abbrev pub invariant-loop-x : goal.invariant-loop-x
invariant-loop-x g l =
    let after = g.C.Collector.after in
    let yields = rename_candidate width l.targets in
    fold after l.out (map yields (drop l.x-index l.xs)) ≡ fold after l.fn.out (map yields l.xs)

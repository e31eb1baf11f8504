use Rattle.std.proofs.Common.{◌++◌, ◌+◌, drop}
use mathlib.Core.List.{flat_map}
use Rattle.std.specs.Prelude.{fold}
use Rattle.entries.specs.Entries.{width}
use Rattle.network.specs.Lists.{together_candidate, join_candidates}
use Rattle.filling.proofs.Loops.{ToOffer}
use Rattle.lists.proofs.Parts.{row, alone}
use Rattle.lists.proofs.offer_join.Given as goal

abbrev pub invariant-left : goal.invariant-left
invariant-left g l =
    ToOffer g.C.Collector.after l.out (row l.a l.ys) l.xs l.x-index (alone l.a l.xs ++ alone l.a l.ys)
    (fold g.C.Collector.after l.fn.out (join_candidates width l.a l.xs l.ys))

abbrev pub invariant-right : goal.invariant-right
invariant-right g l =
    ToOffer g.C.Collector.after l.out (together_candidate width l.a l.x) l.ys l.y-index
    (flat_map (row l.a l.ys) (drop (l.x-index + 1) l.xs) ++ (alone l.a l.xs ++ alone l.a l.ys))
    (fold g.C.Collector.after l.fn.out (join_candidates width l.a l.xs l.ys))

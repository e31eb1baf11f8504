-- The walk from the next record is left, and the area's sections from node k on.
use Rattle.std.proofs.Common.{◌≡◌, ◌+◌, ◌-◌, ◌*◌, ◌≤◌, drop, length}
use Rattle.places.specs.Finding.{node_place}
use Rattle.console.specs.Walking.{walked, most_records}
use Rattle.console.proofs.Writing.{Leaves}
use Rattle.console.proofs.print_nodes.Given as goal

abbrev pub invariant-loop-first : goal.invariant-loop-first
invariant-loop-first g l = record {
  walk : Leaves (g.W.Write.contents l.initial.out) (walked most_records l.area (drop (node_place l.bytes 0) l.bytes) 0)
      (g.W.Write.contents l.out) (walked (most_records - l.k) l.area l.rest l.k);
  there : l.sections ≡ drop (256 * l.k) l.area;
  short : l.k + length l.rest ≤ 4096;
}

abbrev pub decreases-loop-first : goal.decreases-loop-first
decreases-loop-first g l = length l.rest

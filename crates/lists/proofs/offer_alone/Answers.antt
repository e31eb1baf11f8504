use Rattle.std.proofs.Common.{refl, sym, ◌∙◌, arith, append-nil}
use Rattle.entries.proofs.Candidates.{alone_is}
use Rattle.filling.proofs.Loops.{offered_on, offered_last, offered_over}
use Rattle.lists.proofs.offer_alone.Goals as goal

pub loop-x-init : goal.loop-x-init
loop-x-init g c = record { within = omega arith; gives = rw (append-nil _) refl }

pub returns-then-is_over : goal.returns-then-is_over
returns-then-is_over g c =
    offered_over c.loop-x.invariant g.met.C.Collector.stays (sym c.is_over.ensures ∙ c.if-is_over.true)

pub loop-x-preserved : goal.loop-x-preserved
loop-x-preserved g c =
    offered_on c.loop-x.invariant c.loop-x-test.true (alone_is c.alone.ensures) c.offer_candidate.ensures

pub returns : goal.returns
returns g c = offered_last c.loop-x.invariant (omega arith) refl

use Rattle.std.proofs.Common.{refl, sym, ◌∙◌, arith}
use Rattle.std.proofs.lemmas.List.Sums.{fold-append}
use Rattle.entries.proofs.Candidates.{together_is}
use Rattle.network.specs.Lists.{join_candidates}
use Rattle.filling.proofs.Loops.{offered_on, offered_within, offered_back, offered_over, none_left}
use Rattle.lists.proofs.Parts.{alone}
use Rattle.lists.proofs.offer_join.Goals as goal

pub left-init : goal.left-init
unfolding join_candidates
left-init g c = record { within = omega arith; gives = refl }

pub right-init : goal.right-init
right-init g c = offered_within c.left.invariant c.left-test.true refl

pub returns-then-is_over : goal.returns-then-is_over
returns-then-is_over g c =
    offered_over c.left.invariant g.met.C.Collector.stays (sym c.is_over.ensures ∙ c.if-is_over.true)

pub right-preserved : goal.right-preserved
right-preserved g c =
    offered_on c.right.invariant c.right-test.true (together_is c.together.ensures) c.offer_candidate.ensures

pub left-preserved : goal.left-preserved
left-preserved g c = offered_back c.right.invariant (omega arith) c.left-test.true

pub returns : goal.returns
returns g c =
    rw (c.offer_alone-2.ensures, c.offer_alone.ensures)
    (sym (fold-append g.C.Collector.after c.left.out (alone c.args.a c.args.xs.now) (alone c.args.a c.args.ys.now))
    ∙ none_left c.left.invariant (omega arith))

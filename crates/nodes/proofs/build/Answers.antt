use Rattle.std.proofs.Common.{sym, ap, ◌∙◌}
use Rattle.std.specs.Prelude.{Some}
use Rattle.nodes.proofs.NodeLists.{built_over, built_fits}
use Rattle.nodes.proofs.build.Goals as goal

pub returns-then-t : goal.returns-then-t
returns-then-t c =
    let w = built_over _ _ c.offer_node.ensures c.args.sections.now (sym c.tally-t.ensures.over ∙ c.if-t.true) in
    record { count = w.0; area = w.1 }

pub returns : goal.returns
returns c =
    let w = built_fits _ _ c.offer_node.ensures c.args.sections.now (sym c.tally-t.ensures.over ∙ c.if-t.false) in
    record { count = ap Some c.tally-t.ensures.count ∙ w.0; area = c.store.ensures ∙ w.1 }

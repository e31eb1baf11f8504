use Rattle.nodes.proofs.NodeLists.{cut_out}
use Rattle.nodes.proofs.list_at.Goals as goal

pub returns : goal.returns
returns c = cut_out c.args.counts.now c.args.sections.now c.args.i _ _ c.min-start.ensures c.min-count.ensures

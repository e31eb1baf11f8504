use Rattle.std.proofs.Common.{arith}
use Rattle.std.proofs.lemmas.Grind.{common_steps}
use Rattle.report.specs.Text.{node_line, line}
use Rattle.report.proofs.Decimals.{decimal_is}
use Rattle.report.proofs.node_line.Goals as goal

pub returns : goal.returns
unfolding node_line line
returns c = grind (arith, common_steps, decimal_is c.args.k, decimal_is c.args.pairs)

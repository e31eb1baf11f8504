use Rattle.std.proofs.Common.{arith}
use Rattle.std.proofs.lemmas.Grind.{common_steps}
use Rattle.report.specs.Text.{first_line, line}
use Rattle.report.proofs.Decimals.{decimal_is}
use Rattle.report.proofs.refused_line.Goals as goal

pub returns : goal.returns
unfolding first_line line
returns c = grind (arith, common_steps, decimal_is c.args.number, decimal_is c.args.place)

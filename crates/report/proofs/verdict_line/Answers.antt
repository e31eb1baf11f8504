use Rattle.std.proofs.Common.{arith}
use Rattle.std.proofs.lemmas.Grind.{common_steps}
use Rattle.report.specs.Text.{line}
use Rattle.report.proofs.Decimals.{decimal_is}
use Rattle.report.proofs.verdict_line.Goals as goal

pub returns : goal.returns
unfolding line
returns c = grind (arith, common_steps, decimal_is c.args.n)

use Rattle.std.proofs.Common.{rules}
use Rattle.network.specs.Lists.{first_of, second_of}
use Rattle.report.specs.Text.{pair_line, line, hex}
use Rattle.report.proofs.pair_line.Goals as goal

pub returns : goal.returns
unfolding pair_line line hex first_of second_of
returns c = search rules

use Rattle.std.proofs.Common.{sym}
use Rattle.records.proofs.Sizes.{size_other}
use Rattle.records.proofs.size_of.Goals as goal

pub returns-in-Err : goal.returns-in-Err
returns-in-Err c = sym (size_other c.args.kind c.in-Err.ensures.1)

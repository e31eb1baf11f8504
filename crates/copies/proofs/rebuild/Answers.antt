use Rattle.std.proofs.Common.{arith}
use Rattle.std.proofs.lemmas.Grind.{common_steps}
use Rattle.records.proofs.Sizes.{size_positive}
use Rattle.copies.proofs.rebuild.Goals as goal

pub loop-rest-smaller : goal.loop-rest-smaller
loop-rest-smaller c = grind (arith, common_steps, size_positive c.first_record-r.result.kind, c.size_of.ensures)

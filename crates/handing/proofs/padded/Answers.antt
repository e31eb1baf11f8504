use Rattle.std.proofs.Common.{arith}
use Rattle.std.proofs.lemmas.List.{drop-replicate}
use Rattle.handing.proofs.padded.Goals as goal

pub returns : goal.returns
returns g c = grind (arith, drop-replicate)

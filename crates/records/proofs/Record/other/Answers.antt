use Rattle.std.proofs.Common.{refl}
use Rattle.records.specs.Records.{no_targets}
use Rattle.records.proofs.Record.other.Goals as goal

pub returns : goal.returns
unfolding no_targets
returns c = refl

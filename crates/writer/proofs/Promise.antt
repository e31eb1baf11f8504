-- Each statement of specs/Promise.antt, proved by citing.
-- Assumes nothing.
use Rattle.writer.specs.Promise.{SuccessAppends, ModelRoundTrip, FileRoundTrip, BrownoutRefused, NothingBehindCut}
use Rattle.reader.proofs.EncodingReads.{encoding_reads}
use Rattle.writer.proofs.Success.{used_part_is, used_part_says}
use Rattle.writer.proofs.RoundTrip.{model_round_trip, file_round_trip}
use Rattle.writer.proofs.Brownout.{brownout_refused, nothing_behind_cut}

pub success_appends : SuccessAppends
unfolding SuccessAppends
success_appends b used k xs end s = (used_part_is b used k xs end s, used_part_says b used k xs end s)

pub model_comes_back : ModelRoundTrip
unfolding ModelRoundTrip
model_comes_back M e b m = (model_round_trip M e b m, (encoding_reads M e).1, (encoding_reads M e).2)

pub file_comes_back : FileRoundTrip
unfolding FileRoundTrip
file_comes_back = file_round_trip

pub brownouts_are_refused : BrownoutRefused
unfolding BrownoutRefused
brownouts_are_refused = brownout_refused

pub nothing_is_added : NothingBehindCut
unfolding NothingBehindCut
nothing_is_added = nothing_behind_cut

-- The promises of the reader, each proved by citing.
-- Assumes nothing.
use Rattle.reader.specs.Promise.{CutRefused, StumpRefused, ModelFormed, OneEncoding, ModelDetermines}
use Rattle.reader.specs.Promise.{EncodingReads, SizeLimits}
use Rattle.reader.proofs.Cut.{cut_refused}
use Rattle.reader.proofs.Stump.{stump_refused}
use Rattle.reader.proofs.OneEncoding.{one_encoding, model_determines}
use Rattle.reader.proofs.Formed.{model_formed}
use Rattle.reader.proofs.Size.{size_limits}
use Rattle.reader.proofs.EncodingReads.{encoding_reads}

pub cuts_are_refused : CutRefused
unfolding CutRefused
cuts_are_refused = cut_refused

pub stumps_are_refused : StumpRefused
unfolding StumpRefused
stumps_are_refused = stump_refused

pub models_are_formed : ModelFormed
unfolding ModelFormed
models_are_formed = model_formed

pub encodings_are_one : OneEncoding
unfolding OneEncoding
encodings_are_one = one_encoding

pub models_determine : ModelDetermines
unfolding ModelDetermines
models_determine = model_determines

pub encodings_read : EncodingReads
unfolding EncodingReads
encodings_read = encoding_reads

pub sizes_are_limited : SizeLimits
unfolding SizeLimits
sizes_are_limited = size_limits

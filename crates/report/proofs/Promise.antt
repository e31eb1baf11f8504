-- The promises of the printed result, each by its proof. Assumes nothing.
use Rattle.report.specs.Promise.{ExampleIsPrinted, LongIsRefused}
use Rattle.report.proofs.Example as Example
use Rattle.report.proofs.Long as Long

pub example_printed : ExampleIsPrinted
example_printed = Example.example_is_printed

pub long_refused : LongIsRefused
long_refused = Long.long_is_refused

-- What the definitions say of document 01's example and its cases 12 and 13 is what document 01 says.
-- Assumes nothing.
use Rattle.std.proofs.Common.{◌≡◌, refl}
use mathlib.Core.List.{map}
use Rattle.events.specs.Sets.{has, set_of, count}
use Rattle.records.specs.Kinds.{body_length, size_of}
use Rattle.records.specs.Records.{no_targets}
use Rattle.decoding.specs.Bytes.{targets_in, record_of, first_record}
use Rattle.progress.specs.Progress.{start, used_with, take_record}
use Rattle.ranges.specs.Ranges.{wrong_targets}
use Rattle.tests.specs.FirstHit.{first_hit}
use Rattle.reader.specs.Scan.{scan_from, scan_of, to_reading, reading_of, said_of, says}
use Rattle.reader.specs.Cases.{example, eight, files, said}

pub cases_are_said : map says files ≡ said
unfolding
    example eight files said says said_of reading_of to_reading scan_of scan_from first_record record_of size_of body_length
    no_targets targets_in take_record used_with start first_hit wrong_targets has set_of count
cases_are_said = refl

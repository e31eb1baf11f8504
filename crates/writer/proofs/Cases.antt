-- The idle writer, by computing one call: behind a header, a machine of one state is stored, and not only reported.
-- Assumes nothing.
use Rattle.std.proofs.Common.{◌≡◌, refl, List, [], ◌∷◌, ℕ}
use Rattle.events.specs.Sets.{has, set_of, count}
use Rattle.records.specs.Kinds.{size_of, body_length}
use Rattle.records.specs.Records.{no_targets, machine_record}
use Rattle.decoding.specs.Bytes.{record_of, first_record, bytes_of, targets_in}
use Rattle.progress.specs.Progress.{start, used_with, take_record}
use Rattle.ranges.specs.Ranges.{wrong_targets}
use Rattle.tests.specs.FirstHit.{first_hit}
use Rattle.reader.specs.Scan.{scan_from, scan_of}
use Rattle.writer.specs.Append.{tested, after_scan, answer_of, buffer_after, buffer_of}
use Rattle.std.specs.Prelude.{Ok}

-- 01 02 aa aa with used length 2
abbrev pub stump : List ℕ
stump = 0x01 ∷ 0x02 ∷ 0xaa ∷ 0xaa ∷ []

pub idle_writer_excluded : (answer_of stump 2 (machine_record 1) ≡ Ok 4)
    × (buffer_of stump 2 (machine_record 1) ≡ 0x01 ∷ 0x02 ∷ 0x02 ∷ 0x01 ∷ [])
unfolding answer_of buffer_of buffer_after after_scan tested scan_of scan_from first_hit start take_record used_with first_record
    record_of bytes_of targets_in no_targets size_of body_length wrong_targets has set_of count
idle_writer_excluded = (refl, refl)

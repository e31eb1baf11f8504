-- The writer: one record behind a used length in a lent buffer, appended or refused. Document 01, "The writer adds one
-- record ..". Assumes nothing.
use Rattle.std.specs.Prelude.{cond, List, ◌++◌, ℕ, ◌+◌, ◌-◌, ltb, length, take, drop, Result, Ok, Err}
use Rattle.records.specs.declared.Record.{Record}
use Rattle.progress.specs.declared.Progress.{Progress}
use Rattle.records.specs.Kinds.{size_of}
use Rattle.decoding.specs.Bytes.{bytes_of}
use Rattle.tests.specs.FirstHit.{first_hit, unless_hit}
use Rattle.reader.specs.declared.Scan.{Scan}
use Rattle.reader.specs.declared.Scan.TheVariants.{Stopped, Finished}
use Rattle.reader.specs.Scan.{scan_of}
use Rattle.tests.specs.Reasons.{number_of, refusal}
use Rattle.tests.specs.declared.Reason.TheVariants.{TooLong, NoRoom, BadEnd}
use Rattle.tests.specs.declared.Refusal.{Refusal}

-- record r behind what g says, in a buffer of `size` bytes: tested as the reader would, without test 2; then room, 13
unfoldable pub tested : ℕ → ℕ → Record → Progress → Result ℕ Refusal
tested size used r g =
    let hit = first_hit g r (size_of r.kind) in
    unless_hit hit used
    (cond (ltb (size - used) (size_of r.kind)) (Err (refusal NoRoom 0)) (Ok (used + size_of r.kind)))

-- the used part again: refused as it was; finished, 9 with the used length as place; or stopped cleanly, and the
-- record's turn
unfoldable pub after_scan : ℕ → ℕ → Record → Result Scan Refusal → Result ℕ Refusal
after_scan size used r (Err f) = Err f
after_scan size used r (Ok (Finished g)) = Err (refusal BadEnd used)
after_scan size used r (Ok (Stopped g)) = tested size used r g

-- the answer: used length above the buffer, 13; a used part longer than a file may be, 1; then by the used part
unfoldable pub answer_of : List ℕ → ℕ → Record → Result ℕ Refusal
answer_of buffer used r =
    cond (ltb (length buffer) used) (Err (refusal NoRoom 0))
    (cond (ltb 4096 used) (Err (refusal TooLong 0))
    (after_scan (length buffer) used r (scan_of (take used buffer))))

-- every byte of the buffer afterwards: on success only the record's bytes change, on refusal none do
unfoldable pub buffer_after : Result ℕ Refusal → List ℕ → ℕ → Record → List ℕ
buffer_after (Err f) buffer used r = buffer
buffer_after (Ok end) buffer used r = take used buffer ++ (bytes_of r ++ drop end buffer)

unfoldable pub buffer_of : List ℕ → ℕ → Record → List ℕ
buffer_of buffer used r = buffer_after (answer_of buffer used r) buffer used r

-- what document 01 says of a call: the new used length, or the refusal's number and place
pub data Said : Type 0 where
  used_now : ℕ → Said
  refused : ℕ → ℕ → Said

unfoldable pub said_of : Result ℕ Refusal → Said
said_of (Ok end) = used_now end
said_of (Err f) = refused (number_of f.reason) f.place

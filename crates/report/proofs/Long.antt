-- A longer input than 4,096 bytes is refused with 1 at 0, and so are its first 4,097 bytes. Assumes nothing.
use Rattle.std.proofs.Common.{◌≡◌, List, ℕ, ◌<◌, arith, length, take, length-take-le, lt-ltb}
use Rattle.reader.specs.Scan.{reading_of}
use Rattle.report.specs.Text.{decimal_in, decimal, line, first_line}
use Rattle.report.specs.Printed.{verdict_at, printed_for, printed}
use Rattle.report.specs.Example.{too_long}
use Rattle.report.specs.Promise.{LongIsRefused}

long_refused : (s : List ℕ) → 4096 < length s → printed s ≡ too_long
unfolding printed printed_for verdict_at reading_of first_line line decimal decimal_in too_long
long_refused s h = rw (lt-ltb 4096 (length s) h)

pub long_is_refused : LongIsRefused
unfolding LongIsRefused
long_is_refused s h =
    let e : length (take 4097 s) ≡ 4097 = length-take-le 4097 s h in
    (long_refused s h, long_refused (take 4097 s) (omega arith))

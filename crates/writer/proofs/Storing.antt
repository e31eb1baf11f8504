-- Storing a record's bytes behind the used part, after a success: they fit, and the buffer is what the definition says.
-- Assumes nothing.
use Rattle.std.proofs.Common.{◌≡◌, sym, List, ◌++◌, map, ℕ, ◌+◌, ◌-◌, ◌≤◌, arith, length, take}
use Rattle.std.proofs.Common.{drop, drop-drop, length-take-le}
use Rattle.records.specs.declared.Record.{Record}
use Rattle.records.specs.Kinds.{size_of}
use Rattle.decoding.specs.Bytes.{bytes_of}
use Rattle.progress.specs.Progress.{start}
use Rattle.tests.proofs.Passing.{passed_out}
use Rattle.reader.specs.Scan.{scan_of}
use Rattle.handing.specs.Handing.{low_byte, record_array}
use Rattle.handing.proofs.Handing.{array_front}
use Rattle.writer.proofs.Answers.{Success}
use Rattle.writer.proofs.Clean.{clean_keeps, clean_place}
use Rattle.writer.proofs.Fitting.{Kept, kept_start, kept_keeps, InForm, bytes_fit}

module _ (b : List ℕ) (used : ℕ) (r : Record) (end : ℕ) (s : Success (length b) used r (scan_of (take used b)) end)
    (inside : used ≤ length b) where
  module _ (short : used ≤ 4096) (form : InForm r) where
    -- the numbers fit their bytes, so their low bytes are the record's encoding
    pub stored_encoding : map low_byte (bytes_of r) ≡ bytes_of r
    unfolding scan_of start
    stored_encoding =
        let g = s.progress in
        let long : length (take used b) ≡ used = length-take-le used b inside in
        let kept : Kept g = clean_keeps Kept kept_keeps (length (take used b)) start (take used b) g
        s.stopped kept_start in
        let place : g.place ≡ 0 + length (take used b) =
        clean_place (length (take used b)) start (take used b) g (omega arith) s.stopped in
        bytes_fit g r (size_of r.kind) (passed_out g r (size_of r.kind) s.no_hit) kept (omega arith) form

    -- where bytes with that front are written, the rest of the buffer is left
    pub stored_of : (bytes : List ℕ) → take (size_of r.kind) bytes ≡ map low_byte (bytes_of r)
        → take used b ++ (take (end - used) bytes ++ drop (end - used) (drop used b))
        ≡ take used b ++ (bytes_of r ++ drop end b)
    stored_of bytes q =
        let size : end - used ≡ size_of r.kind = omega (arith, s.ends_at) in
        let at : used + size_of r.kind ≡ end = sym s.ends_at in
        rw (size, q, stored_encoding, drop-drop (size_of r.kind) used b, at)

    -- as the record's own are
    pub stored_is : take used b ++ (take (end - used) (record_array r) ++ drop (end - used) (drop used b))
        ≡ take used b ++ (bytes_of r ++ drop end b)
    stored_is = stored_of (record_array r) (array_front r form.targets_few)

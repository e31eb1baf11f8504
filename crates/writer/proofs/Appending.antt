-- A record behind a used part that stops cleanly: what is then scanned, and what the call answers and leaves.
-- Assumes nothing.
use Rattle.std.proofs.Common.{◌≡◌, refl, sym, ap, ◌∙◌, ◌≢◌, List, [], ◌++◌, append-nil, append_assoc, ℕ, suc}
use Rattle.std.proofs.Common.{◌+◌, ◌≤◌, ◌<◌, arith, length, drop, length-append, length-drop, take_at}
use lib.Seq.{drop-append-add}
use Rattle.records.specs.declared.Record.{Record}
use Rattle.progress.specs.declared.Progress.{Progress}
use Rattle.records.specs.Kinds.{end_kind, size_of, body_length}
use Rattle.decoding.specs.Bytes.{first_record, bytes_of}
use Rattle.progress.specs.Progress.{start, take_record}
use Rattle.tests.specs.FirstHit.{first_hit}
use Rattle.decoding.proofs.Decodes.{Decodes}
use Rattle.records.proofs.Sizes.{size_positive}
use Rattle.reader.specs.declared.Scan.TheVariants.{Stopped, Finished}
use Rattle.reader.specs.Scan.{scan_from, scan_of}
use Rattle.reader.proofs.Turns.{rest, scan_stopped, scan_finished, scan_next}
use Rattle.writer.specs.Append.{after_scan, answer_of, buffer_after, buffer_of}
use Rattle.writer.proofs.Answers.{tested_fits, answer_is}
use Rattle.writer.proofs.Clean.{clean_extends}
use Rattle.std.specs.Prelude.{Ok}

module _ (s : List ℕ) (g : Progress) (r : Record) (clean : scan_of s ≡ Ok (Stopped g))
    (no_hit : first_hit g r (size_of r.kind) ≡ Ok tt) (d : Decodes r) where
  back : first_record (bytes_of r) ≡ r
  back = rw (append-nil (bytes_of r)) at (d.comes_back [])

  on : scan_of (s ++ bytes_of r) ≡ scan_from (suc (body_length r.kind)) g (bytes_of r)
  unfolding scan_of size_of
  on =
      clean_extends (length s) start s g (omega arith) clean (bytes_of r) (length (s ++ bytes_of r))
      (omega (arith, length-append s (bytes_of r)))
      ∙ ap (λ (f : ℕ). scan_from f g (bytes_of r)) d.sized

  tested : first_hit g (first_record (bytes_of r)) (length (bytes_of r)) ≡ Ok tt
  tested = rw (back, d.sized) no_hit

  some : 0 < length (bytes_of r)
  some = omega (arith, d.sized, size_positive r.kind)

  nothing_left : length (rest (bytes_of r)) ≡ 0
  nothing_left = rw back (length-drop (size_of r.kind) (bytes_of r) ∙ omega (arith, d.sized))

  pub end_finishes : r.kind ≡ end_kind → scan_of (s ++ bytes_of r) ≡ Ok (Finished (take_record g r))
  end_finishes k = on ∙ scan_finished (body_length r.kind) g (bytes_of r) some tested (rw back k) ∙ rw back

  pub other_stops : r.kind ≢ end_kind → scan_of (s ++ bytes_of r) ≡ Ok (Stopped (take_record g r))
  other_stops k =
      on ∙ scan_next (body_length r.kind) g (bytes_of r) some tested (λ q. k (rw back at q))
      ∙ ap (λ (x : Record). scan_from (body_length r.kind) (take_record g x) (rest (bytes_of r))) back
      ∙ scan_stopped (body_length r.kind) (take_record g r) (rest (bytes_of r)) nothing_left

-- behind a used part p of the buffer p ++ t, with room: appended, and the record's bytes take the place of t's first
module _ (p t : List ℕ) (g : Progress) (r : Record) (clean : scan_of p ≡ Ok (Stopped g)) (short : length p ≤ 4096)
    (no_hit : first_hit g r (size_of r.kind) ≡ Ok tt) (room : size_of r.kind ≤ length t) where
  pub appends : answer_of (p ++ t) (length p) r ≡ Ok (length p + size_of r.kind)
  unfolding after_scan
  appends =
      let long : length (p ++ t) ≡ length p + length t = length-append p t in
      answer_is (p ++ t) (length p) r (omega arith) short
      ∙ rw (take_at p t (length p) refl, clean)
      (sym (tested_fits (length (p ++ t)) (length p) r g no_hit (omega arith)))

  pub appends_buffer : buffer_of (p ++ t) (length p) r ≡ (p ++ bytes_of r) ++ drop (size_of r.kind) t
  unfolding buffer_of buffer_after
  appends_buffer =
      rw (appends, take_at p t (length p) refl, drop-append-add p t (size_of r.kind))
      (sym (append_assoc p (bytes_of r) (drop (size_of r.kind) t)))

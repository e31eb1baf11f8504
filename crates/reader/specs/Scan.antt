-- From bytes to the answer: record by record, then what document 01 says of the file ("Refusal numbers").
-- Assumes nothing.
use Rattle.std.specs.Prelude.{cond, List, ℕ, zero, suc, ltb, eqb, length, drop, Result, Ok, Err}
use Rattle.progress.specs.declared.Progress.{Progress}
use Rattle.records.specs.Kinds.{end_kind, size_of, is}
use Rattle.decoding.specs.Bytes.{first_record}
use Rattle.progress.specs.Progress.{start, take_record}
use Rattle.tests.specs.declared.Reason.TheVariants.{TooLong, CutShort}
use Rattle.tests.specs.declared.Refusal.{Refusal}
use Rattle.tests.specs.Reasons.{number_of, refusal}
use Rattle.tests.specs.FirstHit.{first_hit, unless_hit}
use Rattle.reader.specs.declared.Scan.{Scan}
use Rattle.reader.specs.declared.Scan.TheVariants.{Stopped, Finished}

-- where reading stops that has come as far as g says and has the bytes b left, in at most `fuel` records: cleanly
-- where a record should begin, behind an end record, or at the first record that a test hits
unfoldable pub scan_from : ℕ → Progress → List ℕ → Result Scan Refusal
scan_from zero g b = Ok (Stopped g)
scan_from (suc fuel) g b =
    let r = first_record b in
    cond (eqb (length b) 0) (Ok (Stopped g))
    (unless_hit (first_hit g r (length b)) g.place
    (cond (is end_kind r) (Ok (Finished (take_record g r)))
    (scan_from fuel (take_record g r) (drop (size_of r.kind) b))))

-- where reading the bytes s stops; a record has at least one byte, so the fuel suffices
unfoldable pub scan_of : List ℕ → Result Scan Refusal
scan_of s = scan_from (length s) start s

-- a file that stops where a record should begin: 2 there
unfoldable pub to_reading : Result Scan Refusal → Result Progress Refusal
to_reading (Ok (Stopped g)) = Err (refusal CutShort g.place)
to_reading (Ok (Finished g)) = Ok g
to_reading (Err f) = Err f

-- the answer for a file s: test 1, then record by record
unfoldable pub reading_of : List ℕ → Result Progress Refusal
reading_of s = cond (ltb 4096 (length s)) (Err (refusal TooLong 0)) (to_reading (scan_of s))

-- what document 01 says of a file: readable, or refused with number and place
pub data Said : Type 0 where
  readable : Said
  refused : ℕ → ℕ → Said

-- document 01's number and place for each answer
unfoldable pub said_of : Result Progress Refusal → Said
said_of (Ok g) = readable
said_of (Err f) = refused (number_of f.reason) f.place

-- what document 01 says of the file s
unfoldable pub says : List ℕ → Said
says s = said_of (reading_of s)

-- The reader's refusal numbers are at most 10. Assumes nothing.
use Rattle.std.proofs.Common.{◌≡◌, refl, Bool, true, false, cond, List, ℕ, zero, suc, ◌≤◌, arith, ltb, eqb}
use Rattle.std.proofs.Common.{length, drop}
use Rattle.tests.specs.declared.Refusal.{Refusal}
use Rattle.records.specs.declared.Record.{Record}
use Rattle.progress.specs.declared.Progress.{Progress}
use Rattle.records.specs.Kinds.{size_of, end_kind, is}
use Rattle.decoding.specs.Bytes.{first_record}
use Rattle.progress.specs.Progress.{start, take_record}
use Rattle.ranges.specs.Ranges.{out_of_range}
use Rattle.tests.specs.Tests.{bad_kind, cut_short, misplaced, too_many, bad_operand, not_above, ninth_event, bad_end}
use Rattle.tests.specs.FirstHit.{first_hit, unless_hit}
use Rattle.tests.specs.declared.Reason.{Reason}
use Rattle.tests.specs.declared.Reason.TheVariants.{UnknownKind, CutShort, Misplaced, TooMany, OutOfRange, BadOperand}
use Rattle.tests.specs.declared.Reason.TheVariants.{NotAbove, NinthEvent, BadEnd, TooLong}
use Rattle.std.specs.Prelude.{⊤, Result, Ok, Err}
use Rattle.reader.specs.declared.Scan.{Scan}
use Rattle.reader.specs.declared.Scan.TheVariants as Scanned
use Rattle.reader.specs.Scan.{scan_from, scan_of, to_reading, reading_of}
use Rattle.tests.specs.Reasons.{refusal, number_of}

-- a test that hit has a number of at most 10
abbrev Small : Result ⊤ Reason → Type 0
Small (Ok u) = Unit {0}
Small (Err reason) = number_of reason ≤ 10

most_of : (b : Bool) (x y : Result ⊤ Reason) → Small x → Small y → Small (cond b x y)
most_of true x y p q = p
most_of false x y p q = q

hit_most : (g : Progress) (r : Record) (left : ℕ) → Small (first_hit g r left)
unfolding first_hit
hit_most g r left =
    most_of (bad_kind r) (Err UnknownKind) _ (omega arith) (most_of (cut_short r left) (Err CutShort) _ (omega arith)
    (most_of (misplaced g r) (Err Misplaced) _ (omega arith) (most_of (too_many g r) (Err TooMany) _ (omega arith)
    (most_of (out_of_range g r) (Err OutOfRange) _ (omega arith)
    (most_of (bad_operand g r) (Err BadOperand) _ (omega arith)
    (most_of (not_above g r) (Err NotAbove) _ (omega arith)
    (most_of (ninth_event g r) (Err NinthEvent) _ (omega arith)
    (most_of (bad_end g r left) (Err BadEnd) (Ok tt) (omega arith) tt))))))))

scan_most : (f : ℕ) (g : Progress) (b : List ℕ) (q : Refusal) → scan_from f g b ≡ Err q → number_of q.reason ≤ 10
unfolding scan_from
scan_most zero g b q e = let z : ◌≡◌ {A = ℕ} 0 1 = cc in absurd (omega arith)
scan_most (suc f) g b q e =
    at (eqb (length b) 0) (first_hit g (first_record b) (length b)) (is end_kind (first_record b))
    (take_record g (first_record b))
    (scan_from f (take_record g (first_record b)) (drop (size_of (first_record b).kind) b)) e
    (scan_most f (take_record g (first_record b)) (drop (size_of (first_record b).kind) b) q)
    (hit_most g (first_record b) (length b))
  where
    at : (x : Bool) (y : Result ⊤ Reason) (z : Bool) (p : Progress) (n : Result Scan Refusal)
        → cond x (Ok (Scanned.Stopped g)) (unless_hit y g.place (cond z (Ok (Scanned.Finished p)) n)) ≡ Err q
        → (n ≡ Err q → number_of q.reason ≤ 10) → Small y → number_of q.reason ≤ 10
    at true y z p n e ih m = let w : ◌≡◌ {A = ℕ} 0 1 = cc in absurd (omega arith)
    at false (Ok u) true p n e ih m = let w : ◌≡◌ {A = ℕ} 0 1 = cc in absurd (omega arith)
    at false (Ok u) false p n e ih m = ih e
    at false (Err reason) z p n e ih m = let w : refusal reason g.place ≡ q = cc in rw (← w) m

pub reader_number : (s : List ℕ) (f : Refusal) → reading_of s ≡ Err f → number_of f.reason ≤ 10
unfolding reading_of to_reading scan_of
reader_number s f e = at (ltb 4096 (length s)) (scan_from (length s) start s) refl e
  where
    at : (x : Bool) (v : Result Scan Refusal) → scan_from (length s) start s ≡ v
        → cond x (Err (refusal TooLong 0)) (to_reading v) ≡ Err f → number_of f.reason ≤ 10
    at true v w e = let z : refusal TooLong 0 ≡ f = cc in rw (← z) (omega arith)
    at false (Ok (Scanned.Stopped g)) w e = let z : refusal CutShort g.place ≡ f = cc in rw (← z) (omega arith)
    at false (Ok (Scanned.Finished g)) w e = let z : ◌≡◌ {A = ℕ} 0 1 = cc in absurd (omega arith)
    at false (Err q) w e =
        let z : q ≡ f = cc in rw (← z) (scan_most (length s) start s q w)

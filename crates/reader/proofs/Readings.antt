-- What document 01 says of a file, and the reading and the scan behind it.
-- Assumes nothing.
use Rattle.std.proofs.lemmas.Bool.Decides.{nat_tests}
use Rattle.std.proofs.Common.{◌≡◌, refl, sym, ap, List, ℕ, ◌≤◌, ◌<◌, arith, length}
use Rattle.std.proofs.Common.{lt-ltb, le-ltb}
use Rattle.progress.specs.declared.Progress.{Progress}
use Rattle.reader.specs.declared.Scan.{Scan}
use Rattle.reader.specs.declared.Scan.TheVariants.{Stopped, Finished}
use Rattle.reader.specs.Scan.{scan_of, to_reading, reading_of, Said, readable, refused, said_of, says}
use Rattle.tests.specs.declared.Reason.{Reason}
use Rattle.tests.specs.Reasons.{number_of, refusal}
use Rattle.std.specs.Prelude.{Result, Ok, Err}
use Rattle.tests.specs.declared.Reason.TheVariants.{TooLong}
use Rattle.tests.specs.declared.Refusal.{Refusal}

pub reads_long : (s : List ℕ) → 4096 < length s → Err (refusal TooLong 0) ≡ reading_of s
unfolding reading_of
reads_long s h = simp (lt-ltb 4096 (length s) h)

pub reads_scan : (s : List ℕ) (v : Result Scan Refusal) → length s ≤ 4096 → v ≡ scan_of s → to_reading v ≡ reading_of s
unfolding reading_of
reads_scan s v h e = simp (le-ltb 4096 (length s) h, e)

-- readable: no longer than 4,096 bytes, and the scan finished
pub record Finishes (s : List ℕ) : Type 0 where
  pub short : length s ≤ 4096
  pub at_end : Progress
  pub finished : scan_of s ≡ Ok (Finished at_end)

pub readable_out : (s : List ℕ) → says s ≡ readable → Finishes s
unfolding says said_of reading_of to_reading
readable_out s e = grind (arith, nat_tests)

module _ (s : List ℕ) (h : length s ≤ 4096) where
  pub readable_in : (g : Progress) → scan_of s ≡ Ok (Finished g) → says s ≡ readable
  unfolding says said_of to_reading
  readable_in g e = ap said_of (sym (reads_scan s (Ok (Finished g)) h (sym e)))

  pub stopped_says : (g : Progress) → scan_of s ≡ Ok (Stopped g) → says s ≡ refused 2 g.place
  unfolding says said_of to_reading
  stopped_says g e = ap said_of (sym (reads_scan s (Ok (Stopped g)) h (sym e)))

  pub refused_says : (reason : Reason) (place : ℕ) → scan_of s ≡ Err (refusal reason place)
      → says s ≡ refused (number_of reason) place
  unfolding says said_of to_reading
  refused_says reason place e = ap said_of (sym (reads_scan s (Err (refusal reason place)) h (sym e)))

-- a file that is not readable is refused
pub refused_in : (s : List ℕ) → (says s ≡ readable → ⊥) → (number : ℕ) × (place : ℕ) × (says s ≡ refused number place)
refused_in s n = go (says s) refl
  where
    go : (x : Said) → says s ≡ x → (number : ℕ) × (place : ℕ) × (says s ≡ refused number place)
    go readable e = absurd (n e)
    go (refused number place) e = (number, place, e)

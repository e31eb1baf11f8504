-- The writer's answer and buffer, way by way.
-- Assumes nothing.
use Rattle.std.proofs.Common.{◌≡◌, refl, sym, ◌∙◌, Bool, true, false, cond, List, ◌++◌, ℕ, ◌+◌, ◌-◌, ◌≤◌}
use Rattle.std.proofs.Common.{arith, ltb, length, take, drop, ltb-false, le-ltb}
use Rattle.records.specs.declared.Record.{Record}
use Rattle.progress.specs.declared.Progress.{Progress}
use Rattle.tests.specs.declared.Refusal.{Refusal}
use Rattle.records.specs.Kinds.{size_of}
use Rattle.decoding.specs.Bytes.{bytes_of}
use Rattle.tests.specs.FirstHit.{first_hit, unless_hit}
use Rattle.tests.specs.declared.Reason.{Reason}
use Rattle.std.specs.Prelude.{⊤, Result, Ok, Err}
use Rattle.reader.specs.declared.Scan.{Scan}
use Rattle.reader.specs.declared.Scan.TheVariants.{Stopped, Finished}
use Rattle.reader.specs.Scan.{scan_of}
use Rattle.writer.specs.Append.{tested, after_scan, answer_of, buffer_after, buffer_of}
use Rattle.tests.specs.Reasons.{refusal}
use Rattle.tests.specs.declared.Reason.TheVariants.{NoRoom}

-- a record behind g that no test hits and that has room
module _ (size used : ℕ) (r : Record) (g : Progress) where
  pub tested_fits : first_hit g r (size_of r.kind) ≡ Ok tt → size_of r.kind ≤ size - used
      → Ok (used + size_of r.kind) ≡ tested size used r g
  unfolding tested
  tested_fits e h = simp (e, le-ltb (size - used) (size_of r.kind) h)

-- a success: the used part stopped cleanly at g, no test hit the record, and it fits
pub record Success (size used : ℕ) (r : Record) (v : Result Scan Refusal) (end : ℕ) : Type 0 where
  pub progress : Progress
  pub stopped : v ≡ Ok (Stopped progress)
  pub no_hit : first_hit progress r (size_of r.kind) ≡ Ok tt
  pub ends_at : end ≡ used + size_of r.kind
  pub room : size_of r.kind ≤ size - used

pub success_out : (size used : ℕ) (r : Record) (v : Result Scan Refusal) (end : ℕ) → Ok end ≡ after_scan size used r v
    → Success size used r v end
unfolding after_scan tested
success_out size used r (Err f) end e = let z : ◌≡◌ {A = ℕ} 0 1 = cc in absurd (omega arith)
success_out size used r (Ok (Finished g)) end e = let z : ◌≡◌ {A = ℕ} 0 1 = cc in absurd (omega arith)
success_out size used r (Ok (Stopped g)) end e =
    at (first_hit g r (size_of r.kind)) refl (ltb (size - used) (size_of r.kind)) refl e
  where
    at : (x : Result ⊤ Reason) → first_hit g r (size_of r.kind) ≡ x → (y : Bool)
        → ltb (size - used) (size_of r.kind) ≡ y
        → Ok end ≡ unless_hit x used (cond y (Err (refusal NoRoom 0)) (Ok (used + size_of r.kind)))
        → Success size used r (Ok (Stopped g)) end
    at (Err reason) q y p e = let z : ◌≡◌ {A = ℕ} 0 1 = cc in absurd (omega arith)
    at (Ok u) q true p e = let z : ◌≡◌ {A = ℕ} 0 1 = cc in absurd (omega arith)
    at (Ok u) q false p e =
        record {
          progress = g;
          stopped = refl;
          no_hit = q;
          ends_at = (cc);
          room = ltb-false (size - used) (size_of r.kind) p;
        }

-- the contract of the append: refused behind the used part's limits, or appended
module _ (b : List ℕ) (used : ℕ) (r : Record) where
  module _ (h : used ≤ length b) (l : used ≤ 4096) where
    pub answer_is : answer_of b used r ≡ after_scan (length b) used r (scan_of (take used b))
    unfolding answer_of
    answer_is = simp (le-ltb (length b) used h, le-ltb 4096 used l)

    pub rejected : (f : Refusal) → Err f ≡ after_scan (length b) used r (scan_of (take used b))
        → (Err f ≡ answer_of b used r) × (b ≡ buffer_of b used r)
    unfolding buffer_of buffer_after
    rejected f e = let a : Err f ≡ answer_of b used r = e ∙ sym answer_is in (a, rw (← a))

    pub appended : (end : ℕ) (now : List ℕ) → Ok end ≡ after_scan (length b) used r (scan_of (take used b))
        → now ≡ take used b ++ (bytes_of r ++ drop end b)
        → (Ok end ≡ answer_of b used r) × (now ≡ buffer_of b used r)
    unfolding buffer_of buffer_after
    appended end now e n = let a : Ok end ≡ answer_of b used r = e ∙ sym answer_is in (a, rw (← a) n)

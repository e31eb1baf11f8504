-- One turn of the scan: what it answers, and what is known of it where the scan finished.
-- Assumes nothing.
use Rattle.std.proofs.lemmas.Bool.Decides.{nat_tests}
use Rattle.std.proofs.Common.{◌≡◌, refl, List, ◌≢◌, ◌⊎◌, ℕ, zero, suc, ◌≤◌}
use Rattle.std.proofs.Common.{◌<◌, arith, length, drop, eq-eqb, ne_eqb, ltb-false}
use Rattle.progress.specs.declared.Progress.{Progress}
use Rattle.records.specs.Kinds.{end_kind, size_of}
use Rattle.decoding.specs.Bytes.{first_record}
use Rattle.progress.specs.Progress.{take_record}
use Rattle.tests.specs.FirstHit.{first_hit}
use Rattle.tests.specs.declared.Reason.{Reason}
use Rattle.tests.proofs.Passing.{Passed, passed_out}
use Rattle.reader.specs.declared.Scan.TheVariants.{Stopped, Finished}
use Rattle.reader.specs.Scan.{scan_from}
use Rattle.tests.specs.Reasons.{refusal}
use Rattle.std.specs.Prelude.{Ok, Err}

-- what stands behind the first record
abbrev pub rest : List ℕ → List ℕ
rest b = drop (size_of (first_record b).kind) b

module _ (fuel : ℕ) (g : Progress) (b : List ℕ) where
  pub scan_stopped : length b ≡ 0 → scan_from fuel g b ≡ Ok (Stopped g)
  unfolding scan_from
  scan_stopped h = go fuel
    where
      go : (f : ℕ) → scan_from f g b ≡ Ok (Stopped g)
      go zero = refl
      go (suc f) = simp (eq-eqb (length b) 0 h)

  pub scan_refused : (reason : Reason) → 0 < length b → first_hit g (first_record b) (length b) ≡ Err reason
      → scan_from (suc fuel) g b ≡ Err (refusal reason g.place)
  unfolding scan_from
  scan_refused reason h q = simp (ne_eqb (length b) 0 (λ z. omega arith), q)

  pub scan_finished : 0 < length b → first_hit g (first_record b) (length b) ≡ Ok tt → (first_record b).kind ≡ end_kind
      → scan_from (suc fuel) g b ≡ Ok (Finished (take_record g (first_record b)))
  unfolding scan_from
  scan_finished h q k = simp (ne_eqb (length b) 0 (λ z. omega arith), q, eq-eqb (first_record b).kind end_kind k)

  pub scan_next : 0 < length b → first_hit g (first_record b) (length b) ≡ Ok tt → (first_record b).kind ≢ end_kind
      → scan_from (suc fuel) g b ≡ scan_from fuel (take_record g (first_record b)) (rest b)
  unfolding scan_from
  scan_next h q k = simp (ne_eqb (length b) 0 (λ z. omega arith), q, ne_eqb (first_record b).kind end_kind k)

-- a turn of a scan that finished: an end record, or another and the scan goes on
abbrev pub Then : ℕ → Progress → List ℕ → Progress → Type 0
Then f g b h =
    (((first_record b).kind ≡ end_kind) × (take_record g (first_record b) ≡ h))
    ⊎ (((first_record b).kind ≢ end_kind) × (scan_from f (take_record g (first_record b)) (rest b) ≡ Ok (Finished h)))

pub record Turn (f : ℕ) (g : Progress) (b : List ℕ) (h : Progress) : Type 0 where
  pub some_left : 0 < length b
  pub no_hit : first_hit g (first_record b) (length b) ≡ Ok tt
  pub then : Then f g b h

pub positive : (k : ℕ) → (k ≡ 0 → ⊥) → 0 < k
positive k a = omega arith

pub turn_out : (f : ℕ) (g : Progress) (b : List ℕ) (h : Progress) → scan_from (suc f) g b ≡ Ok (Finished h) → Turn f g b h
unfolding scan_from
turn_out f g b h e = grind (arith, nat_tests)

pub none_finished : {X : Type 0} (g h : Progress) (b : List ℕ) → scan_from 0 g b ≡ Ok (Finished h) → X
unfolding scan_from
none_finished g h b e = let w : ◌≡◌ {A = ℕ} 0 1 = cc in absurd (omega arith)

pub turn_passed : (f : ℕ) (g : Progress) (b : List ℕ) (h : Progress) → Turn f g b h
    → Passed g (first_record b) (length b)
turn_passed f g b h k = passed_out g (first_record b) (length b) k.no_hit

pub turn_whole : (f : ℕ) (g : Progress) (b : List ℕ) (h : Progress) → Turn f g b h
    → size_of (first_record b).kind ≤ length b
turn_whole f g b h k = ltb-false (length b) (size_of (first_record b).kind) (turn_passed f g b h k).whole

-- The scan's loop: what holds whenever it comes round.
-- Assumes nothing.
use Rattle.std.proofs.Common.{◌≡◌, refl, sym, ap, ◌∙◌, List, ◌≢◌, ℕ, zero, suc, ◌+◌, ◌-◌, ◌≤◌, ◌<◌, arith}
use Rattle.std.proofs.Common.{length, take, drop, length-drop, drop-drop, take_all, ltb-false}
use Rattle.records.specs.declared.Record.{Record}
use Rattle.progress.specs.declared.Progress.{Progress}
use Rattle.records.specs.Kinds.{end_kind, size_of}
use Rattle.decoding.specs.Bytes.{first_record}
use Rattle.progress.specs.Progress.{start, take_record, Within}
use Rattle.tests.specs.FirstHit.{first_hit, unless_hit}
use Rattle.tests.specs.declared.Refusal.{Refusal}
use Rattle.records.proofs.Sizes.{size_positive}
use Rattle.tests.proofs.Passing.{passed_out}
use Rattle.tests.proofs.Limits.{within_keeps}
use Rattle.reader.specs.declared.Scan.TheVariants.{Stopped, Finished}
use Rattle.reader.specs.Scan.{scan_from, scan_of}
use Rattle.reader.proofs.Turns.{scan_stopped, scan_refused, scan_finished, scan_next}
use Rattle.tests.specs.Reasons.{refusal}
use Rattle.std.specs.Prelude.{⊤, Result, Ok, Err}
use Rattle.tests.specs.declared.Reason.{Reason}

-- a part that runs to the end
pub tail_is : (s : List ℕ) (at : ℕ) → take (length s - at) (drop at s) ≡ drop at s
tail_is s at = take_all (length s - at) (drop at s) (omega (arith, length-drop at s))

pub record Scanning (s : List ℕ) (g : Progress) : Type 0 where
  pub within : Within g
  pub inside : g.place ≤ length s
  pub fuel : ℕ
  pub enough : length s ≤ g.place + fuel
  pub same : scan_from fuel g (drop g.place s) ≡ scan_of s

pub begins : (s : List ℕ) → length s ≤ 4096 → Scanning s start
unfolding start scan_of
begins s h =
    record {
      within =
          record {
            place_limit = omega arith;
            machines_limit = omega arith;
            steps_limit = omega arith;
            nodes_limit = omega arith;
            leaves_limit = omega arith;
          };
      inside = omega arith;
      fuel = length s;
      enough = omega arith;
      same = refl;
    }

module _ (s : List ℕ) (g : Progress) (i : Scanning s g) where
  pub stops : length s ≤ g.place → Ok (Stopped g) ≡ scan_of s
  stops h = sym (scan_stopped i.fuel g (drop g.place s) (length-drop g.place s ∙ omega arith)) ∙ i.same

  -- the bytes that are left
  abbrev rest : List ℕ
  rest = take (length s - g.place) (drop g.place s)

  module _ (r : Record) (er : r ≡ first_record rest) (more : g.place < length s) where
    some_left : 0 < length (drop g.place s)
    some_left = omega (arith, length-drop g.place s)

    turn : (f : ℕ) × (length s ≤ g.place + suc f) × (scan_from (suc f) g (drop g.place s) ≡ scan_of s)
    turn = go i.fuel i.enough i.same
      where
        go : (f : ℕ) → length s ≤ g.place + f → scan_from f g (drop g.place s) ≡ scan_of s
            → (f' : ℕ) × (length s ≤ g.place + suc f') × (scan_from (suc f') g (drop g.place s) ≡ scan_of s)
        go zero h e = absurd (omega arith)
        go (suc f) h e = (f, h, e)

    tested : (hit : Result ⊤ Reason) → first_hit g r (length rest) ≡ hit
        → first_hit g (first_record (drop g.place s)) (length (drop g.place s)) ≡ hit
    tested hit e = rw (← tail_is s g.place, ← er) e

    pub refuses : (hit : Result ⊤ Reason) → first_hit g r (length rest) ≡ hit → (f : Refusal)
        → unless_hit {T = ⊤} hit g.place (Ok tt) ≡ Err f → Err f ≡ scan_of s
    refuses (Ok u) e f q = cc
    refuses (Err reason) e f q =
        let w : f ≡ refusal reason g.place = cc in
        ap Err w ∙ sym (scan_refused turn.0 g (drop g.place s) reason some_left (tested (Err reason) e)) ∙ turn.2

    pub finishes : first_hit g r (length rest) ≡ Ok tt → r.kind ≡ end_kind → Ok (Finished (take_record g r)) ≡ scan_of s
    finishes e k =
        rw (er, tail_is s g.place)
        (sym (scan_finished turn.0 g (drop g.place s) some_left (tested (Ok tt) e) (rw (← tail_is s g.place, ← er) k)) ∙ turn.2)

    fits : first_hit g r (length rest) ≡ Ok tt → g.place + size_of r.kind ≤ length s
    fits e =
        omega (
          arith,
          ltb-false (length rest) (size_of r.kind) (passed_out g r (length rest) e).whole,
          ap length (tail_is s g.place),
          length-drop g.place s,
        )

    pub shorter : first_hit g r (length rest) ≡ Ok tt → length s - (take_record g r).place < length s - g.place
    unfolding take_record
    shorter e = omega (arith, fits e, size_positive r.kind)

    pub goes_on : length s ≤ 4096 → first_hit g r (length rest) ≡ Ok tt → r.kind ≢ end_kind
        → Scanning s (take_record g r)
    unfolding take_record
    goes_on small e k =
        record {
          within = within_keeps g r (length rest) i.within (passed_out g r (length rest) e) (omega (arith, fits e));
          inside = fits e;
          fuel = turn.0;
          enough = omega (arith, size_positive r.kind, turn.1);
          same = rw (← drop-drop (size_of r.kind) g.place s) (next turn.0 ∙ turn.2);
        }
      where
        next : (f : ℕ)
            → scan_from f (take_record g r) (drop (size_of r.kind) (drop g.place s)) ≡ scan_from (suc f) g
            (drop g.place s)
        next f =
            rw (er, tail_is s g.place)
            (sym (scan_next f g (drop g.place s) some_left (tested (Ok tt) e) (rw (← tail_is s g.place, ← er) k)))

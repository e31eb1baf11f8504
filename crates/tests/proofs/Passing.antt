-- A record that no test hits: every test false, and the other way round; and the two hits that cut files meet.
-- Assumes nothing.
use Rattle.std.proofs.Common.{◌≡◌, Bool, true, false, cond, ℕ, arith}
use Rattle.std.specs.Prelude.{⊤, Result, Ok, Err}
use Rattle.tests.specs.declared.Reason.{Reason}
use Rattle.tests.specs.declared.Reason.TheVariants.{CutShort, UnknownKind, Misplaced, OutOfRange, BadOperand, NotAbove}
use Rattle.tests.specs.declared.Reason.TheVariants.{TooMany, BadEnd, NinthEvent}
use Rattle.records.specs.declared.Record.{Record}
use Rattle.progress.specs.declared.Progress.{Progress}
use Rattle.tests.specs.Tests.{bad_kind, cut_short, misplaced, too_many, bad_operand, not_above, ninth_event, bad_end}
use Rattle.ranges.specs.Ranges.{out_of_range}
use Rattle.tests.specs.FirstHit.{first_hit}
use Rattle.std.proofs.lemmas.Bool.Decides.{nat_tests}

pub record Passed (g : Progress) (r : Record) (left : ℕ) : Type 0 where
  pub kind_known : bad_kind r ≡ false
  pub whole : cut_short r left ≡ false
  pub placed : misplaced g r ≡ false
  pub few : too_many g r ≡ false
  pub ranged : out_of_range g r ≡ false
  pub operands_free : bad_operand g r ≡ false
  pub above : not_above g r ≡ false
  pub eight_events : ninth_event g r ≡ false
  pub good_end : bad_end g r left ≡ false

abbrev no_hit : Result ⊤ Reason
no_hit = Ok tt

none_hit : (a b c d e f h i j : Bool)
    → cond a (Err UnknownKind) (cond b (Err CutShort) (cond c (Err Misplaced) (cond d (Err TooMany)
    (cond e (Err OutOfRange) (cond f (Err BadOperand) (cond h (Err NotAbove) (cond i (Err NinthEvent)
    (cond j (Err BadEnd) no_hit)))))))) ≡ no_hit
    → (a ≡ false) × (b ≡ false) × (c ≡ false) × (d ≡ false) × (e ≡ false) × (f ≡ false) × (h ≡ false) × (i ≡ false)
    × (j ≡ false)
none_hit a b c d e f h i j q = grind arith

module _ (g : Progress) (r : Record) (left : ℕ) where
  pub passed_out : first_hit g r left ≡ Ok tt → Passed g r left
  unfolding first_hit
  passed_out q =
      let n = none_hit _ _ _ _ _ _ _ _ _ q in
      record {
        kind_known = n.0;
        whole = n.1;
        placed = n.2;
        few = n.3;
        ranged = n.4;
        operands_free = n.5;
        above = n.6;
        eight_events = n.7;
        good_end = n.8;
      }

  pub passed_in : Passed g r left → first_hit g r left ≡ Ok tt
  unfolding first_hit
  passed_in p = grind (arith, nat_tests)

  pub hit_cut : bad_kind r ≡ false → cut_short r left ≡ true → first_hit g r left ≡ Err CutShort
  unfolding first_hit
  hit_cut a b = simp (a, b)

  -- whether a record passes depends on the bytes left by the tests 2 and 9 alone
  pub pass_with : (other : ℕ) → Passed g r other → cut_short r left ≡ false → bad_end g r left ≡ false
      → first_hit g r left ≡ Ok tt
  unfolding first_hit
  pass_with other p b e =
      simp (p.kind_known, b, p.placed, p.few, p.ranged, p.operands_free, p.above, p.eight_events, e)

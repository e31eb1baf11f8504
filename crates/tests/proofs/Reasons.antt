-- A reason is known by its number, and the first hit by document 01's numbers. Assumes nothing.
use Rattle.std.proofs.Common.{◌≡◌, refl, sym, ap, ◌∙◌, Bool, true, false, cond, ℕ, eqb}
use Rattle.std.specs.Prelude.{⊤, Result, Ok, Err}
use Rattle.records.specs.declared.Record.{Record}
use Rattle.progress.specs.declared.Progress.{Progress}
use Rattle.tests.specs.declared.Reason.{Reason}
use Rattle.tests.specs.declared.Reason.TheVariants.{TooLong, CutShort, UnknownKind, Misplaced, OutOfRange, BadOperand}
use Rattle.tests.specs.declared.Reason.TheVariants.{NotAbove, TooMany, BadEnd, NinthEvent, TooManyPairs, EmptyFirst}
use Rattle.tests.specs.declared.Reason.TheVariants.{NoRoom}
use Rattle.tests.specs.declared.Refusal.{Refusal}
use Rattle.tests.specs.Reasons.{number_of}
use Rattle.tests.specs.Tests.{bad_kind, cut_short, misplaced, too_many, bad_operand, not_above, ninth_event, bad_end}
use Rattle.tests.specs.FirstHit.{first_hit}
use Rattle.ranges.specs.Ranges.{out_of_range}

-- the reason of a number, 13 for any that is none
reason_of : ℕ → Reason
reason_of n =
    cond (eqb n 1) TooLong (cond (eqb n 2) CutShort (cond (eqb n 3) UnknownKind (cond (eqb n 4) Misplaced
    (cond (eqb n 5) OutOfRange (cond (eqb n 6) BadOperand (cond (eqb n 7) NotAbove (cond (eqb n 8) TooMany
    (cond (eqb n 9) BadEnd (cond (eqb n 10) NinthEvent (cond (eqb n 11) TooManyPairs (cond (eqb n 12) EmptyFirst
    NoRoom)))))))))))

reason_back : (x : Reason) → reason_of (number_of x) ≡ x
unfolding reason_of
reason_back TooLong = refl
reason_back CutShort = refl
reason_back UnknownKind = refl
reason_back Misplaced = refl
reason_back OutOfRange = refl
reason_back BadOperand = refl
reason_back NotAbove = refl
reason_back TooMany = refl
reason_back BadEnd = refl
reason_back NinthEvent = refl
reason_back TooManyPairs = refl
reason_back EmptyFirst = refl
reason_back NoRoom = refl

pub same_reason : (x y : Reason) → number_of x ≡ number_of y → x ≡ y
same_reason x y e = sym (reason_back x) ∙ ap reason_of e ∙ reason_back y

pub same_refusal : (f f' : Refusal) → number_of f.reason ≡ number_of f'.reason → f.place ≡ f'.place → f ≡ f'
same_refusal f f' e p = λ i. record { reason = same_reason f.reason f'.reason e i; place = p i }

-- the number of a hit, 0 for none
pub number_of_hit : Result ⊤ Reason → ℕ
number_of_hit (Ok u) = 0
number_of_hit (Err reason) = number_of reason

by_test : (b : Bool) (x y : Result ⊤ Reason) (m n : ℕ) → number_of_hit x ≡ m → number_of_hit y ≡ n
    → number_of_hit (cond b x y) ≡ cond b m n
by_test true x y m n p q = p
by_test false x y m n p q = q

-- the first hit by document 01's numbers, in its order
pub hit_numbers : (g : Progress) (r : Record) (left : ℕ) → number_of_hit (first_hit g r left)
    ≡ cond (bad_kind r) 3 (cond (cut_short r left) 2 (cond (misplaced g r) 4 (cond (too_many g r) 8
    (cond (out_of_range g r) 5 (cond (bad_operand g r) 6 (cond (not_above g r) 7 (cond (ninth_event g r) 10
    (cond (bad_end g r left) 9 0))))))))
unfolding first_hit number_of_hit
hit_numbers g r left =
    by_test (bad_kind r) (Err UnknownKind) _ 3 _ refl (by_test (cut_short r left) (Err CutShort) _ 2 _ refl
    (by_test (misplaced g r) (Err Misplaced) _ 4 _ refl (by_test (too_many g r) (Err TooMany) _ 8 _ refl
    (by_test (out_of_range g r) (Err OutOfRange) _ 5 _ refl (by_test (bad_operand g r) (Err BadOperand) _ 6 _ refl
    (by_test (not_above g r) (Err NotAbove) _ 7 _ refl (by_test (ninth_event g r) (Err NinthEvent) _ 10 _ refl
    (by_test (bad_end g r left) (Err BadEnd) (Ok tt) 9 0 refl refl))))))))

-- The first test that hits a record. Document 01, "Refusal numbers": "the tests run in this order: 3, 2, 4, 8, 5, 6,
-- 7, 10; an end record: 3, 2, 4, 9". One list serves both: an end record meets none of 8, 5, 6, 7, 10, and no other
-- record meets 9. Assumes nothing.
use Rattle.std.specs.Prelude.{cond, ℕ, ⊤, Result, Ok, Err}
use Rattle.records.specs.declared.Record.{Record}
use Rattle.progress.specs.declared.Progress.{Progress}
use Rattle.tests.specs.declared.Reason.{Reason}
use Rattle.tests.specs.declared.Reason.TheVariants.{CutShort, UnknownKind, Misplaced, OutOfRange, BadOperand, NotAbove}
use Rattle.tests.specs.declared.Reason.TheVariants.{TooMany, BadEnd, NinthEvent}
use Rattle.tests.specs.declared.Refusal.{Refusal}
use Rattle.tests.specs.Tests.{bad_kind, cut_short, misplaced, too_many, bad_operand, not_above, ninth_event, bad_end}
use Rattle.tests.specs.Reasons.{refusal}
use Rattle.ranges.specs.Ranges.{out_of_range}

-- the reason of the first test that hits record r behind what g says, with `left` bytes from its start on
unfoldable pub first_hit : Progress → Record → ℕ → Result ⊤ Reason
first_hit g r left =
    cond (bad_kind r) (Err UnknownKind)
    (cond (cut_short r left) (Err CutShort)
    (cond (misplaced g r) (Err Misplaced)
    (cond (too_many g r) (Err TooMany)
    (cond (out_of_range g r) (Err OutOfRange)
    (cond (bad_operand g r) (Err BadOperand)
    (cond (not_above g r) (Err NotAbove)
    (cond (ninth_event g r) (Err NinthEvent)
    (cond (bad_end g r left) (Err BadEnd)
    (Ok tt)))))))))

-- the refusal at a place for the reason of a test that hit; where none did it goes on to `next`
abbrev pub unless_hit : {T : Type 0} → Result ⊤ Reason → ℕ → Result T Refusal → Result T Refusal
unless_hit (Ok u) place next = next
unless_hit (Err reason) place next = Err (refusal reason place)

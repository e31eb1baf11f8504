-- Document 01's number for each reason of a refusal. Document 01, "Refusal numbers". Assumes nothing.
use Rattle.std.specs.Prelude.{ℕ}
use Rattle.tests.specs.declared.Reason.{Reason}
use Rattle.tests.specs.declared.Reason.TheVariants.{TooLong, CutShort, UnknownKind, Misplaced, OutOfRange, BadOperand}
use Rattle.tests.specs.declared.Reason.TheVariants.{NotAbove, TooMany, BadEnd, NinthEvent, TooManyPairs, EmptyFirst}
use Rattle.tests.specs.declared.Reason.TheVariants.{NoRoom}
use Rattle.tests.specs.declared.Refusal.{Refusal}

-- the number of a reason
abbrev pub number_of : Reason → ℕ
number_of TooLong = 1
number_of CutShort = 2
number_of UnknownKind = 3
number_of Misplaced = 4
number_of OutOfRange = 5
number_of BadOperand = 6
number_of NotAbove = 7
number_of TooMany = 8
number_of BadEnd = 9
number_of NinthEvent = 10
number_of TooManyPairs = 11
number_of EmptyFirst = 12
number_of NoRoom = 13

-- a refusal with its reason and place
abbrev pub refusal : Reason → ℕ → Refusal
refusal reason place = record { reason = reason; place = place }

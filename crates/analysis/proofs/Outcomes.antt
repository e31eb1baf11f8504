-- What the analysis of a file can come to: a refusal of the reader, 13, or the verdict on the file's model.
-- Assumes nothing.
use Rattle.std.proofs.Common.{◌≡◌, refl, sym, ap, ◌∙◌, Bool, true, false, List, ◌++◌, ℕ, ◌≤◌, ◌<◌, arith, ltb}
use Rattle.std.proofs.Common.{length, drop, ltb-true, ltb-false}
use Rattle.network.specs.Verdict.{refused, verdict}
use Rattle.tests.specs.declared.Refusal.{Refusal}
use Rattle.reader.specs.Scan.{said_of, reading_of, readable, says}
use Rattle.reader.specs.File.{file_model}
use Rattle.verdict.specs.Answers.{verdict_of, needed, sections_for}
use Rattle.analysis.specs.Analysis.{pass_of, sections_after, answer_at, area_at, analysis_of, area_after}
use Rattle.analysis.specs.Promise.{verdict_on}
use Rattle.analysis.proofs.Numbers.{reader_number}
use Rattle.std.specs.Prelude.{Result, Ok, Err}
use Rattle.progress.specs.declared.Progress.{Progress}
use Rattle.tests.specs.Reasons.{number_of}

-- the three ways it goes
pub data Outcome (s area : List ℕ) : Type 0 where
  unread : (f : Refusal) → reading_of s ≡ Err f → number_of f.reason ≤ 10 → verdict_on s area ≡ refused (number_of f.reason) f.place
      → Outcome s area
  roomless : says s ≡ readable → length area < needed (file_model s) → verdict_on s area ≡ refused 13 0 → Outcome s area
  judged : says s ≡ readable → needed (file_model s) ≤ length area → verdict_on s area ≡ verdict (file_model s)
      → area_after s area ≡ sections_for (file_model s) (verdict (file_model s)) ++ drop (needed (file_model s)) area
      → Outcome s area

pub outcome : (s area : List ℕ) → Outcome s area
unfolding verdict_on analysis_of area_after answer_at area_at pass_of sections_after verdict_of says said_of
outcome s area = at (reading_of s) refl
  where
    at : (v : Result Progress Refusal) → reading_of s ≡ v → Outcome s area
    at (Err f) q = unread f q (reader_number s f q) (ap (λ (v : Result Progress Refusal). answer_at v s area) q)
    at (Ok g) q = room (ltb (length area) (needed (file_model s))) refl
      where
        said : says s ≡ readable
        said = ap said_of q

        room : (b : Bool) → ltb (length area) (needed (file_model s)) ≡ b → Outcome s area
        room true p = roomless said (ltb-true (length area) (needed (file_model s)) p) (rw (q, p))
        room false p =
            judged said (ltb-false (length area) (needed (file_model s)) p)
            (rw (q, p)) (rw (q, p))

-- a readable file is not refused by the reader
pub read_not : (s : List ℕ) (f : Refusal) → says s ≡ readable → reading_of s ≡ Err f → ⊥
unfolding says said_of
read_not s f e q = let v = sym (ap said_of q) ∙ e in let z : ◌≡◌ {A = ℕ} 0 1 = cc in omega arith

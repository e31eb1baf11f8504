-- What the analysis of a file answers, and the working area that it leaves, for every input. Document 01, "Refusal
-- numbers" and the working area. Assumes nothing.
use Rattle.std.specs.Prelude.{Bool, true, false, cond, List, ◌++◌, ℕ, ltb, length, drop, Result, Ok, Err}
use Rattle.network.specs.Model.{Model}
use Rattle.network.specs.Verdict.{Verdict, refused, verdict}
use Rattle.progress.specs.declared.Progress.{Progress}
use Rattle.tests.specs.declared.Refusal.{Refusal}
use Rattle.reader.specs.Scan.{reading_of}
use Rattle.reader.specs.File.{file_model}
use Rattle.verdict.specs.declared.Verdict.TheVariants.{Pass, Inconclusive}
use Rattle.verdict.specs.Answers.{Answer, verdict_of, needed, sections_for}

-- whether an answer is a pass
unfoldable pub is_pass : Answer → Bool
is_pass (Ok (Pass b)) = true
is_pass (Ok (Inconclusive k)) = false
is_pass (Err f) = false

-- the verdict on a readable file's model M with a lent area: 13 where it is too short, else the model's
unfoldable pub pass_of : Model → List ℕ → Verdict
pass_of M area = cond (ltb (length area) (needed M)) (refused 13 0) (verdict M)

-- the area afterwards: as it was where it is too short, else the sections and the old entries behind them
unfoldable pub sections_after : Model → List ℕ → List ℕ
sections_after M area =
    cond (ltb (length area) (needed M)) area (sections_for M (verdict M) ++ drop (needed M) area)

-- the verdict on the bytes s, read as far as the reading says, with a lent area
unfoldable pub answer_at : Result Progress Refusal → List ℕ → List ℕ → Verdict
answer_at (Err f) s area = verdict_of (Err f)
answer_at (Ok g) s area = pass_of (file_model s) area

-- the area afterwards
unfoldable pub area_at : Result Progress Refusal → List ℕ → List ℕ → List ℕ
area_at (Err f) s area = area
area_at (Ok g) s area = sections_after (file_model s) area

-- the verdict on the file s with a lent area
unfoldable pub analysis_of : List ℕ → List ℕ → Verdict
analysis_of s area = answer_at (reading_of s) s area

-- the area that the analysis of the file s leaves
unfoldable pub area_after : List ℕ → List ℕ → List ℕ
area_after s area = area_at (reading_of s) s area

-- The contract of `analyse` settles its answer and the area for every input: two outcomes that meet it are equal. It is
-- the only public function. Assumes nothing.
use Rattle.std.proofs.Common.{◌≡◌, List, ℕ}
use Rattle.events.proofs.Unique.{settled}
use Rattle.analysis.specs.Analysis.{analysis_of, area_after}
use Rattle.verdict.specs.Answers.{Answer, verdict_of}
use Rattle.verdict.proofs.Saying.{same_answer}

pub analyse_unique : (s area : List ℕ) (r r' : Answer) (a a' : List ℕ) → verdict_of r ≡ analysis_of s area → a ≡ area_after s area
    → verdict_of r' ≡ analysis_of s area → a' ≡ area_after s area → (r ≡ r') × (a ≡ a')
analyse_unique s area r r' a a' p q p' q' = (same_answer r r' (settled p p'), settled q q')

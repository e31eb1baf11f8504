-- An answer of the analysis says the verdict that it is. Assumes nothing.
use Rattle.std.proofs.Common.{◌≡◌, refl, Ok, Err}
use Rattle.verdict.specs.declared.Verdict.TheVariants.{Pass, Inconclusive}
use Rattle.verdict.specs.Answers.{verdict_of, Answer}
use Rattle.tests.specs.Reasons.{number_of}
use Rattle.report.specs.Said.{verdict_by}

pub verdict_by_reason : (a : Answer) → verdict_by (λ f. number_of f.reason) (λ f. f.place) a ≡ verdict_of a
unfolding verdict_by verdict_of
verdict_by_reason (Ok (Pass b)) = refl
verdict_by_reason (Ok (Inconclusive k)) = refl
verdict_by_reason (Err f) = refl

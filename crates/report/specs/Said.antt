-- Document 01's verdict for an answer, whatever type says its refusals. Assumes nothing.
use Rattle.std.specs.Prelude.{ℕ, Result, Ok, Err}
use Rattle.network.specs.Verdict.{Verdict, pass, inconclusive, refused}
use Rattle.verdict.specs.declared.Verdict as Judged
use Rattle.verdict.specs.declared.Verdict.TheVariants.{Pass, Inconclusive}

-- document 01's verdict for an answer, by the number and the place of a refusal of type R
unfoldable pub verdict_by : {R : Type 0} → (R → ℕ) → (R → ℕ) → Result Judged.Verdict R → Verdict
verdict_by number place (Ok (Pass b)) = pass b
verdict_by number place (Ok (Inconclusive k)) = inconclusive k
verdict_by number place (Err f) = refused (number f) (place f)

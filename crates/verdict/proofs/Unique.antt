-- The contract of `sweep` settles its answer and every entry of the area: two outcomes that meet it are equal. It is the
-- only public function. Assumes nothing.
use Rattle.std.proofs.Common.{◌≡◌, List, ℕ}
use Rattle.events.proofs.Unique.{settled}
use Rattle.network.specs.Model.{Model}
use Rattle.network.specs.Verdict.{verdict}
use Rattle.verdict.specs.Answers.{verdict_of, Answer}
use Rattle.verdict.specs.Sweeping.{swept_to, through}
use Rattle.verdict.proofs.Saying.{same_answer}

pub sweep_unique : (M : Model) (area : List ℕ) (r r' : Answer) (a a' : List ℕ) → verdict_of r ≡ verdict M
    → a ≡ swept_to M (through M (verdict M)) area → verdict_of r' ≡ verdict M
    → a' ≡ swept_to M (through M (verdict M)) area → (r ≡ r') × (a ≡ a')
sweep_unique M area r r' a a' p q p' q' = (same_answer r r' (settled p p'), settled q q')

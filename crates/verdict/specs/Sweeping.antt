-- The area once the pass over the nodes has come to a verdict. Assumes nothing.
use Rattle.std.specs.Prelude.{◌≡◌, List, ◌++◌, ℕ, ◌*◌, length, take, drop}
use Rattle.network.specs.Model.{Model, networks}
use Rattle.network.specs.Verdict.{Verdict, pass, inconclusive, refused, most_pairs}
use Rattle.verdict.specs.Answers.{needed, sections_of}

-- the area once the pass is through with the first k nodes of model M: their lists in their sections, the rest as it was
unfoldable pub swept_to : Model → ℕ → List ℕ → List ℕ
swept_to M k area = sections_of M.events (take k (networks M)) ++ drop (most_pairs * k) area

-- how many nodes of model M the pass is through with when it comes to a verdict: all, or those before the one named
unfoldable pub through : Model → Verdict → ℕ
through M (pass b) = length M.nodes
through M (inconclusive k) = k
through M (refused number k) = k

-- the area has its length, and the entries behind the sections of model M are as they were
abbrev pub BehindKept : Model → List ℕ → List ℕ → Type 0
BehindKept M area area' = (length area' ≡ length area) × (drop (needed M) area' ≡ drop (needed M) area)

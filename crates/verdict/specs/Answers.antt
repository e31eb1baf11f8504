-- The answer and document 01's verdict for it, and the sections of a model after a verdict. Document 01, "Refusal
-- numbers" and the working area. Assumes nothing.
use mathlib.Core.List.{List, flat_map}
use Rattle.std.specs.Prelude.{ℕ, ◌*◌, length, Result, Ok, Err}
use Rattle.network.specs.Network.{Network}
use Rattle.network.specs.Model.{Model, networks}
use Rattle.network.specs.Lists.{list_of}
use Rattle.network.specs.Verdict.{Verdict, pass, inconclusive, refused, most_pairs}
use Rattle.tests.specs.declared.Refusal.{Refusal}
use Rattle.tests.specs.Reasons.{number_of}
use Rattle.filling.specs.Building.{zeros, padded}
use Rattle.verdict.specs.declared.Verdict as Judged
use Rattle.verdict.specs.declared.Verdict.TheVariants.{Pass, Inconclusive}

-- what is answered on a file: a verdict, or a refusal
abbrev pub Answer : Type 0
Answer = Result Judged.Verdict Refusal

-- document 01's verdict, with its numbers, for each answer
unfoldable pub verdict_of : Answer → Verdict
verdict_of (Ok (Pass b)) = pass b
verdict_of (Ok (Inconclusive k)) = inconclusive k
verdict_of (Err f) = refused (number_of f.reason) f.place

-- how many entries the sections of model M's nodes have: 256 for each node
unfoldable pub needed : Model → ℕ
needed M = most_pairs * length M.nodes

-- the sections of networks ts over n events, one behind another: each one's pairs ascending, then zeros
unfoldable pub sections_of : ℕ → List Network → List ℕ
sections_of n ts = flat_map (λ (t : Network). padded (list_of n t)) ts

-- the sections of model M after a verdict: its nodes' lists after a pass, zeros after anything else
unfoldable pub sections_for : Model → Verdict → List ℕ
sections_for M (pass b) = sections_of M.events (networks M)
sections_for M (inconclusive k) = zeros (needed M)
sections_for M (refused number place) = zeros (needed M)

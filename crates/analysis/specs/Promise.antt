-- What is promised of the analysis, over the bytes of a file. Document 01, demands 2 and 3; every verdict is the one
-- that the contract of `analyse` answers. Assumes nothing.
use Rattle.std.specs.Prelude.{◌≡◌, ◌≢◌, ◌↔◌, List, ℕ, ◌-◌, ◌*◌, ◌<◌, ◌≤◌, length, take, drop}
use Rattle.network.specs.Walks.{SilenceBelow}
use Rattle.network.specs.Rules.{Flag}
use Rattle.network.specs.Model.{node_network, root, bound}
use Rattle.network.specs.Lists.{IsListOf}
use Rattle.network.specs.Verdict.{Verdict, pass, inconclusive, refused, most_pairs}
use Rattle.network.specs.Promise.{NodePasses}
use Rattle.decoding.specs.Bytes.{AreBytes}
use Rattle.reader.specs.Scan.{readable, says}
use Rattle.reader.specs.File.{file_model}
use Rattle.filling.specs.Building.{zeros}
use Rattle.verdict.specs.Answers.{needed}
use Rattle.analysis.specs.Analysis.{analysis_of, area_after}

-- document 01's verdict on the file s with a lent area
unfoldable pub verdict_on : List ℕ → List ℕ → Verdict
verdict_on s area = analysis_of s area

-- demand 2: a readable file with enough room passes exactly when no flag is up and no list has more than 256 pairs
unfoldable pub PassExactly : Type 0
PassExactly =
    (s area : List ℕ) → AreBytes s → says s ≡ readable → needed (file_model s) ≤ length area
    → (verdict_on s area ≡ pass (bound (file_model s)))
    ↔ ((k : ℕ) → k < length (file_model s).nodes → NodePasses (file_model s) k)

-- section k of an area: entries 256k to 256k+255
abbrev pub section : List ℕ → ℕ → List ℕ
section area k = take most_pairs (drop (most_pairs * k) area)

-- demand 2: after a pass each node's section is exactly the rules' list, then zeros
unfoldable pub SectionsAreLists : Type 0
SectionsAreLists =
    (s area : List ℕ) → AreBytes s → (b : ℕ) → verdict_on s area ≡ pass b → (k : ℕ)
    → k < length (file_model s).nodes → (count : ℕ) × (count ≤ most_pairs)
    × IsListOf (file_model s).events (node_network (file_model s) k) (take count (section (area_after s area) k))
    × (drop count (section (area_after s area) k) ≡ zeros (most_pairs - count))

-- demand 3: after a pass with b every silent run from a reachable state has fewer than b steps, and b is the product
-- of the state counts over the leaves
unfoldable pub PassBoundsSilence : Type 0
PassBoundsSilence =
    (s area : List ℕ) → AreBytes s → (b : ℕ) → verdict_on s area ≡ pass b
    → SilenceBelow (root (file_model s)) b × (b ≡ bound (file_model s))

-- inconclusive names the first node whose flag is up, and no list before it is over
unfoldable pub InconclusiveIsFirst : Type 0
InconclusiveIsFirst =
    (s area : List ℕ) → AreBytes s → (k : ℕ) → verdict_on s area ≡ inconclusive k
    → (k < length (file_model s).nodes) × Flag (file_model s).events (node_network (file_model s) k)
    × ((j : ℕ) → j < k → NodePasses (file_model s) j)

-- 11 names the first node whose list has more than 256 pairs, and no flag is up at it or before it
unfoldable pub ElevenIsFirst : Type 0
ElevenIsFirst =
    (s area : List ℕ) → AreBytes s → (k : ℕ) → verdict_on s area ≡ refused 11 k
    → (k < length (file_model s).nodes) × (¬ Flag (file_model s).events (node_network (file_model s) k))
    × ((xs : List ℕ) → IsListOf (file_model s).events (node_network (file_model s) k) xs → most_pairs < length xs)
    × ((j : ℕ) → j < k → NodePasses (file_model s) j)

-- 12 is never given
unfoldable pub TwelveNever : Type 0
TwelveNever = (s area : List ℕ) → AreBytes s → (k : ℕ) → verdict_on s area ≢ refused 12 k

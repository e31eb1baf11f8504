-- What is promised of the text that is written: the lines that the analysis' verdict and the area that it leaves give are
-- the printed result, and they are what is written. Document 01, "The printed result".
-- Assumes nothing.
use Rattle.std.specs.Prelude.{◌≡◌, ℕ, ◌<◌, ◌≤◌, Result, OnOk, ⊤, cond, ltb, [], length, take, drop}
use mathlib.Core.List.{List, ◌++◌, flat_map}
use Rattle.std.specs.declared.option.Option.{Option}
use Rattle.std.specs.Io.KnownBytes.{Consumes, IsAtEnd}
use Rattle.network.specs.Verdict.{Verdict, pass, inconclusive, refused}
use Rattle.decoding.specs.Bytes.{AreBytes}
use Rattle.reader.specs.Scan.{readable, says}
use Rattle.reader.specs.File.{file_model}
use Rattle.places.specs.Finding.{node_place, record_at}
use Rattle.analysis.specs.Analysis.{area_after}
use Rattle.analysis.specs.Promise.{verdict_on, section}
use Rattle.report.specs.Text.{first_line, node_line, pair_line, pair_count}
use Rattle.report.specs.Printed.{in_turn, printed}
use Rattle.console.specs.Output.{IsWritten}
use Rattle.console.specs.Walking.{walked, most_records}

-- the text of node k as the file s and an area give it: the line of its record's kind and of how many entries its
-- section has before the first zero, and a line for each of those entries
unfoldable pub section_text : List ℕ → List ℕ → ℕ → List ℕ
section_text s area k =
    let xs = section area k in
    node_line k (record_at s (node_place s k)).kind (pair_count xs) ++ flat_map pair_line (take (pair_count xs) xs)

-- the lines that a verdict, the file s and an area give: the first one and, after a pass, those of each node
unfoldable pub lines_from : List ℕ → Verdict → List ℕ → List ℕ
lines_from s (pass b) area = first_line (pass b) ++ in_turn (section_text s area) 0 (length (file_model s).nodes)
lines_from s (inconclusive k) area = first_line (inconclusive k)
lines_from s (refused number place) area = first_line (refused number place)

-- an area of 8,192 entries suffices: the lines that the analysis' verdict and the area that it leaves give are the
-- printed result
unfoldable pub LinesArePrinted : Type 0
LinesArePrinted =
    (s area : List ℕ) → AreBytes s → 8192 ≤ length area
    → lines_from s (verdict_on s area) (area_after s area) ≡ printed s

-- the walk from the first node of a readable file s gives every node's text in turn; 32 nodes and an end are the most
unfoldable pub WalkFindsNodes : Type 0
WalkFindsNodes =
    (s area : List ℕ) → AreBytes s → says s ≡ readable
    → walked 33 area (drop (node_place s 0) s) 0 ≡ in_turn (section_text s area) 0 (length (file_model s).nodes)

-- the text that is written for the file s, a verdict and an area: the first line and, after a pass, the walk's texts
unfoldable pub written : List ℕ → Verdict → List ℕ → List ℕ
written s (pass b) area = first_line (pass b) ++ walked 33 area (drop (node_place s 0) s) 0
written s (inconclusive k) area = first_line (inconclusive k)
written s (refused number place) area = first_line (refused number place)

-- with the verdict and the area of an analysis in at least 8,192 entries it is the printed result for s
unfoldable pub WrittenIsPrinted : Type 0
WrittenIsPrinted =
    (s area : List ℕ) → AreBytes s → 8192 ≤ length area
    → written s (verdict_on s area) (area_after s area) ≡ printed s

-- the text that is written for any bytes s, also where they are no file that can be read, any verdict and any area: the
-- first line and, after a pass of at most 4,096 bytes, the walk's texts up to an end record or the last byte
unfoldable pub answer_text : List ℕ → Verdict → List ℕ → List ℕ
answer_text s (pass b) area =
    first_line (pass b) ++ cond (ltb 4096 (length s)) [] (walked most_records area (drop (node_place s 0) s) 0)
answer_text s (inconclusive k) area = first_line (inconclusive k)
answer_text s (refused number place) area = first_line (refused number place)

-- for a readable file s the two texts are the same
unfoldable pub AnswerIsWritten : Type 0
AnswerIsWritten =
    (s : List ℕ) (v : Verdict) (area : List ℕ) → AreBytes s → says s ≡ readable → answer_text s v area ≡ written s v area

-- of what an input has left some bytes were taken, 4,097 at most, and fewer only if it is then at its end or a read
-- failed; and the printed result for them was written, or a beginning of it where that ended in an error; of an input
-- and an output that say what they have
unfoldable pub PrintsWhatItTakes : {E : Type 0} → (read wrote : Result ⊤ E) → (left left' held held' : Option (List ℕ)) → Type 0
PrintsWhatItTakes read wrote left left' held held' =
    (s : List ℕ) × (length s ≤ 4097) × OnOk read (length s < 4097 → IsAtEnd left') × Consumes left left' s
    × IsWritten wrote held held' (printed s)

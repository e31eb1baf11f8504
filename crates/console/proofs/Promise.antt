-- The text that is written is the printed result: the walk gives the lines of each node. Assumes nothing.
use Rattle.std.proofs.Common.{◌≡◌, refl, sym, ap, ◌∙◌, Bool, true, false, cond, List, [], ◌++◌, ℕ, ltb, length, ◌≤◌}
use Rattle.std.proofs.Common.{drop, ltb-true, arith}
use Rattle.network.specs.Verdict.{Verdict, pass, inconclusive, refused}
use Rattle.decoding.specs.Bytes.{AreBytes}
use Rattle.reader.specs.Scan.{readable, says}
use Rattle.analysis.specs.Analysis.{area_after}
use Rattle.analysis.specs.Promise.{verdict_on}
use Rattle.reader.proofs.Readings.{reads_long}
use Rattle.places.specs.Finding.{node_place}
use Rattle.analysis.proofs.Outcomes.{Outcome, unread, roomless, judged, outcome, read_not}
use Rattle.report.specs.Text.{first_line}
use Rattle.report.specs.Printed.{printed}
use Rattle.console.specs.Promise.{lines_from, LinesArePrinted, WalkFindsNodes, written, WrittenIsPrinted}
use Rattle.console.specs.Promise.{answer_text, AnswerIsWritten}
use Rattle.console.specs.Walking.{walked, most_records}
use Rattle.console.proofs.FromArea.{lines_are_printed}
use Rattle.console.proofs.Walking.{walk_suffices, walk_finds_nodes}

-- only a readable file passes
passed_read : (s area : List ℕ) (b : ℕ) → verdict_on s area ≡ pass b → Outcome s area → says s ≡ readable
passed_read s area b p (unread f q m v) = let z : ◌≡◌ {A = ℕ} 0 1 = cc in absurd (omega arith)
passed_read s area b p (roomless e l v) = e
passed_read s area b p (judged e l v z) = e

pub lines_printed : LinesArePrinted
lines_printed = lines_are_printed

pub walk_finds : WalkFindsNodes
walk_finds = walk_finds_nodes

-- a readable file is not too long
not_long : (s : List ℕ) → says s ≡ readable → ltb 4096 (length s) ≡ false
not_long s e = at (ltb 4096 (length s)) refl
  where
    at : (b : Bool) → ltb 4096 (length s) ≡ b → ltb 4096 (length s) ≡ false
    at true q = absurd (read_not s _ e (sym (reads_long s (ltb-true 4096 (length s) q))))
    at false q = q

pub answer_written : AnswerIsWritten
unfolding AnswerIsWritten answer_text written
answer_written s (pass b) area y e =
    ap (λ (t : List ℕ). first_line (pass b) ++ t)
    (ap (λ (c : Bool). cond c [] (walked most_records area (drop (node_place s 0) s) 0)) (not_long s e)
    ∙ walk_suffices s area most_records (omega arith) y e ∙ sym (walk_suffices s area 33 (omega arith) y e))
answer_written s (inconclusive k) area y e = refl
answer_written s (refused number place) area y e = refl

pub written_printed : WrittenIsPrinted
unfolding WrittenIsPrinted written lines_from LinesArePrinted WalkFindsNodes
written_printed s area y long = by_verdict (verdict_on s area) refl ∙ lines_printed s area y long
  where
    by_verdict : (v : Verdict) → verdict_on s area ≡ v
        → written s v (area_after s area) ≡ lines_from s v (area_after s area)
    by_verdict (pass b) p =
        ap (λ (t : List ℕ). first_line (pass b) ++ t)
        (walk_finds_nodes s (area_after s area) y (passed_read s area b p (outcome s area)))
    by_verdict (inconclusive k) p = refl
    by_verdict (refused number place) p = refl

-- what is written for an analysis is the printed result
pub answer_printed : (s area : List ℕ) → AreBytes s → 8192 ≤ length area
    → answer_text s (verdict_on s area) (area_after s area) ≡ printed s
unfolding WrittenIsPrinted AnswerIsWritten answer_text written
answer_printed s area y long = by_verdict (verdict_on s area) refl ∙ written_printed s area y long
  where
    by_verdict : (v : Verdict) → verdict_on s area ≡ v
        → answer_text s v (area_after s area) ≡ written s v (area_after s area)
    by_verdict (pass b) p = answer_written s (pass b) (area_after s area) y (passed_read s area b p (outcome s area))
    by_verdict (inconclusive k) p = refl
    by_verdict (refused number place) p = refl

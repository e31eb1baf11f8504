-- The bytes that were taken from the input, their analysis and what is written for it. Assumes nothing.
use Rattle.std.proofs.Common.{◌≡◌, ap, ◌∙◌, subst, List, ℕ, ◌≤◌, ◌<◌, arith, length, take, length-take-le}
use Rattle.std.proofs.Common.{Result, Ok, Err, OnOk}
use Rattle.std.specs.Prelude.{⊤}
use Rattle.std.specs.declared.option.Option.{Option}
use Rattle.std.specs.Io.KnownBytes.{Consumes, IsAtEnd}
use Rattle.decoding.specs.Bytes.{AreBytes, byte}
use Rattle.verdict.specs.Answers.{verdict_of, Answer}
use Rattle.analysis.specs.Analysis.{analysis_of, area_after}
use Rattle.analysis.specs.Promise.{verdict_on}
use Rattle.report.specs.Printed.{printed}
use Rattle.console.specs.Output.{IsWritten}
use Rattle.console.specs.Promise.{answer_text, PrintsWhatItTakes}
use Rattle.console.proofs.Promise.{answer_printed}
use Rattle.network.specs.Verdict.{Verdict}

-- the text of an analysis in an area with room enough is the printed result
pub analysed_printed : (s area area' : List ℕ) (a : Answer) → ((i : ℕ) → byte s i < 256) → 8192 ≤ length area
    → verdict_of a ≡ analysis_of s area → area' ≡ area_after s area → answer_text s (verdict_of a) area' ≡ printed s
unfolding verdict_on AreBytes
analysed_printed s area area' a y room q z =
    ap (λ (v : Verdict). answer_text s v area') q ∙ ap (answer_text s (analysis_of s area)) z
    ∙ answer_printed s area y room

at_end : {E : Type 0} (read : Result ⊤ E) (m n : ℕ) (left : Option (List ℕ)) → m ≡ n → OnOk read (n < 4097 → IsAtEnd left)
    → OnOk read (m < 4097 → IsAtEnd left)
at_end (Ok x) m n left q end = λ h. end (omega arith)
at_end (Err e) m n left q end = end

pub taken_printed : {E : Type 0} (read wrote : Result ⊤ E) (left left' held held' : Option (List ℕ)) (n : ℕ) (room : List ℕ)
    → n ≤ length room → length room ≡ 4097 → OnOk read (n < length room → IsAtEnd left') → Consumes left left' (take n room)
    → IsWritten wrote held held' (printed (take n room)) → PrintsWhatItTakes read wrote left left' held held'
unfolding PrintsWhatItTakes
taken_printed read wrote left left' held held' n room short size end c w =
    let long : length (take n room) ≡ n = length-take-le n room short in
    let ends : OnOk read (n < 4097 → IsAtEnd left') = subst (λ (m : ℕ). OnOk read (n < m → IsAtEnd left')) size end in
    (take n room, omega arith, at_end read (length (take n room)) n left' long ends, c, w)

use Rattle.std.proofs.Common.{◌≡◌, arith, sym, Ok, subst, rules}
use Rattle.verdict.specs.declared.Verdict.TheVariants.{Pass, Inconclusive}
use Rattle.report.specs.Said.{verdict_by}
use Rattle.console.specs.Output.{IsWritten}
use Rattle.console.proofs.Printing.{answer_begins, answer_long, answer_pass, answer_inconclusive, answer_refused}
use Rattle.console.proofs.Writing.{part_left, part_failed}
use Rattle.console.proofs.print_result.Goals as goal

pub returns-in_err-print_first : goal.returns-in_err-print_first
returns-in_err-print_first g c =
    let v = verdict_by g.R.Numbered.number_of g.R.Numbered.place_of c.args.a in
    part_failed _ _ _ _ _ _ _ (sym (answer_begins c.args.bytes.now v c.args.area.now).1) c.from_residual.ensures.0
    c.in_err-print_first.ensures

pub returns-then-bytes-gt4096 : goal.returns-then-bytes-gt4096
returns-then-bytes-gt4096 g c =
    let v = verdict_by g.R.Numbered.number_of g.R.Numbered.place_of c.args.a in
    subst (IsWritten _ _ _) (answer_long c.args.bytes.now v c.args.area.now (omega arith)) c.in_ok-print_first.ensures

pub returns-in-Ok-Pass : goal.returns-in-Ok-Pass
returns-in-Ok-Pass g c =
    let e : c.args.a ≡ Ok (Pass c.in-Ok-Pass.field-0-0) = search rules in
    part_left _ _ _ _ _
    (sym (answer_pass g.R.Numbered.number_of g.R.Numbered.place_of c.args.bytes.now c.args.area.now c.args.a _ e (omega arith)))
    c.in_ok-print_first.ensures _ _ c.print_nodes.ensures

pub returns-in-Ok-Inconclusive : goal.returns-in-Ok-Inconclusive
returns-in-Ok-Inconclusive g c =
    let e : c.args.a ≡ Ok (Inconclusive c.in-Ok-Inconclusive.field-0-0) = search rules in
    subst (IsWritten _ _ _)
    (answer_inconclusive g.R.Numbered.number_of g.R.Numbered.place_of c.args.bytes.now c.args.area.now c.args.a _ e)
    c.in_ok-print_first.ensures

pub returns-in-Err : goal.returns-in-Err
returns-in-Err g c =
    subst (IsWritten _ _ _)
    (answer_refused g.R.Numbered.number_of g.R.Numbered.place_of c.args.bytes.now c.args.area.now c.args.a _ c.in-Err.is)
    c.in_ok-print_first.ensures

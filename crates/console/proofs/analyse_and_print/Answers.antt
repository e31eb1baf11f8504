use Rattle.std.proofs.Common.{arith, le_refl, subst}
use Rattle.verdict.specs.Answers.{verdict_of}
use Rattle.report.specs.Said.{verdict_by}
use Rattle.console.specs.Output.{IsWritten}
use Rattle.console.proofs.Taking.{analysed_printed}
use Rattle.console.proofs.analyse_and_print.Goals as goal

pub returns : goal.returns
unfolding verdict_of verdict_by
returns g c =
    subst (IsWritten c.print_result.result _ _)
    (analysed_printed c.args.bytes.now _ _ c.analyse-a.result (λ i. omega (arith, c.type_inv.bytes i)) (le_refl 8192) c.analyse-a.ensures.answer
    c.analyse-a.ensures.area) c.print_result.ensures

use Rattle.std.proofs.Common.{◌≡◌, ap, ◌∙◌, rules, Err}
use Rattle.verdict.specs.Answers.{verdict_of}
use Rattle.analysis.proofs.Ends.{ends_unreadable, ends_readable}
use Rattle.analysis.proofs.analyse.Goals as goal

pub returns-in_err-file : goal.returns-in_err-file
returns-in_err-file c =
    let e : c.from_residual.result ≡ Err c.in_err-file.field-0.0 = search rules in
    let p = ends_unreadable c.args.bytes.now c.args.area.now _ c.in_err-file.ensures in
    record { answer = ap verdict_of e ∙ p.0; area = p.1 }

pub returns : goal.returns
returns c =
    let p = ends_readable c.args.bytes.now c.args.area.now _ c.in_ok-file.ensures c.in_ok-file.file.is_read in
    record { answer = c.pass_over.ensures.answer ∙ p.0; area = c.pass_over.ensures.area ∙ p.1 }

use Rattle.std.proofs.Common.{rules, tests, ◌≡◌, ◌∙◌, length, ap}
use Rattle.std.specs.Prelude.{◌==◌, position}
use Rattle.std.specs.Option.{unwrap_or}
use Rattle.std.proofs.lemmas.Iterator.{YieldsList-from_slice}
use Rattle.std.proofs.lemmas.Iterator.Search.{position_from_yields_List}
use Rattle.report.proofs.Counting.{counted}
use Rattle.report.proofs.pair_count.Goals as goal

pub returns : goal.returns
returns c =
    let e : c.position.result ≡ position (λ x. x == 0) c.args.section.now =
    position_from_yields_List (λ x. x == 0) _ _ c.position.result c.position.ensures.ran
    (YieldsList-from_slice c.args.section.now cc) (λ x b q k. search (rules, tests)) in
    c.unwrap_or.ensures ∙ ap (λ o. unwrap_or o (length c.args.section.now)) e ∙ counted c.args.section.now

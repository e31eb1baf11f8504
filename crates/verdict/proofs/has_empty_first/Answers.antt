use Rattle.std.proofs.Common.{◌∙◌, rules, tests}
use Rattle.std.proofs.lemmas.Iterator.{YieldsList-from_slice}
use Rattle.std.proofs.lemmas.Iterator.Search.{any_from_yields_List}
use Rattle.events.specs.Sets.{is_empty}
use Rattle.network.specs.Lists.{first_of}
use Rattle.network.specs.Verdict.{has_empty_first}
use Rattle.verdict.proofs.Pairs.{any_is}
use Rattle.verdict.proofs.has_empty_first.Goals as goal

pub returns : goal.returns
unfolding has_empty_first
returns c =
    any_from_yields_List (λ x. is_empty (first_of x)) _ _ _ c.any.ensures.ran
    (YieldsList-from_slice c.args.xs.now cc) (λ x b q k. search (rules, tests))
    ∙ any_is (λ x. is_empty (first_of x)) c.args.xs.now

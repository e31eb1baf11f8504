use Rattle.std.proofs.Common.{sym, ◌∙◌, rules, tests}
use Rattle.std.proofs.lemmas.Iterator.{YieldsList-from_slice}
use Rattle.std.proofs.lemmas.Iterator.Search.{any_from_yields_List}
use Rattle.events.specs.Sets.{room, included}
use Rattle.network.specs.Lists.{first_of}
use Rattle.verdict.proofs.Pairs.{any_is}
use Rattle.verdict.proofs.is_swallowing_hide.Goals as goal

pub returns-then-is : goal.returns-then-is
returns-then-is c =
    rw (sym c.is.ensures ∙ c.if-is.true)
    (any_from_yields_List (λ x. included room (first_of x) c.args.r.set) _ _ _ c.any.ensures.ran
    (YieldsList-from_slice c.args.xs.now cc) (λ x b q k. search (rules, tests))
    ∙ any_is (λ x. included room (first_of x) c.args.r.set) c.args.xs.now)

use Rattle.std.proofs.Common.{◌∙◌, ℕ, rules, tests}
use Rattle.std.proofs.lemmas.Iterator.{YieldsList-from_slice}
use Rattle.std.proofs.lemmas.Iterator.Consumers.{YieldsList-from_enumerate}
use Rattle.std.proofs.lemmas.Iterator.Search.{any_from_yields_List}
use Rattle.ranges.specs.Ranges.{wrong_target}
use Rattle.ranges.proofs.Ranges.{wrong_any}
use Rattle.ranges.proofs.wrong_targets.Goals as goal

pub returns : goal.returns
returns c =
    any_from_yields_List (λ (p : ℕ × ℕ). wrong_target c.args.n p.0 p.1) _ _ _ c.any.ensures.ran
    (YieldsList-from_enumerate (YieldsList-from_slice c.args.targets (cc)) (cc))
    (λ x b q k. search (rules, tests))
    ∙ wrong_any c.args.n 0 c.args.targets

use Rattle.std.proofs.Common.{rules, refl, Err}
use Rattle.std.proofs.KnownBytes.{Keeps-refl}
use Rattle.console.proofs.Writing.{first_written, none_left, none_written}
use Rattle.console.proofs.write_text.Goals as goal

pub returns-in_err-count : goal.returns-in_err-count
returns-in_err-count g c =
    c.loop-rest.invariant _ _ (none_written _ _ _ _ c.from_residual.ensures.0 c.in_err-count.ensures.bytes)

pub returns-in-0 : goal.returns-in-0
returns-in-0 g c =
    c.loop-rest.invariant _ _
    (first_written _ _ _ _ c.in_ok-count.ensures.bytes _ _ (none_written (Err c.from.result) _ _ _ refl (Keeps-refl _)))

pub loop-rest-preserved : goal.loop-rest-preserved
loop-rest-preserved g c =
    λ r z w. c.loop-rest.invariant r z (first_written _ _ _ _ c.in_ok-count.ensures.bytes r z w)

pub returns : goal.returns
returns g c = c.loop-rest.invariant _ _ (none_left _ _ (search rules))

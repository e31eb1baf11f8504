use Rattle.std.proofs.Common.{◌≡◌, Ok, Err, rules, sym, ◌∙◌, arith}
use Rattle.tests.specs.FirstHit.{unless_hit}
use Rattle.reader.proofs.Scanning.{begins, stops, refuses, finishes, shorter, goes_on}
use Rattle.reader.proofs.scan_all.Goals as goal

pub returns : goal.returns
returns c = stops c.args.s.now c.loop-g.g c.loop-g.invariant (omega arith)

pub loop-g-init : goal.loop-g-init
loop-g-init c = rw c.start-g.ensures (begins c.args.s.now c.requires)

pub returns-then-is : goal.returns-then-is
returns-then-is c =
    rw c.take-g.ensures
    (finishes c.args.s.now c.loop-g.g c.loop-g.invariant _ c.first_record-r.ensures (omega arith) (search rules)
    (search rules))

pub loop-g-smaller : goal.loop-g-smaller
loop-g-smaller c =
    rw c.take-g.ensures
    (shorter c.args.s.now c.loop-g.g c.loop-g.invariant _ c.first_record-r.ensures (omega arith) (search rules))

pub loop-g-preserved : goal.loop-g-preserved
loop-g-preserved c =
    rw c.take-g.ensures
    (goes_on c.args.s.now c.loop-g.g c.loop-g.invariant _ c.first_record-r.ensures (omega arith) c.requires
    (search rules) (search rules))

pub returns-in_err-map_err : goal.returns-in_err-map_err
returns-in_err-map_err c =
    let e : c.from_residual.result ≡ Err c.in_err-map_err.field-0.0 = search rules in
    let u : c.map_err.result ≡ unless_hit c.first_hit-hit.result c.loop-g.g.place (Ok tt) = search rules in
    e
    ∙ refuses c.args.s.now c.loop-g.g c.loop-g.invariant _ c.first_record-r.ensures (omega arith) c.first_hit-hit.result
    (sym c.first_hit-hit.ensures) _ (sym u ∙ c.in_err-map_err.was)

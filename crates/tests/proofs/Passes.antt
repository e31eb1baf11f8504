-- A record of which the facts of its kind hold meets no test, with just its own bytes left.
-- Assumes nothing.
use Rattle.std.proofs.Common.{◌≡◌, arith}
use Rattle.std.proofs.lemmas.Bool.Decides.{nat_tests}
use Rattle.records.specs.declared.Record.{Record}
use Rattle.progress.specs.declared.Progress.{Progress}
use Rattle.records.specs.Kinds.{size_of}
use Rattle.std.specs.Prelude.{Ok}
use Rattle.tests.specs.FirstHit.{first_hit}
use Rattle.tests.proofs.Passing.{Passed, passed_in}
use Rattle.tests.proofs.MayStand.{Met, header_met, machine_met, step_met, leaf_met, join_met, hide_met}
use Rattle.tests.proofs.MayStand.{rename_met, end_met}

module _ (g : Progress) (r : Record) where
  met_passed : Met g r → Passed g r (size_of r.kind)
  met_passed (header_met e m) = grind (arith, nat_tests)
  met_passed (machine_met e m) = grind (arith, nat_tests)
  met_passed (step_met e m) = grind (arith, nat_tests)
  met_passed (leaf_met e m) = grind (arith, nat_tests)
  met_passed (join_met e m) = grind (arith, nat_tests)
  met_passed (hide_met e m) = grind (arith, nat_tests)
  met_passed (rename_met e m) = grind (arith, nat_tests)
  met_passed (end_met e m) = grind (arith, nat_tests)

  pub met_in : Met g r → first_hit g r (size_of r.kind) ≡ Ok tt
  met_in m = passed_in g r (size_of r.kind) (met_passed m)

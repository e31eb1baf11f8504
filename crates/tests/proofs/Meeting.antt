-- A record that no test hits: the facts of its kind hold.
-- Assumes nothing.
use Rattle.std.proofs.Common.{◌≡◌, refl, false, ℕ, ◌≤◌, arith}
use Rattle.std.proofs.lemmas.Bool.Decides.{nat_tests}
use Rattle.records.specs.declared.Record.{Record}
use Rattle.progress.specs.declared.Progress.{Progress}
use Rattle.tests.specs.Tests.{bad_kind}
use Rattle.records.proofs.Sizes.{each_kind}
use Rattle.tests.proofs.Passing.{Passed}
use Rattle.tests.proofs.MayStand.{HeaderMet, MachineMet, StepMet, LeafMet, JoinMet, HideMet, RenameMet, EndMet, Met}
use Rattle.tests.proofs.MayStand.{header_met, machine_met, step_met, leaf_met, join_met, hide_met, rename_met, end_met}

pub kind_range : (r : Record) → bad_kind r ≡ false → (1 ≤ r.kind) × (r.kind ≤ 8)
kind_range r q = grind (arith, nat_tests)

module _ (g : Progress) (r : Record) (left : ℕ) (p : Passed g r left) where
  pub header_out : r.kind ≡ 1 → HeaderMet g r
  header_out e = grind (arith, nat_tests)

  pub machine_out : r.kind ≡ 2 → MachineMet g r
  machine_out e = grind (arith, nat_tests)

  pub step_out : r.kind ≡ 3 → StepMet g r
  step_out e =
      record {
        has_header = grind (arith, nat_tests);
        some_machine = grind (arith, nat_tests);
        before_nodes = grind (arith, nat_tests);
        step_room = grind (arith, nat_tests);
        from_below = grind (arith, nat_tests);
        to_below = grind (arith, nat_tests);
        label_known = grind (arith, nat_tests);
        above = grind (arith, nat_tests);
        eight_events = grind (arith, nat_tests);
      }

  pub leaf_out : r.kind ≡ 4 → LeafMet g r
  leaf_out e = grind (arith, nat_tests)

  pub join_out : r.kind ≡ 5 → JoinMet g r
  join_out e =
      record {
        may = grind (arith, nat_tests);
        left_free = grind (arith, nat_tests);
        right_free = grind (arith, nat_tests);
        apart = grind (arith, nat_tests);
        set_known = grind (arith, nat_tests);
      }

  pub hide_out : r.kind ≡ 6 → HideMet g r
  hide_out e = grind (arith, nat_tests)

  pub rename_out : r.kind ≡ 7 → RenameMet g r
  rename_out e =
      record {
        may = grind (arith, nat_tests);
        left_free = grind (arith, nat_tests);
        targets_known = grind (arith, nat_tests);
      }

  pub end_out : r.kind ≡ 8 → EndMet g r
  end_out e =
      record {
        has_header = grind (arith, nat_tests);
        some_node = grind (arith, nat_tests);
        counted = grind (arith, nat_tests);
        all_used = grind (arith, nat_tests);
      }

  pub met_out : Met g r
  met_out =
      let k = kind_range r p.kind_known in
      each_kind (λ k. r.kind ≡ k → Met g r)
      (λ e. header_met e (header_out e)) (λ e. machine_met e (machine_out e)) (λ e. step_met e (step_out e))
      (λ e. leaf_met e (leaf_out e)) (λ e. join_met e (join_out e)) (λ e. hide_met e (hide_out e))
      (λ e. rename_met e (rename_out e)) (λ e. end_met e (end_out e)) r.kind k.0 k.1 refl

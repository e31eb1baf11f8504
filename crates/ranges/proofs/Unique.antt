-- Each function of this crate is settled by its contract: two results that meet it are equal.
-- Assumes nothing.
use Rattle.std.proofs.Common.{◌≡◌, Bool, List, ℕ}
use Rattle.events.proofs.Unique.{settled}
use Rattle.records.specs.declared.Record.{Record}
use Rattle.progress.specs.declared.Progress.{Progress}
use Rattle.ranges.specs.Ranges.{outside, wrong_set, wrong_target, wrong_targets, wrong_step, out_of_range}

pub is_outside_unique : (least most y : ℕ) (x x' : Bool) → x ≡ outside least most y
    → x' ≡ outside least most y → x ≡ x'
is_outside_unique least most y x x' p q = settled p q

pub wrong_set_unique : (n s : ℕ) (x x' : Bool) → x ≡ wrong_set n s → x' ≡ wrong_set n s → x ≡ x'
wrong_set_unique n s x x' p q = settled p q

pub wrong_target_unique : (n i t : ℕ) (x x' : Bool) → x ≡ wrong_target n i t → x' ≡ wrong_target n i t → x ≡ x'
wrong_target_unique n i t x x' p q = settled p q

pub wrong_targets_unique : (n : ℕ) (ts : List ℕ) (x x' : Bool) → x ≡ wrong_targets n 0 ts
    → x' ≡ wrong_targets n 0 ts → x ≡ x'
wrong_targets_unique n ts x x' p q = settled p q

pub wrong_step_unique : (g : Progress) (r : Record) (x x' : Bool) → x ≡ wrong_step g r → x' ≡ wrong_step g r → x ≡ x'
wrong_step_unique g r x x' p q = settled p q

pub out_of_range_unique : (g : Progress) (r : Record) (x x' : Bool) → x ≡ out_of_range g r
    → x' ≡ out_of_range g r → x ≡ x'
out_of_range_unique g r x x' p q = settled p q

-- Each function of this crate is settled by its contract: two results that meet it are equal.
-- Assumes nothing.
use Rattle.std.proofs.Common.{◌≡◌, ℕ, ◌-◌}
use Rattle.events.proofs.Unique.{settled}
use Rattle.records.specs.declared.Record.{Record}
use Rattle.progress.specs.declared.Progress.{Progress}
use Rattle.progress.specs.Progress.{start, with, used_with, take_record}

pub with_member_unique : (s y : ℕ) (x x' : ℕ) → x ≡ with s y → x' ≡ with s y → x ≡ x'
with_member_unique s y x x' p q = settled p q

pub one_less_unique : (k : ℕ) (x x' : ℕ) → x ≡ k - 1 → x' ≡ k - 1 → x ≡ x'
one_less_unique k x x' p q = settled p q

pub used_with_unique : (g : Progress) (r : Record) (x x' : ℕ) → x ≡ used_with g r → x' ≡ used_with g r → x ≡ x'
used_with_unique g r x x' p q = settled p q

pub start_unique : (x x' : Progress) → x ≡ start → x' ≡ start → x ≡ x'
start_unique x x' p q = settled p q

pub take_unique : (g : Progress) (r : Record) (x x' : Progress) → x ≡ take_record g r → x' ≡ take_record g r → x ≡ x'
take_unique g r x x' p q = settled p q

-- Each function of this crate is settled by its contract: two results that meet it are equal.
-- Assumes nothing.
use Rattle.std.proofs.Common.{◌≡◌, Bool, ℕ}
use Rattle.std.specs.Prelude.{⊤, Result}
use Rattle.events.proofs.Unique.{settled}
use Rattle.records.specs.declared.Record.{Record}
use Rattle.progress.specs.declared.Progress.{Progress}
use Rattle.tests.specs.Tests.{bad_kind, cut_short, misplaced, too_many, not_free, bad_operand, not_above, ninth_event}
use Rattle.tests.specs.Tests.{unused_node, bad_end}
use Rattle.tests.specs.declared.Reason.{Reason}
use Rattle.tests.specs.Reasons.{number_of}
use Rattle.tests.specs.FirstHit.{first_hit}

pub bad_kind_unique : (r : Record) (x x' : Bool) → x ≡ bad_kind r → x' ≡ bad_kind r → x ≡ x'
bad_kind_unique r x x' p q = settled p q

pub cut_short_unique : (r : Record) (left : ℕ) (x x' : Bool) → x ≡ cut_short r left → x' ≡ cut_short r left → x ≡ x'
cut_short_unique r left x x' p q = settled p q

pub is_misplaced_unique : (g : Progress) (r : Record) (x x' : Bool) → x ≡ misplaced g r → x' ≡ misplaced g r → x ≡ x'
is_misplaced_unique g r x x' p q = settled p q

pub too_many_unique : (g : Progress) (r : Record) (x x' : Bool) → x ≡ too_many g r → x' ≡ too_many g r → x ≡ x'
too_many_unique g r x x' p q = settled p q

pub not_free_unique : (g : Progress) (k : ℕ) (x x' : Bool) → x ≡ not_free g k → x' ≡ not_free g k → x ≡ x'
not_free_unique g k x x' p q = settled p q

pub bad_operand_unique : (g : Progress) (r : Record) (x x' : Bool) → x ≡ bad_operand g r → x' ≡ bad_operand g r → x ≡ x'
bad_operand_unique g r x x' p q = settled p q

pub not_above_unique : (g : Progress) (r : Record) (x x' : Bool) → x ≡ not_above g r → x' ≡ not_above g r → x ≡ x'
not_above_unique g r x x' p q = settled p q

pub ninth_event_unique : (g : Progress) (r : Record) (x x' : Bool) → x ≡ ninth_event g r → x' ≡ ninth_event g r → x ≡ x'
ninth_event_unique g r x x' p q = settled p q

pub unused_node_unique : (g : Progress) (x x' : Bool) → x ≡ unused_node g → x' ≡ unused_node g → x ≡ x'
unused_node_unique g x x' p q = settled p q

pub bad_end_unique : (g : Progress) (r : Record) (left : ℕ) (x x' : Bool) → x ≡ bad_end g r left
    → x' ≡ bad_end g r left → x ≡ x'
bad_end_unique g r left x x' p q = settled p q

pub first_hit_unique : (g : Progress) (r : Record) (left : ℕ) (x x' : Result ⊤ Reason) → x ≡ first_hit g r left
    → x' ≡ first_hit g r left → x ≡ x'
first_hit_unique g r left x x' p q = settled p q

pub number_unique : (reason : Reason) (x x' : ℕ) → x ≡ number_of reason → x' ≡ number_of reason → x ≡ x'
number_unique reason x x' p q = settled p q

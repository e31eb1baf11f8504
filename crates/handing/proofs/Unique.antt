-- Two results that meet a contract of this crate are equal. Assumes nothing.
use Rattle.std.proofs.Common.{◌≡◌, List, ℕ}
use Rattle.events.proofs.Unique.{settled}
use Rattle.records.specs.declared.Record.{Record}
use Rattle.handing.specs.Handing.{handed_in, numbers_of, record_array}

pub handed_in_unique : (used k : ℕ) (xs : List ℕ) (r r' : Record) → r ≡ handed_in used k xs → r' ≡ handed_in used k xs
    → r ≡ r'
handed_in_unique used k xs r r' p q = settled p q

pub numbers_of_unique : (r : Record) (xs xs' : List ℕ) → xs ≡ numbers_of r → xs' ≡ numbers_of r → xs ≡ xs'
numbers_of_unique r xs xs' p q = settled p q

pub record_bytes_unique : (r : Record) (x x' : List ℕ) → x ≡ record_array r → x' ≡ record_array r → x ≡ x'
record_bytes_unique r x x' p q = settled p q

-- Each function of this crate is settled by its contract: two results that meet it are equal.
-- Assumes nothing.
use Rattle.std.proofs.Common.{◌≡◌, List, ℕ}
use Rattle.events.proofs.Unique.{settled}
use Rattle.records.specs.declared.Record.{Record}
use Rattle.decoding.specs.Bytes.{byte, two, targets_in, record_of, first_record}

pub byte_at_unique : (b : List ℕ) (i : ℕ) (x x' : ℕ) → x ≡ byte b i → x' ≡ byte b i → x ≡ x'
byte_at_unique b i x x' p q = settled p q

pub two_of_unique : (low high : ℕ) (x x' : ℕ) → x ≡ two low high → x' ≡ two low high → x ≡ x'
two_of_unique low high x x' p q = settled p q

pub targets_in_unique : (b : List ℕ) (x x' : List ℕ) → x ≡ targets_in b → x' ≡ targets_in b → x ≡ x'
targets_in_unique b x x' p q = settled p q

pub decode_unique : (b : List ℕ) (x x' : Record) → x ≡ record_of b → x' ≡ record_of b → x ≡ x'
decode_unique b x x' p q = settled p q

pub first_record_unique : (b : List ℕ) (x x' : Record) → x ≡ first_record b → x' ≡ first_record b → x ≡ x'
first_record_unique b x x' p q = settled p q

-- Each function of this crate is settled by its contract, for every list of bytes: two results that meet it are equal.
-- Assumes nothing.
use Rattle.std.proofs.Common.{◌≡◌, refl, Bool, List, ℕ, drop, arith, ap, ◌∙◌, Option, None, Some}
use Rattle.std.specs.declared.ops.Range.{Range}
use Rattle.events.proofs.Unique.{settled}
use Rattle.network.specs.Model.{bound}
use Rattle.records.specs.declared.Record.{Record}
use Rattle.reader.specs.File.{records_of, file_model}
use Rattle.places.specs.declared.Records.{Records}
use Rattle.places.specs.Yielding.{GivesRecord}
use Rattle.places.specs.Finding.{place_in, node_place, machine_place, record_at, states_of, steps_at, factor_of}

pub next_unique : (s t t' : Records) (r r' : Option (Range ℕ)) → GivesRecord s r t → GivesRecord s r' t'
    → (r ≡ r') × (t.place ≡ t'.place)
next_unique s t t' None None g g' = (refl, settled g.1.1 g'.1.1)
next_unique s t t' None (Some y) g g' = absurd (omega (arith, g.1.0, g'.1.0))
next_unique s t t' (Some x) None g g' = absurd (omega (arith, g.1.0, g'.1.0))
next_unique s t t' (Some x) (Some y) g g' =
    let start : x.start ≡ y.start = settled g.1.1 g'.1.1 in
    let end : x.end ≡ y.end = settled g.1.2 g'.1.2 in
    let range : ℕ → ℕ → Option (Range ℕ) = λ a b. Some (record { start = a; end = b }) in
    (ap (λ a. range a x.end) start ∙ ap (range y.start) end, omega (arith, g.1.3, g'.1.3, end))

pub seek_unique : (s : List ℕ) (p : Record → Bool) (k : ℕ) (x x' : ℕ) → x ≡ place_in p (records_of s) k
    → x' ≡ place_in p (records_of s) k → x ≡ x'
seek_unique s p k x x' e e' = settled e e'

pub node_place_unique : (s : List ℕ) (k : ℕ) (x x' : ℕ) → x ≡ node_place s k → x' ≡ node_place s k → x ≡ x'
node_place_unique s k x x' p q = settled p q

pub machine_place_unique : (s : List ℕ) (m : ℕ) (x x' : ℕ) → x ≡ machine_place s m → x' ≡ machine_place s m → x ≡ x'
machine_place_unique s m x x' p q = settled p q

pub bytes_from_unique : (s : List ℕ) (place : ℕ) (x x' : List ℕ) → x ≡ drop place s → x' ≡ drop place s → x ≡ x'
bytes_from_unique s place x x' p q = settled p q

pub record_at_unique : (s : List ℕ) (place : ℕ) (x x' : Record) → x ≡ record_at s place
    → x' ≡ record_at s place → x ≡ x'
record_at_unique s place x x' p q = settled p q

pub steps_at_unique : (s : List ℕ) (place : ℕ) (x x' : ℕ) → x ≡ steps_at s place → x' ≡ steps_at s place → x ≡ x'
steps_at_unique s place x x' p q = settled p q

pub number_at_unique : (s : List ℕ) (place : ℕ) (x x' : ℕ) → x ≡ (record_at s place).number
    → x' ≡ (record_at s place).number → x ≡ x'
number_at_unique s place x x' p q = settled p q

pub states_of_unique : (s : List ℕ) (m : ℕ) (x x' : ℕ) → x ≡ states_of s m → x' ≡ states_of s m → x ≡ x'
states_of_unique s m x x' p q = settled p q

pub factor_unique : (s : List ℕ) (r : Record) (x x' : ℕ) → x ≡ factor_of s r → x' ≡ factor_of s r → x ≡ x'
factor_unique s r x x' p q = settled p q

pub bound_of_unique : (s : List ℕ) (x x' : ℕ) → x ≡ bound (file_model s) → x' ≡ bound (file_model s) → x ≡ x'
bound_of_unique s x x' p q = settled p q

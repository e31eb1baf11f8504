-- A record whose first byte is no leaf's multiplies the bound by 1. Assumes nothing.
use Rattle.std.proofs.Common.{◌≡◌, refl, sym, ◌∙◌, List, ℕ, inl, inr, length, ne_eqb}
use Rattle.std.proofs.Common.{drop_of_length-le}
use Rattle.std.proofs.lemmas.Bool.{cases_lt}
use Rattle.std.proofs.lemmas.List.{get_or_past}
use Rattle.records.specs.Kinds.{leaf_kind, size_of}
use Rattle.decoding.specs.Bytes.{byte, first_record, record_of}
use Rattle.places.specs.Finding.{record_at, factor_of}
use Rattle.places.proofs.Standing.{kind_at}

-- the kind of the record that begins at a place is the byte there, 0 behind the end
pub kind_there : (s : List ℕ) (place : ℕ) → (record_at s place).kind ≡ byte s place
unfolding record_at first_record record_of size_of
kind_there s place =
    elim (cases_lt place (length s)) [
      | inl h ↦ kind_at s place h
      | inr h ↦ rw (drop_of_length-le s h, get_or_past s place 0 h) refl
    ]

pub factor_other : (s : List ℕ) (place : ℕ) → (byte s place ≡ leaf_kind → ⊥) → factor_of s (record_at s place) ≡ 1
unfolding factor_of
factor_other s place h = rw (ne_eqb (record_at s place).kind leaf_kind (λ q. h (sym (kind_there s place) ∙ q))) refl

-- Where a record that is sought begins, and the loop that seeks it: what holds whenever it comes round.
-- Assumes nothing.
use Rattle.std.proofs.Common.{◌≡◌, refl, ap, ◌∙◌, Bool, true, false, cond, ◌&&◌, List, [], ◌∷◌, ℕ}
use Rattle.std.proofs.Common.{suc, ◌+◌, ◌-◌, ◌≤◌, ◌<◌, arith, eqb, length, drop, drop_of_length-le}
use Rattle.std.proofs.Common.{ne_eqb}
use Rattle.records.specs.declared.Record.{Record}
use Rattle.records.specs.Kinds.{size_of}
use Rattle.decoding.specs.Bytes.{byte, first_record}
use Rattle.records.proofs.Choices.{cond_true, cond_false}
use Rattle.reader.specs.File.{records_of}
use Rattle.places.specs.Finding.{place_in}
use Rattle.places.proofs.Standing.{none_from, one_from, kind_at}

-- nothing is left behind the end
pub gone : (s : List ℕ) (at : ℕ) → length s ≤ at → drop at s ≡ []
gone s at h = drop_of_length-le s h

pub found_here : (p : Record → Bool) (r : Record) (rs : List Record) (k : ℕ) → (p r && eqb k 0) ≡ true
    → place_in p (r ∷ rs) k ≡ 0
unfolding place_in
found_here p r rs k q = go (p r) (eqb k 0) q
  where
    go : (b z : Bool) → (b && z) ≡ true
        → cond b (cond z 0 (size_of r.kind + place_in p rs (k - 1))) (size_of r.kind + place_in p rs k) ≡ 0
    go true true q = refl
    go true false q = let w : ◌≡◌ {A = ℕ} 0 1 = cc in absurd (omega arith)
    go false z q = let w : ◌≡◌ {A = ℕ} 0 1 = cc in absurd (omega arith)

pub place_behind : (p : Record → Bool) (r : Record) (rs : List Record) (k : ℕ) → p r ≡ false
    → place_in p (r ∷ rs) k ≡ size_of r.kind + place_in p rs k
unfolding place_in
place_behind p r rs k q = cond_false (p r) _ _ q

pub place_next : (p : Record → Bool) (r : Record) (rs : List Record) (k : ℕ) → p r ≡ true
    → place_in p (r ∷ rs) (suc k) ≡ size_of r.kind + place_in p rs k
unfolding place_in
place_next p r rs k q =
    let n : suc k - 1 ≡ k = omega arith in
    cond_true (p r) _ _ q ∙ cond_false (eqb (suc k) 0) _ _ (ne_eqb (suc k) 0 (λ y. omega arith))
    ∙ ap (λ (i : ℕ). size_of r.kind + place_in p rs i) n

-- seeking record k of those that p picks, from a place on: `left` of them are still to be passed
pub record Seeking (p : Record → Bool) (s : List ℕ) (k at left : ℕ) : Type 0 where
  pub same : at + place_in p (records_of (drop at s)) left ≡ place_in p (records_of s) k

module _ {p : Record → Bool} {s : List ℕ} {k at left : ℕ} (i : Seeking p s k at left) where
  pub seek_ends : length s ≤ at → at ≡ place_in p (records_of s) k
  unfolding place_in
  seek_ends h = omega (arith, i.same, ap (λ rs. place_in p rs left) (none_from s at h))

  module _ (h : at < length s) where
    -- the record that begins there, and those behind it
    abbrev r : Record
    r = first_record (drop at s)

    abbrev behind : List Record
    behind = records_of (drop (at + size_of (byte s at)) s)

    turn : (at + place_in p (r ∷ behind) left ≡ place_in p (records_of s) k) × (size_of r.kind ≡ size_of (byte s at))
    turn = (rw (one_from s at h) at i.same, ap size_of (kind_at s at h))

    pub seek_found : p r ≡ true → left ≡ 0 → at ≡ place_in p (records_of s) k
    seek_found q z = omega (arith, turn, found_here p r behind left (rw (q, z)))

    -- one that is sought is passed, or another
    pub seek_past : p r ≡ true → (j : ℕ) → left ≡ suc j → Seeking p s k (at + size_of (byte s at)) j
    seek_past q j z =
        record { same = omega (arith, turn, ap (place_in p (r ∷ behind)) z, place_next p r behind j q) }

    pub seek_behind : p r ≡ false → Seeking p s k (at + size_of (byte s at)) left
    seek_behind q = record { same = omega (arith, turn, place_behind p r behind left q) }

-- The records of a file from a place on: each begins where the one before it ends.
-- Assumes nothing.
use Rattle.std.proofs.Common.{◌≡◌, refl, sym, ap, ◌∙◌, List, [], ◌∷◌, ◌⊎◌, inl, inr, ℕ, zero, suc, ◌≤◌, ◌<◌}
use Rattle.std.proofs.Common.{arith, length, drop, length-drop, drop-cons, drop-drop, ◌+◌, subst}
use Rattle.records.specs.declared.Record.{Record}
use Rattle.records.specs.Kinds.{size_of}
use Rattle.records.proofs.Sizes.{size_positive}
use Rattle.decoding.specs.Bytes.{byte, first_record}
use Rattle.decoding.proofs.Bytes.{first_kind}
use Rattle.reader.specs.File.{records_from, records_of}
use Rattle.places.specs.declared.Records.{Records}
use Rattle.std.specs.declared.ops.Range.{Range}
use Rattle.places.specs.Finding.{record_at}
use Rattle.places.specs.Yielding.{GivesRecord}
use Rattle.std.proofs.lemmas.Iterator.{YieldsList}
use Rattle.std.proofs.lemmas.Iterator.Splits.{YieldsList-from_shown_while}
use Rattle.reader.proofs.Turns.{rest}
use Rattle.reader.proofs.Records.{none_left, records_next}

pub empty_or_not : (n : ℕ) → (n ≡ 0) ⊎ (0 < n)
empty_or_not zero = inl refl
empty_or_not (suc n) = inr (omega arith)

pub shorter : (b : List ℕ) (f : ℕ) → 0 < length b → length b ≤ suc f → length (rest b) ≤ f
shorter b f h k = omega (arith, length-drop (size_of (first_record b).kind) b, size_positive (first_record b).kind)

-- fuel that suffices is fuel enough
pub same_records : (f f' : ℕ) (b : List ℕ) → length b ≤ f → length b ≤ f' → records_from f b ≡ records_from f' b
same_records zero f' b h k = none_left 0 b (omega arith) ∙ sym (none_left f' b (omega arith))
same_records (suc f) zero b h k = none_left (suc f) b (omega arith) ∙ sym (none_left 0 b (omega arith))
same_records (suc f) (suc f') b h k = go (empty_or_not (length b)) (same_records f f' (rest b))
  where
    go : (length b ≡ 0) ⊎ (0 < length b)
        → (length (rest b) ≤ f → length (rest b) ≤ f' → records_from f (rest b) ≡ records_from f' (rest b))
        → records_from (suc f) b ≡ records_from (suc f') b
    go (inl z) ih = none_left (suc f) b z ∙ sym (none_left (suc f') b z)
    go (inr l) ih =
        records_next f b l ∙ ap (λ (rs : List Record). first_record b ∷ rs) (ih (shorter b f l h) (shorter b f' l k))
        ∙ sym (records_next f' b l)

-- the records of some bytes are the first, and those behind it
pub one_record : (b : List ℕ) → 0 < length b → records_of b ≡ first_record b ∷ records_of (rest b)
unfolding records_of
one_record b h =
    same_records (length b) (suc (length b)) b (omega arith) (omega arith) ∙ records_next (length b) b h
    ∙ ap (λ (rs : List Record). first_record b ∷ rs)
    (same_records (length b) (length (rest b)) (rest b) (shorter b (length b) h (omega arith)) (omega arith))

pub no_record : (b : List ℕ) → length b ≡ 0 → records_of b ≡ []
unfolding records_of
no_record b e = none_left (length b) b e

module _ (s : List ℕ) (at : ℕ) where
  -- none stand behind the end
  pub none_from : length s ≤ at → records_of (drop at s) ≡ []
  none_from h = no_record (drop at s) (length-drop at s ∙ omega arith)

  -- the kind of the record that begins at a place is the byte there
  pub kind_at : at < length s → (first_record (drop at s)).kind ≡ byte s at
  kind_at h =
      ap (λ (b : List ℕ). (first_record b).kind) (drop-cons s at 0 h) ∙ first_kind (byte s at) (drop (suc at) s)

  pub one_from : at < length s
      → records_of (drop at s) ≡ first_record (drop at s) ∷ records_of (drop (at + size_of (byte s at)) s)
  one_from h =
      one_record (drop at s) (omega (arith, length-drop at s))
      ∙ ap (λ (b : List ℕ). first_record (drop at s) ∷ records_of b)
      (drop-drop (size_of (first_record (drop at s)).kind) at s
      ∙ ap (λ (k : ℕ). drop (at + size_of k) s) (kind_at h))

-- what a chain over the records of the file s goes over
road_from : (s : List ℕ) (it : Records) → it.bytes.now ≡ s
    → YieldsList GivesRecord (λ x. record_at s x.start) it (records_of (drop it.place s))
unfolding record_at
road_from s =
    YieldsList-from_shown_while GivesRecord (λ (x : Range ℕ). record_at s x.start)
    (λ (t : Records). records_of (drop t.place s)) (λ (t : Records). t.bytes.now ≡ s)
    (λ t u e g. let h : length s ≤ t.place = omega (arith, ap (length {A = ℕ}) e, g.1.0) in
    ap length (none_from s t.place h))
    (λ t x u e g. let h : t.place < length s = omega (arith, ap (length {A = ℕ}) e, g.1.0) in
    (g.0 ∙ e, rw (g.1.3, g.1.2, g.1.1, e) (one_from s t.place h)))

pub records_road : (s : List ℕ) (it : Records) → (it.bytes.now ≡ s) × (it.place ≡ 0)
    → YieldsList GivesRecord (λ x. record_at s x.start) it (records_of s)
records_road s it e =
    subst (λ rs. YieldsList GivesRecord (λ (x : Range ℕ). record_at s x.start) it rs)
    (ap (λ (at : ℕ). records_of (drop at s)) e.1) (road_from s it e.0)

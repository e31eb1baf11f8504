-- In a readable file every record is whole, and so are those behind any machine's record. Assumes nothing.
use Rattle.std.proofs.Common.{◌≡◌, refl, sym, ap, ◌∙◌, Bool, true, false, List, ◌∷◌, ◌⊎◌, inl, inr, ℕ, zero, suc}
use Rattle.std.proofs.Common.{◌+◌, ◌≤◌, ◌<◌, arith, length, drop, length-drop, drop-drop, eqb-true}
use Rattle.records.specs.declared.Record.{Record}
use Rattle.progress.specs.declared.Progress.{Progress}
use Rattle.records.specs.Kinds.{body_length, size_of, machine_kind, end_kind, is}
use Rattle.decoding.specs.Bytes.{first_record}
use Rattle.progress.specs.Progress.{start, take_record}
use Rattle.records.proofs.Sizes.{size_positive}
use Rattle.records.proofs.Choices.{cond_true, cond_false}
use Rattle.reader.specs.declared.Scan.TheVariants.{Finished}
use Rattle.reader.specs.Scan.{scan_from, scan_of, readable, says}
use Rattle.reader.specs.File.{records_from, steps_of, machines_of}
use Rattle.places.specs.Finding.{place_in}
use Rattle.reader.proofs.Turns.{rest, Then, Turn, turn_out, turn_passed, turn_whole, none_finished}
use Rattle.reader.proofs.Readings.{readable_out}
use Rattle.reader.proofs.Records.{none_left, records_next, end_known}
use Rattle.places.proofs.Seeking.{found_here, place_behind, place_next}
use Rattle.std.specs.Prelude.{Ok}

-- nothing is left, or a scan of the bytes b finishes
pub Whole : List ℕ → Type 0
Whole b = (length b ≡ 0) ⊎ ((f : ℕ) × (g : Progress) × (h : Progress) × (scan_from f g b ≡ Ok (Finished h)))

-- then the first record is whole, and so are those behind it
pub whole_next : (b : List ℕ) → Whole b → 0 < length b → (size_of (first_record b).kind ≤ length b) × Whole (rest b)
unfolding Whole size_of body_length
whole_next b (inl z) h = absurd (omega arith)
whole_next b (inr (zero, g, h, e)) l = none_finished g h b e
whole_next b (inr (suc f, g, h, e)) l = (turn_whole f g b h k, go k.then)
  where
    k : Turn f g b h
    k = turn_out f g b h e

    end_size : (k : ℕ) → k ≡ end_kind → size_of k ≡ 3
    end_size k q = rw q

    go : Then f g b h → Whole (rest b)
    go (inl w) =
        let z = (end_known g b (turn_passed f g b h k) w.0).0 in
        let n = end_size (first_record b).kind w.0 in
        inl (length-drop (size_of (first_record b).kind) b ∙ omega arith)
    go (inr w) = inr (f, take_record g (first_record b), h, w.1)

-- so they are behind any machine's record, and it is whole itself
pub machine_whole : (f : ℕ) (b : List ℕ) (k : ℕ) → length b ≤ f → Whole b
    → k < length (machines_of (records_from f b))
    → (place_in (is machine_kind) (records_from f b) k + 2 ≤ length b)
    × Whole (drop (place_in (is machine_kind) (records_from f b) k + 2) b)
unfolding records_from machines_of size_of body_length
machine_whole zero b k h w l = absurd (omega arith)
machine_whole (suc f) b k h w l =
    go (length b) refl (λ some j m. machine_whole f (rest b) j
    (omega (arith, length-drop (size_of (first_record b).kind) b, size_positive (first_record b).kind))
    (whole_next b w some).1 m)
  where
    r : Record
    r = first_record b

    rs : List Record
    rs = records_from f (rest b)

    Behind : List Record → ℕ → List ℕ → Type 0
    Behind qs j c =
        (place_in (is machine_kind) qs j + 2 ≤ length c) × Whole (drop (place_in (is machine_kind) qs j + 2) c)

    later : (j : ℕ) → place_in (is machine_kind) (r ∷ rs) k ≡ size_of r.kind + place_in (is machine_kind) rs j
        → size_of r.kind ≤ length b → Behind rs j (rest b) → Behind (r ∷ rs) k b
    later j q n i =
        let a : place_in (is machine_kind) (r ∷ rs) k + 2
        ≡ size_of r.kind + (place_in (is machine_kind) rs j + 2) = omega (arith, q) in
        let z : drop (place_in (is machine_kind) (r ∷ rs) k + 2) b
        ≡ drop (place_in (is machine_kind) rs j + 2) (rest b) =
        ap (λ (x : ℕ). drop x b) a
        ∙ sym (drop-drop (place_in (is machine_kind) rs j + 2) (size_of r.kind) b) in
        (omega (arith, q, i.0, n, length-drop (size_of r.kind) b), rw z i.1)

    at : 0 < length b → (t : Bool) → is machine_kind r ≡ t → (k' : ℕ) → k ≡ k' → k' < length (machines_of (r ∷ rs))
        → ((j : ℕ) → j < length (machines_of rs) → Behind rs j (rest b)) → Behind (r ∷ rs) k b
    at some true q zero e m ih =
        let n = whole_next b w some in
        let size : size_of r.kind ≡ 2 = ap size_of (eqb-true r.kind machine_kind q) in
        let z : place_in (is machine_kind) (r ∷ rs) k ≡ 0 = found_here (is machine_kind) r rs k (rw (q, e)) in
        let a : place_in (is machine_kind) (r ∷ rs) k + 2 ≡ size_of r.kind = omega (arith, z, size) in
        let d : drop (place_in (is machine_kind) (r ∷ rs) k + 2) b ≡ rest b = ap (λ (x : ℕ). drop x b) a in
        (omega (arith, z, size, n.0), rw d n.1)
    at some true q (suc j) e m ih =
        let c : machines_of (r ∷ rs) ≡ record { states = r.number; steps = steps_of rs } ∷ machines_of rs =
        cond_true (is machine_kind r) _ _ q in
        let len : length (machines_of (r ∷ rs)) ≡ suc (length (machines_of rs)) = ap length c in
        later j (ap (place_in (is machine_kind) (r ∷ rs)) e ∙ place_next (is machine_kind) r rs j q)
        (whole_next b w some).0 (ih j (omega (arith, len)))
    at some false q k' e m ih =
        let c : machines_of (r ∷ rs) ≡ machines_of rs = cond_false (is machine_kind r) _ _ q in
        let len : length (machines_of (r ∷ rs)) ≡ length (machines_of rs) = ap length c in
        later k (place_behind (is machine_kind) r rs k q) (whole_next b w some).0 (ih k (omega (arith, len, e)))

    go : (n : ℕ) → length b ≡ n
        → (0 < length b → (j : ℕ) → j < length (machines_of rs) → Behind rs j (rest b)) → Behind
        (records_from (suc f) b) k b
    go zero e ih = absurd (omega (arith, ap (λ (xs : List Record). length (machines_of xs)) (none_left (suc f) b e)))
    go (suc n) e ih =
        let some : 0 < length b = omega arith in
        let q = records_next f b some in
        rw q (at some (is machine_kind r) refl k refl (rw q at l) (ih some))

-- a readable file is whole
pub whole_file : (s : List ℕ) → says s ≡ readable → Whole s
unfolding Whole scan_of
whole_file s e = let w = readable_out s e in inr (length s, start, w.at_end, w.finished)

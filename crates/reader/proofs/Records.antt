-- The records of a file, as the scan goes over them: they run from the start to the end, each meeting no test.
-- Assumes nothing.
use Rattle.std.proofs.lemmas.Bool.Decides.{nat_tests}
use Rattle.std.proofs.Common.{◌≡◌, refl, sym, ap, ◌∙◌, false, List, [], ◌∷◌, ◌≢◌, ◌⊎◌, inl, inr, ℕ, zero}
use Rattle.std.proofs.Common.{suc, ◌<◌, arith, length, length-drop, eq-eqb}
use Rattle.std.proofs.Common.{ne_eqb, le-ltb}
use Rattle.records.specs.declared.Record.{Record}
use Rattle.progress.specs.declared.Progress.{Progress}
use Rattle.records.specs.Kinds.{body_length, size_of, end_kind}
use Rattle.decoding.specs.Bytes.{first_record}
use Rattle.progress.specs.Progress.{take_record}
use Rattle.tests.specs.Tests.{bad_end}
use Rattle.tests.specs.FirstHit.{first_hit}
use Rattle.tests.proofs.Passing.{Passed, pass_with}
use Rattle.reader.specs.declared.Scan.TheVariants.{Finished}
use Rattle.reader.specs.Scan.{scan_from}
use Rattle.reader.specs.File.{records_from}
use Rattle.reader.proofs.Turns.{rest, Then, Turn, turn_out, turn_passed, none_finished}
use Rattle.std.specs.Prelude.{Ok}

pub none_left : (f : ℕ) (b : List ℕ) → length b ≡ 0 → records_from f b ≡ []
unfolding records_from
none_left zero b e = refl
none_left (suc f) b e = simp (eq-eqb (length b) 0 e)

pub records_next : (f : ℕ) (b : List ℕ) → 0 < length b → records_from (suc f) b ≡ first_record b ∷ records_from f (rest b)
unfolding records_from
records_next f b h = simp (ne_eqb (length b) 0 (λ q. omega arith))

-- an end record that passed: three bytes are left, and its number is how many stand before it
pub end_known : (g : Progress) (b : List ℕ) → Passed g (first_record b) (length b) → (first_record b).kind ≡ end_kind
    → (length b ≡ 3) × ((first_record b).number ≡ g.place)
unfolding size_of body_length
end_known g b p k = (grind (arith, nat_tests, p.whole, p.good_end), grind (arith, nat_tests, p.good_end))

-- the records meet no test one after another, each as if nothing stood behind it, and lead from g to h
unfoldable pub Runs : Progress → List Record → Progress → Type 0
Runs g [] h = g ≡ h
Runs g (r ∷ rs) h = (first_hit g r (size_of r.kind) ≡ Ok tt) × Runs (take_record g r) rs h

-- no record but the last is an end
unfoldable pub EndsOnce : List Record → Type 0
EndsOnce [] = ⊥
EndsOnce (r ∷ []) = r.kind ≡ end_kind
EndsOnce (r ∷ r' ∷ rs) = (r.kind ≢ end_kind) × EndsOnce (r' ∷ rs)

exact : (g : Progress) (r : Record) (left : ℕ) → Passed g r left → (r.kind ≢ end_kind) ⊎ (left ≡ size_of r.kind)
    → first_hit g r (size_of r.kind) ≡ Ok tt
exact g r left p w =
    let last : bad_end g r (size_of r.kind) ≡ false = grind (arith, nat_tests, p.good_end) in
    pass_with g r (size_of r.kind) left p (le-ltb (size_of r.kind) (size_of r.kind) (omega arith)) last

pub record Run (g : Progress) (rs : List Record) (h : Progress) : Type 0 where
  pub taken : Runs g rs h
  pub ends_once : EndsOnce rs

front : (r : Record) (rs : List Record) → r.kind ≢ end_kind → EndsOnce rs → EndsOnce (r ∷ rs)
unfolding EndsOnce
front r [] n e = absurd e
front r (r' ∷ rs) n e = (n, e)

pub runs : (f : ℕ) (g h : Progress) (b : List ℕ) → scan_from f g b ≡ Ok (Finished h) → Run g (records_from f b) h
unfolding Runs EndsOnce size_of body_length
runs zero g h b e = none_finished g h b e
runs (suc f) g h b e = rw (records_next f b k.some_left) (go k.then (λ g' b' e'. runs f g' h b' e'))
  where
    k : Turn f g b h
    k = turn_out f g b h e

    p : Passed g (first_record b) (length b)
    p = turn_passed f g b h k

    go : Then f g b h → ((g' : Progress) (b' : List ℕ) → scan_from f g' b' ≡ Ok (Finished h) → Run g' (records_from f b') h)
        → Run g (first_record b ∷ records_from f (rest b)) h
    go (inl w) again =
        let z : length b ≡ size_of (first_record b).kind = (end_known g b p w.0).0 ∙ sym (ap size_of w.0) in
        let n : records_from f (rest b) ≡ [] =
        none_left f (rest b) (length-drop (size_of (first_record b).kind) b ∙ omega arith) in
        rw n (record { taken = (exact g (first_record b) (length b) p (inr z), w.1); ends_once = w.0 })
    go (inr w) again =
        let i = again (take_record g (first_record b)) (rest b) w.1 in
        record {
          taken = (exact g (first_record b) (length b) p (inl w.0), i.taken);
          ends_once = front (first_record b) (records_from f (rest b)) w.0 i.ends_once;
        }

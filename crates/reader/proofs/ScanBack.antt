-- The bytes of records that run to an end are scanned to that end, and the records come back.
-- Assumes nothing.
use Rattle.std.proofs.Common.{◌≡◌, sym, ap, ◌∙◌, List, [], ◌∷◌, ◌++◌, ◌≢◌, ℕ, zero, suc, ◌+◌, ◌≤◌, ◌<◌, arith}
use Rattle.std.proofs.Common.{length, drop, length-append, drop_at, le-ltb, ne_eqb}
use mathlib.Core.List.{flat_map}
use Rattle.records.specs.declared.Record.{Record}
use Rattle.progress.specs.declared.Progress.{Progress}
use Rattle.records.specs.Kinds.{size_of, end_kind}
use Rattle.decoding.specs.Bytes.{first_record, bytes_of}
use Rattle.progress.specs.Progress.{take_record}
use Rattle.tests.specs.FirstHit.{first_hit}
use Rattle.records.proofs.Sizes.{size_positive}
use Rattle.decoding.proofs.Decodes.{Decodes}
use Rattle.tests.proofs.Passing.{passed_out, pass_with}
use Rattle.reader.specs.declared.Scan.TheVariants.{Finished}
use Rattle.reader.specs.Scan.{scan_from}
use Rattle.reader.specs.File.{records_from}
use Rattle.reader.specs.Encoding.{bytes_of_all}
use Rattle.reader.proofs.Turns.{rest, scan_finished, scan_next}
use Rattle.reader.proofs.Records.{none_left, records_next, Runs, EndsOnce}
use Rattle.reader.proofs.Passes.{after}
use Rattle.std.specs.Prelude.{Ok}

unfoldable pub AllDecode : List Record → Type 0
AllDecode [] = Unit {0}
AllDecode (r ∷ rs) = Decodes r × AllDecode rs

pub decode_append : (rs qs : List Record) → AllDecode rs → AllDecode qs → AllDecode (rs ++ qs)
unfolding AllDecode
decode_append [] qs d e = e
decode_append (r ∷ rs) qs d e = (d.0, decode_append rs qs d.1 e)

-- the place behind records is how many bytes they have
pub after_place : (rs : List Record) (g : Progress) → AllDecode rs
    → (after g rs).place ≡ g.place + length (bytes_of_all rs)
unfolding AllDecode after flat_map take_record
after_place [] g d = omega arith
after_place (r ∷ rs) g d =
    after_place rs (take_record g r) d.1 ∙ omega (arith, d.0.sized, length-append (bytes_of r) (bytes_of_all rs))

-- one record and the bytes behind it
module _ (r : Record) (b : List ℕ) (d : Decodes r) where
  behind : rest (bytes_of r ++ b) ≡ b
  behind = ap (λ (x : Record). drop (size_of x.kind) (bytes_of r ++ b)) (d.comes_back b)
      ∙ drop_at (bytes_of r) b (size_of r.kind) d.sized

  long : length (bytes_of r ++ b) ≡ size_of r.kind + length b
  long = length-append (bytes_of r) b ∙ ap (λ (n : ℕ). n + length b) d.sized

  some : 0 < length (bytes_of r ++ b)
  some = omega (arith, long, size_positive r.kind)

-- both halves of what is claimed
abbrev Comes : ℕ → Progress → List Record → Progress → Type 0
Comes f g rs h = (scan_from f g (bytes_of_all rs) ≡ Ok (Finished h)) × (records_from f (bytes_of_all rs) ≡ rs)

last_comes : (f : ℕ) (g h : Progress) (r : Record) → Decodes r → first_hit g r (size_of r.kind) ≡ Ok tt → r.kind ≡ end_kind
    → take_record g r ≡ h → Comes (suc f) g (r ∷ []) h
unfolding flat_map
last_comes f g h r d w k e =
    let b = bytes_of r ++ [] in
    let q : first_record b ≡ r = d.comes_back [] in
    let l : length b ≡ size_of r.kind = long r [] d ∙ omega arith in
    let t : first_hit g (first_record b) (length b) ≡ Ok tt = rw (q, l) w in (
      scan_finished f g b (some r [] d) t (ap (λ (x : Record). x.kind) q ∙ k)
          ∙ ap (λ (x : Record). Ok (Finished (take_record g x))) q ∙ ap (λ (x : Progress). Ok (Finished x)) e,
      records_next f b (some r [] d) ∙ ap (λ (x : Record). x ∷ records_from f (rest b)) q
          ∙ ap (λ (x : List Record). r ∷ x) (none_left f (rest b) (ap length (behind r [] d))),
    )

next_comes : (f : ℕ) (g h : Progress) (r : Record) (rs : List Record) → Decodes r → first_hit g r (size_of r.kind) ≡ Ok tt
    → r.kind ≢ end_kind → Comes f (take_record g r) rs h → Comes (suc f) g (r ∷ rs) h
unfolding flat_map
next_comes f g h r rs d w k i =
    let b = bytes_of r ++ bytes_of_all rs in
    let q : first_record b ≡ r = d.comes_back (bytes_of_all rs) in
    let l = long r (bytes_of_all rs) d in
    let u : first_hit g r (length b) ≡ Ok tt =
    pass_with g r (length b) (size_of r.kind) (passed_out g r (size_of r.kind) w)
    (le-ltb (length b) (size_of r.kind) (omega (arith, l))) (rw (ne_eqb r.kind end_kind k)) in
    let t : first_hit g (first_record b) (length b) ≡ Ok tt = ap (λ (x : Record). first_hit g x (length b)) q ∙ u in (
      scan_next f g b (some r (bytes_of_all rs) d) t (λ z. k (sym (ap (λ (x : Record). x.kind) q) ∙ z))
          ∙ ap (λ (x : Record). scan_from f (take_record g x) (rest b)) q
          ∙ ap (scan_from f (take_record g r)) (behind r (bytes_of_all rs) d) ∙ i.0,
      records_next f b (some r (bytes_of_all rs) d) ∙ ap (λ (x : Record). x ∷ records_from f (rest b)) q
          ∙ ap (λ (x : List Record). r ∷ x) (ap (records_from f) (behind r (bytes_of_all rs) d) ∙ i.1),
    )

pub scan_back : (f : ℕ) (rs : List Record) (g h : Progress) → Runs g rs h → EndsOnce rs → AllDecode rs
    → length (bytes_of_all rs) ≤ f → Comes f g rs h
unfolding Runs EndsOnce AllDecode flat_map
scan_back f [] g h w e d l = absurd e
scan_back zero (r ∷ rs) g h w e d l = absurd (empty r (bytes_of_all rs) d.0 l)
  where
    empty : (r : Record) (b : List ℕ) → Decodes r → length (bytes_of r ++ b) ≤ 0 → ⊥
    empty r b d l = omega (arith, some r b d)
scan_back (suc f) (r ∷ []) g h w e d l = last_comes f g h r d.0 w.0 e w.1
scan_back (suc f) (r ∷ r' ∷ rs) g h w e d l =
    next_comes f g h r (r' ∷ rs) d.0 w.0 e.0
    (scan_back f (r' ∷ rs) (take_record g r) h w.1 e.1 d.1 (shorter r (bytes_of_all (r' ∷ rs)) d.0 l))
  where
    shorter : (r : Record) (b : List ℕ) → Decodes r → length (bytes_of r ++ b) ≤ suc f → length b ≤ f
    shorter r b d l = omega (arith, long r b d, size_positive r.kind)

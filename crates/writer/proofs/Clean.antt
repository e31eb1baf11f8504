-- A scan that stops cleanly at a record's start: what every taken record keeps holds there, its place is the number of
-- bytes, and the scan of more bytes goes on from there. Assumes nothing.
use Rattle.std.proofs.Common.{◌≡◌, refl, sym, ap, ◌∙◌, Bool, true, false, cond, ◌≢◌, List, [], ◌∷◌, ◌++◌, ℕ}
use Rattle.std.proofs.Common.{zero, suc, ◌+◌, ◌≤◌, ◌<◌, arith, eqb, length, length-drop, length-append, eqb-true}
use Rattle.std.proofs.Common.{ne_eqb, le-ltb, ltb-false}
use lib.Seq.{drop-append-le}
use borrow.Author.Tests.{eqb-false}
use Rattle.records.specs.declared.Record.{Record}
use Rattle.progress.specs.declared.Progress.{Progress}
use Rattle.records.specs.Kinds.{end_kind, size_of, is}
use Rattle.decoding.specs.Bytes.{first_record}
use Rattle.progress.specs.Progress.{take_record}
use Rattle.tests.specs.FirstHit.{first_hit, unless_hit}
use Rattle.tests.specs.declared.Reason.{Reason}
use Rattle.std.specs.Prelude.{⊤, Result, Ok, Err}
use Rattle.records.proofs.Sizes.{size_positive}
use Rattle.decoding.proofs.Bytes.{same_first}
use Rattle.tests.proofs.Passing.{Passed, passed_out, pass_with}
use Rattle.reader.specs.declared.Scan.{Scan}
use Rattle.reader.specs.declared.Scan.TheVariants.{Stopped, Finished}
use Rattle.reader.specs.Scan.{scan_from}
use Rattle.reader.proofs.Turns.{rest, scan_stopped, scan_next}
use Rattle.tests.specs.declared.Refusal.{Refusal}

-- a turn of a scan that stops cleanly: nothing is left, or a record that is no end and then the rest
pub data CleanTurn (f : ℕ) (g : Progress) (b : List ℕ) (h : Progress) : Type 0 where
  at_end : length b ≡ 0 → g ≡ h → CleanTurn f g b h
  goes_on : 0 < length b → Passed g (first_record b) (length b) → (first_record b).kind ≢ end_kind
      → scan_from f (take_record g (first_record b)) (rest b) ≡ Ok (Stopped h) → CleanTurn f g b h

pub clean_turn : (f : ℕ) (g : Progress) (b : List ℕ) (h : Progress) → scan_from (suc f) g b ≡ Ok (Stopped h)
    → CleanTurn f g b h
unfolding scan_from
clean_turn f g b h e =
    at (eqb (length b) 0) refl (first_hit g (first_record b) (length b)) refl (is end_kind (first_record b)) refl e
  where
    next : Result Scan Refusal
    next = scan_from f (take_record g (first_record b)) (rest b)

    some : (n : ℕ) → (n ≡ 0 → ⊥) → 0 < n
    some zero a = absurd (a refl)
    some (suc n) a = omega arith

    at : (x : Bool) → eqb (length b) 0 ≡ x → (y : Result ⊤ Reason) → first_hit g (first_record b) (length b) ≡ y
        → (z : Bool) → is end_kind (first_record b) ≡ z
        → cond x (Ok (Stopped g))
        (unless_hit y g.place (cond z (Ok (Finished (take_record g (first_record b)))) next))
        ≡ Ok (Stopped h) → CleanTurn f g b h
    at true p y q z r e = at_end (eqb-true (length b) 0 p) (cc)
    at false p (Err reason) q z r e = let w : ◌≡◌ {A = ℕ} 0 1 = cc in absurd (omega arith)
    at false p (Ok u) q true r e = let w : ◌≡◌ {A = ℕ} 0 1 = cc in absurd (omega arith)
    at false p (Ok u) q false r e =
        goes_on (some (length b) (eqb-false (length b) 0 p))
        (passed_out g (first_record b) (length b) q)
        (eqb-false (first_record b).kind end_kind r) e

-- the whole record is there, and what is left behind it
pub rest_length : (g : Progress) (b : List ℕ) → Passed g (first_record b) (length b)
    → (size_of (first_record b).kind ≤ length b) × (length (rest b) + size_of (first_record b).kind ≡ length b)
rest_length g b p =
    let l = ltb-false (length b) (size_of (first_record b).kind) p.whole in
    (l, omega (arith, length-drop (size_of (first_record b).kind) b))

-- what every taken record keeps holds where the scan stops
pub clean_keeps : (P : Progress → Type 0)
    → ((g : Progress) (r : Record) (left : ℕ) → Passed g r left → r.kind ≢ end_kind → P g → P (take_record g r))
    → (f : ℕ) (g : Progress) (b : List ℕ) (h : Progress) → scan_from f g b ≡ Ok (Stopped h) → P g → P h
unfolding scan_from
clean_keeps P up zero g b h e p = let q : g ≡ h = cc in rw q at p
clean_keeps P up (suc f) g b h e p = at (clean_turn f g b h e) (clean_keeps P up f)
  where
    at : CleanTurn f g b h
        → ((g' : Progress) (b' : List ℕ) (h' : Progress) → scan_from f g' b' ≡ Ok (Stopped h') → P g' → P h') → P h
    at (at_end z q) ih = rw q at p
    at (goes_on l passed k e') ih =
        ih (take_record g (first_record b)) (rest b) h e' (up g (first_record b) (length b) passed k p)

-- the place where the scan stops
pub clean_place : (f : ℕ) (g : Progress) (b : List ℕ) (h : Progress) → length b ≤ f → scan_from f g b ≡ Ok (Stopped h)
    → h.place ≡ g.place + length b
unfolding scan_from take_record
clean_place zero g b h l e = let q : g ≡ h = cc in rw (← q) (omega arith)
clean_place (suc f) g b h l e = at (clean_turn f g b h e) (clean_place f)
  where
    at : CleanTurn f g b h
        → ((g' : Progress) (b' : List ℕ) (h' : Progress) → length b' ≤ f → scan_from f g' b' ≡ Ok (Stopped h')
        → h'.place ≡ g'.place + length b')
        → h.place ≡ g.place + length b
    at (at_end z q) ih = rw (← q) (omega arith)
    at (goes_on s passed k e') ih =
        let r = rest_length g b passed in
        omega (
          arith,
          r.1,
          size_positive (first_record b).kind,
          ih (take_record g (first_record b)) (rest b) h (omega (arith, r.1, size_positive (first_record b).kind)) e',
        )

-- more fuel than bytes changes nothing
pub fuel_free : (f f' : ℕ) (g : Progress) (b : List ℕ) → length b ≤ f → length b ≤ f' → scan_from f g b ≡ scan_from f' g b
unfolding scan_from
fuel_free zero f' g b l l' = sym (scan_stopped f' g b (omega arith))
fuel_free (suc f) zero g b l l' = scan_stopped (suc f) g b (omega arith)
fuel_free (suc f) (suc f') g b l l' =
    let less = length-drop (size_of (first_record b).kind) b in
    ap (λ (v : Result Scan Refusal). cond (eqb (length b) 0) (Ok (Stopped g))
    (unless_hit (first_hit g (first_record b) (length b)) g.place
    (cond (is end_kind (first_record b)) (Ok (Finished (take_record g (first_record b)))) v)))
    (fuel_free f f' (take_record g (first_record b)) (rest b) (omega (arith, less, size_positive (first_record b).kind))
    (omega (arith, less, size_positive (first_record b).kind)))

no_bytes : (b : List ℕ) → length b ≡ 0 → b ≡ []
no_bytes [] z = refl
no_bytes (x ∷ b) z = absurd (omega arith)

-- the scan of more bytes goes on from there
pub clean_extends : (f : ℕ) (g : Progress) (b : List ℕ) (h : Progress) → length b ≤ f → scan_from f g b ≡ Ok (Stopped h)
    → (t : List ℕ) (f' : ℕ) → length b + length t ≤ f' → scan_from f' g (b ++ t) ≡ scan_from (length t) h t
unfolding scan_from
clean_extends zero g b h l e t f' l' =
    let q : g ≡ h = cc in
    let z : b ≡ [] = no_bytes b (omega arith) in
    rw (z, ← q) (fuel_free f' (length t) g t (omega arith) (omega arith))
clean_extends (suc f) g b h l e t f' l' = at (clean_turn f g b h e) f' l' (clean_extends f)
  where
    at : CleanTurn f g b h → (f' : ℕ) → length b + length t ≤ f'
        → ((g' : Progress) (b' : List ℕ) (h' : Progress) → length b' ≤ f → scan_from f g' b' ≡ Ok (Stopped h')
        → (t' : List ℕ) (f'' : ℕ) → length b' + length t' ≤ f'' → scan_from f'' g' (b' ++ t') ≡ scan_from (length t') h' t')
        → scan_from f' g (b ++ t) ≡ scan_from (length t) h t
    at (at_end z q) f' l' ih =
        let n : b ≡ [] = no_bytes b z in
        rw (n, ← q) (fuel_free f' (length t) g t (omega arith) (omega arith))
    at (goes_on s passed k e') zero l' ih = absurd (omega arith)
    at (goes_on s passed k e') (suc f'') l' ih =
        let size = size_of (first_record b).kind in
        let r = rest_length g b passed in
        let same : first_record (b ++ t) ≡ first_record b = same_first b t s r.0 in
        let long : length (b ++ t) ≡ length b + length t = length-append b t in
        let tested : first_hit g (first_record (b ++ t)) (length (b ++ t)) ≡ Ok tt =
        rw same (pass_with g (first_record b) (length (b ++ t)) (length b) passed
        (le-ltb (length (b ++ t)) size (omega (arith, r.0))) (rw (ne_eqb (first_record b).kind end_kind k))) in
        scan_next f'' g (b ++ t) (omega arith) tested (rw same k)
        ∙ rw (same, drop-append-le size b t r.0)
        (ih (take_record g (first_record b)) (rest b) h (omega (arith, r.1, size_positive (first_record b).kind)) e' t f''
        (omega (arith, r.1, size_positive (first_record b).kind)))

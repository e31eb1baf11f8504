-- The walk over the records of a file, step by step, and an answer's first line. Assumes nothing.
use Rattle.std.proofs.Common.{◌≡◌, refl, sym, ap, List, [], ◌∷◌, ◌++◌, append-nil, ℕ, Ok, Err, Some, None}
use Rattle.std.proofs.Common.{zero, suc, ◌+◌, ◌-◌, ◌*◌, ◌≤◌, ◌<◌, arith, length, take, drop, length-drop, add-one}
use Rattle.std.proofs.Common.{ne_eqb, lt-ltb, le-ltb}
use Rattle.std.specs.List.{slice_get}
use Rattle.std.specs.Prelude.{Result}
use Rattle.network.specs.Verdict.{Verdict, pass, inconclusive, refused}
use Rattle.records.specs.Kinds.{end_kind, size_of}
use Rattle.records.proofs.Sizes.{size_positive}
use Rattle.places.specs.Finding.{node_place}
use Rattle.verdict.specs.declared.Verdict as Judged
use Rattle.verdict.specs.declared.Verdict.TheVariants.{Pass, Inconclusive}
use Rattle.report.specs.Text.{first_line}
use Rattle.report.specs.Said.{verdict_by}
use Rattle.analysis.specs.Promise.{section}
use Rattle.console.specs.Output.{text_of}
use Rattle.console.specs.Walking.{walked, most_records}
use Rattle.console.specs.Promise.{answer_text}

-- a record takes a byte at least
pub shorter : (b after : List ℕ) (kind size : ℕ) → Some kind ≡ slice_get b 0 → after ≡ drop size b → size ≡ size_of kind
    → length after < length b
shorter [] after kind size e q s = cc
shorter (x ∷ b) after kind size e q s = omega (arith, ap length q, length-drop size (x ∷ b), size_positive kind)

-- the walk at a node's record
walk_on : (area b : List ℕ) (k kind : ℕ) → Some kind ≡ slice_get b 0 → (kind ≡ end_kind → ⊥) → k + length b ≤ 4096
    → walked (most_records - k) area b k
    ≡ text_of k kind (section area k) ++ walked (most_records - (k + 1)) area (drop (size_of kind) b) (k + 1)
unfolding walked
walk_on area [] k kind e other h = cc
walk_on area (x ∷ b) k kind e other h =
    let here : x ≡ kind = cc in
    let fuel : most_records - k ≡ suc (most_records - (k + 1)) = omega arith in
    rw (fuel, ne_eqb (length (x ∷ b)) 0 (λ z. omega (arith, z)), here, ne_eqb kind end_kind other, add-one k)

-- the text of node k, whose section stands first in what the area has from it on, and what the walk gives behind it
pub node_on : (area b after sections part text : List ℕ) (k kind size : ℕ) → Some kind ≡ slice_get b 0
    → (kind ≡ end_kind → ⊥) → k + length b ≤ 4096 → sections ≡ drop (256 * k) area → part ≡ take 256 sections
    → text ≡ text_of k kind part → after ≡ drop size b → size ≡ size_of kind
    → walked (most_records - k) area b k ≡ text ++ walked (most_records - (k + 1)) area after (k + 1)
node_on area b after sections part text k kind size e other h there first q behind s =
    rw (q, first, there, behind, s) (walk_on area b k kind e other h)

-- the walk at an end record
pub walk_end : (fuel : ℕ) (area b : List ℕ) (k kind : ℕ) → Some kind ≡ slice_get b 0 → kind ≡ end_kind
    → length (walked fuel area b k) ≡ 0
unfolding walked
walk_end zero area b k kind e q = refl
walk_end (suc fuel) area [] k kind e q = refl
walk_end (suc fuel) area (x ∷ b) k kind e q =
    let here : x ≡ end_kind = cc in
    rw (ne_eqb (length (x ∷ b)) 0 (λ z. omega (arith, z)), here)

-- the walk behind the last record
pub walk_out : (fuel : ℕ) (area b : List ℕ) (k : ℕ) → None ≡ slice_get b 0 → length (walked fuel area b k) ≡ 0
unfolding walked
walk_out zero area b k e = refl
walk_out (suc fuel) area [] k e = refl
walk_out (suc fuel) area (x ∷ b) k e = cc

-- ---- the first line, and what is behind it

-- an answer's text begins with its first line
pub answer_begins : (s : List ℕ) (v : Verdict) (area : List ℕ)
    → (rest : List ℕ) × (first_line v ++ rest ≡ answer_text s v area)
unfolding answer_text
answer_begins s (pass b) area = (_, refl)
answer_begins s (inconclusive k) area = ([], append-nil (first_line (inconclusive k)))
answer_begins s (refused number place) area = ([], append-nil (first_line (refused number place)))

pub answer_long : (s : List ℕ) (v : Verdict) (area : List ℕ) → 4096 < length s → first_line v ≡ answer_text s v area
unfolding answer_text
answer_long s (pass b) area h = rw (lt-ltb 4096 (length s) h) (sym (append-nil (first_line (pass b))))
answer_long s (inconclusive k) area h = refl
answer_long s (refused number place) area h = refl

-- an answer with refusals of any type
module _ {R : Type 0} (number place : R → ℕ) (s area : List ℕ) (a : Result Judged.Verdict R) where
  abbrev v : Verdict
  v = verdict_by number place a

  pub answer_pass : (b : ℕ) → a ≡ Ok (Pass b) → length s ≤ 4096
      → first_line v ++ walked most_records area (drop (node_place s 0) s) 0 ≡ answer_text s v area
  unfolding answer_text verdict_by
  answer_pass b q h = rw (q, le-ltb 4096 (length s) h) refl

  pub answer_inconclusive : (k : ℕ) → a ≡ Ok (Inconclusive k) → first_line v ≡ answer_text s v area
  unfolding answer_text verdict_by
  answer_inconclusive k q = rw q refl

  pub answer_refused : (f : R) → a ≡ Err f → first_line v ≡ answer_text s v area
  unfolding answer_text verdict_by
  answer_refused f q = rw q refl

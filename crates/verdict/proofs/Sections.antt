-- Sections one behind another: their length, the list that stands in each, and one section more.
-- Assumes nothing.
use Rattle.std.proofs.Common.{◌≡◌, refl, sym, ap, ◌∙◌, List, [], ◌∷◌, ◌++◌, append_assoc, append-nil, ℕ, zero}
use Rattle.std.proofs.Common.{suc, ◌+◌, ◌-◌, ◌*◌, ◌≤◌, ◌<◌, not-suc-le-zero, le_of_suc-le-suc, arith, length}
use Rattle.std.proofs.Common.{take, drop, get_or, length-append, take_at}
use mathlib.Core.List.{flat_map}
use lib.Seq.{drop-append-add}
use Rattle.network.specs.Network.{Network}
use Rattle.network.specs.Model.{nowhere}
use Rattle.network.specs.Lists.{list_of}
use Rattle.network.specs.Verdict.{most_pairs}
use Rattle.filling.specs.Building.{zeros, padded}
use Rattle.filling.proofs.Fillings.{padded_length}
use Rattle.verdict.specs.Answers.{sections_of}

-- no list of the networks has more than 256 pairs
unfoldable pub AllFit : ℕ → List Network → Type 0
AllFit n [] = Unit {0}
AllFit n (t ∷ ts) = (length (list_of n t) ≤ most_pairs) × AllFit n ts

pub fit_more : (n : ℕ) (ts : List Network) (t : Network) → AllFit n ts → length (list_of n t) ≤ most_pairs
    → AllFit n (ts ++ (t ∷ []))
unfolding AllFit
fit_more n [] t a h = (h, tt)
fit_more n (u ∷ ts) t a h = (a.0, fit_more n ts t a.1 h)

pub fit_at : (n : ℕ) (ts : List Network) (i : ℕ) → AllFit n ts → i < length ts
    → length (list_of n (get_or ts i nowhere)) ≤ most_pairs
unfolding AllFit
fit_at n [] i a h = absurd (not-suc-le-zero h)
fit_at n (t ∷ ts) zero a h = a.0
fit_at n (t ∷ ts) (suc i) a h = fit_at n ts i a.1 (le_of_suc-le-suc h)

pub sections_more : (n : ℕ) (ts : List Network) (t : Network)
    → sections_of n (ts ++ (t ∷ [])) ≡ sections_of n ts ++ padded (list_of n t)
unfolding sections_of flat_map
sections_more n [] t = append-nil (padded (list_of n t))
sections_more n (u ∷ ts) t =
    ap (λ (r : List ℕ). padded (list_of n u) ++ r) (sections_more n ts t)
    ∙ sym (append_assoc (padded (list_of n u)) (sections_of n ts) (padded (list_of n t)))

pub sections_length : (n : ℕ) (ts : List Network) → AllFit n ts → length (sections_of n ts) ≡ most_pairs * length ts
unfolding sections_of flat_map AllFit
sections_length n [] a = refl
sections_length n (t ∷ ts) a =
    length-append (padded (list_of n t)) (sections_of n ts)
    ∙ omega (arith, padded_length (list_of n t) a.0, sections_length n ts a.1)

-- section i is the list of network i, then zeros
pub section_at : (n : ℕ) (ts : List Network) (i : ℕ) (rest : List ℕ) → AllFit n ts → i < length ts
    → take most_pairs (drop (most_pairs * i) (sections_of n ts ++ rest)) ≡ padded (list_of n (get_or ts i nowhere))
unfolding sections_of flat_map AllFit
section_at n [] i rest a h = absurd (not-suc-le-zero h)
section_at n (t ∷ ts) zero rest a h =
    rw (append_assoc (padded (list_of n t)) (sections_of n ts) rest)
    (take_at (padded (list_of n t)) (sections_of n ts ++ rest) most_pairs (padded_length (list_of n t) a.0))
section_at n (t ∷ ts) (suc i) rest a h =
    let e : most_pairs * suc i ≡ length (padded (list_of n t)) + most_pairs * i =
    omega (arith, padded_length (list_of n t) a.0) in
    rw (
      e,
      append_assoc (padded (list_of n t)) (sections_of n ts) rest,
      drop-append-add (padded (list_of n t)) (sections_of n ts ++ rest) (most_pairs * i),
    ) (section_at n ts i rest a.1 (le_of_suc-le-suc h))

-- its first entries are the list
pub list_there : (n : ℕ) (ts : List Network) (i : ℕ) → AllFit n ts → i < length ts
    → take (length (list_of n (get_or ts i nowhere))) (drop (most_pairs * i) (sections_of n ts))
    ≡ list_of n (get_or ts i nowhere)
unfolding sections_of flat_map AllFit padded
list_there n [] i a h = absurd (not-suc-le-zero h)
list_there n (t ∷ ts) zero a h =
    rw (append_assoc (list_of n t) (zeros (most_pairs - length (list_of n t))) (sections_of n ts))
    (take_at (list_of n t) (zeros (most_pairs - length (list_of n t)) ++ sections_of n ts) (length (list_of n t)) refl)
list_there n (t ∷ ts) (suc i) a h =
    let e : most_pairs * suc i ≡ length (padded (list_of n t)) + most_pairs * i =
    omega (arith, padded_length (list_of n t) a.0) in
    rw (e, drop-append-add (padded (list_of n t)) (sections_of n ts) (most_pairs * i))
    (list_there n ts i a.1 (le_of_suc-le-suc h))

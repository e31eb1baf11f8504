-- What the analysis leaves in the area says the lists: no pair of a list is zero, so a section's entries before the
-- first zero are its list, and the record where a node begins has the node's kind. Assumes nothing.
use Rattle.std.proofs.Common.{◌≡◌, refl, sym, ap, ◌∙◌, List, [], ◌∷◌, ◌++◌, ℕ, zero, suc, ◌+◌, ◌-◌, ◌≤◌, ◌<◌}
use Rattle.std.proofs.Common.{arith, length, take, drop, get_or, take-append-drop, ne_eqb}
use mathlib.Core.List.{Memᴰ}
use lib.Seq.{take-append_seam}
use Rattle.network.specs.Model.{Node, leaf_node, join_node, hide_node, rename_node, node_network, WellFormed}
use Rattle.network.specs.Lists.{first_of, second_of, list_of}
use Rattle.network.specs.Verdict.{Verdict, pass, inconclusive, refused, most_pairs, verdict}
use Rattle.network.specs.Promise.{NodePasses}
use Rattle.network.proofs.Lists.{list_is, list_unique}
use Rattle.network.proofs.Listed.{never_empty}
use Rattle.network.proofs.Nodes.{nodes_formed, nodes_clear}
use Rattle.decoding.specs.Bytes.{AreBytes}
use Rattle.reader.specs.Scan.{readable, says, said_of, reading_of}
use Rattle.reader.specs.File.{file_model}
use Rattle.reader.specs.Encoding.{record_of_node}
use Rattle.places.specs.Finding.{node_place, record_at}
use Rattle.reader.proofs.Formed.{model_formed}
use Rattle.places.proofs.Found.{node_kind_found}
use Rattle.filling.specs.Building.{zeros}
use Rattle.verdict.specs.Answers.{needed}
use Rattle.analysis.specs.Analysis.{area_after}
use Rattle.analysis.specs.Promise.{verdict_on, section, PassExactly, SectionsAreLists, PassBoundsSilence}
use Rattle.analysis.proofs.Outcomes.{Outcome, unread, roomless, judged, outcome, read_not}
use Rattle.analysis.proofs.Promise.{passes_exactly, sections_are_lists, pass_bounds}
use Rattle.report.specs.Text.{first_line, pair_count}
use Rattle.report.specs.Printed.{verdict_at, kind_of, node_text, in_turn, printed_for, printed}
use Rattle.console.specs.Promise.{section_text, lines_from, LinesArePrinted}
use Rattle.std.specs.Prelude.{Result, Ok, Err}
use Rattle.tests.specs.declared.Refusal.{Refusal}
use Rattle.progress.specs.declared.Progress.{Progress}

-- a list without zeros, then zeros: as many pairs as the list has
count_of_list : (xs : List ℕ) (m : ℕ) → ((x : ℕ) → Memᴰ x xs → x ≡ 0 → ⊥) → pair_count (xs ++ zeros m) ≡ length xs
unfolding pair_count zeros
count_of_list [] zero h = refl
count_of_list [] (suc m) h = refl
count_of_list (x ∷ xs) m h =
    rw (ne_eqb x 0 (h x (Memᴰ.head refl))) (ap suc (count_of_list xs m (λ y l. h y (Memᴰ.tail l))))

-- two texts that agree on the numbers in turn
in_turn_ext : (f g : ℕ → List ℕ) (k count : ℕ) → ((i : ℕ) → i < k + count → f i ≡ g i)
    → in_turn f k count ≡ in_turn g k count
unfolding in_turn
in_turn_ext f g k zero h = refl
in_turn_ext f g k (suc count) h =
    ap (λ (t : List ℕ). t ++ in_turn f (suc k) count) (h k (omega arith))
    ∙ ap (λ (t : List ℕ). g k ++ t) (in_turn_ext f g (suc k) count (λ i l. h i (omega arith)))

-- a node is printed by its record's kind
pub node_kind : (x : Node) → (record_of_node x).kind ≡ kind_of x
unfolding record_of_node kind_of
node_kind (leaf_node i) = refl
node_kind (join_node i j A) = refl
node_kind (hide_node i A) = refl
node_kind (rename_node i f) = refl

pub kind_found : (s : List ℕ) (k : ℕ) → k < length (file_model s).nodes
    → (record_at s (node_place s k)).kind ≡ kind_of (get_or (file_model s).nodes k (leaf_node 0))
kind_found s k h = node_kind_found s k h ∙ node_kind (get_or (file_model s).nodes k (leaf_node 0))

-- after a pass: a node's text from the file and the area is its text
module _ (s area : List ℕ) (y : AreBytes s) (e : says s ≡ readable) (room : needed (file_model s) ≤ length area) (b : ℕ)
    (p : verdict_on s area ≡ pass b) where
  well : WellFormed (file_model s)
  well = (model_formed s y e).well_formed

  few : (file_model s).events ≤ 16
  few = (model_formed s y e).within_limits.events_limit.1

  passes : (k : ℕ) → k < length (file_model s).nodes → NodePasses (file_model s) k
  unfolding PassExactly PassBoundsSilence
  passes = (passes_exactly s area y e room).0 (p ∙ ap pass (pass_bounds s area y b p).1)

  -- no pair of a list is zero
  not_zero : (k : ℕ) → k < length (file_model s).nodes → (x : ℕ)
      → Memᴰ x (list_of (file_model s).events (node_network (file_model s) k)) → x ≡ 0 → ⊥
  unfolding NodePasses first_of
  not_zero k h x l z =
      never_empty (file_model s).events (node_network (file_model s) k) (nodes_formed (file_model s) well k h)
      (nodes_clear (file_model s) well k h (λ j g. (passes j (omega arith)).0)) (first_of x) (second_of x)
      ((list_is (file_model s).events few (node_network (file_model s) k) (nodes_formed (file_model s) well k h)
      ).only_listed x l) (ap first_of z)

  -- a section is the list, then zeros
  section_is : (k : ℕ) → k < length (file_model s).nodes → (m : ℕ) × (section (area_after s area) k
      ≡ list_of (file_model s).events (node_network (file_model s) k) ++ zeros m)
  unfolding SectionsAreLists
  section_is k h =
      let r = sections_are_lists s area y b p k h in
      let xs = section (area_after s area) k in
      let q : take r.0 xs ≡ list_of (file_model s).events (node_network (file_model s) k) =
      list_unique (file_model s).events few (node_network (file_model s) k) (nodes_formed (file_model s) well k h)
      (take r.0 xs) r.2 in (
        most_pairs - r.0,
        sym (take-append-drop r.0 xs) ∙ ap (λ (ys : List ℕ). ys ++ drop r.0 xs) q
            ∙ ap (λ (ys : List ℕ). list_of (file_model s).events (node_network (file_model s) k) ++ ys) r.3,
      )

  node_is : (k : ℕ) → k < length (file_model s).nodes → section_text s (area_after s area) k ≡ node_text (file_model s) k
  unfolding section_text node_text
  node_is k h =
      let xs = list_of (file_model s).events (node_network (file_model s) k) in
      let there = section_is k h in
      let count : pair_count (section (area_after s area) k) ≡ length xs =
      ap pair_count there.1 ∙ count_of_list xs there.0 (not_zero k h) in
      let pairs : take (length xs) (section (area_after s area) k) ≡ xs =
      ap (take (length xs)) there.1 ∙ take-append_seam xs (zeros there.0) in
      rw (count, pairs, kind_found s k h)

  nodes_are : in_turn (section_text s (area_after s area)) 0 (length (file_model s).nodes)
      ≡ in_turn (node_text (file_model s)) 0 (length (file_model s).nodes)
  nodes_are =
      in_turn_ext (section_text s (area_after s area)) (node_text (file_model s)) 0 (length (file_model s).nodes)
      (λ i l. node_is i (omega arith))

-- the verdict with room enough is the one on the bytes
verdict_at_lem : (s area : List ℕ) → says s ≡ readable → verdict_on s area ≡ verdict (file_model s)
    → verdict_on s area ≡ verdict_at (reading_of s) s
unfolding verdict_at says said_of
verdict_at_lem s area e q = at (reading_of s) refl
  where
    at : (v : Result Progress Refusal) → reading_of s ≡ v → verdict_on s area ≡ verdict_at v s
    at (Err f) r = absurd (read_not s f e r)
    at (Ok g) r = q

pub lines_are_printed : LinesArePrinted
unfolding LinesArePrinted lines_from printed printed_for verdict_at needed
lines_are_printed s area y long = at (outcome s area)
  where
    at : Outcome s area
        → lines_from s (verdict_on s area) (area_after s area) ≡ printed_for (file_model s) (verdict_at (reading_of s) s)
    at (unread f q m v) = rw (v, q)
    at (roomless e l v) = absurd (omega (arith, (model_formed s y e).within_limits.nodes_limit.1))
    at (judged e l v z) =
        by_verdict (verdict_on s area) refl
        ∙ ap (printed_for (file_model s)) (verdict_at_lem s area e v)
      where
        by_verdict : (u : Verdict) → verdict_on s area ≡ u
            → lines_from s u (area_after s area) ≡ printed_for (file_model s) u
        by_verdict (pass b) p = ap (λ (t : List ℕ). first_line (pass b) ++ t) (nodes_are s area y e l b p)
        by_verdict (inconclusive k) p = refl
        by_verdict (refused number place) p = refl

-- A node's list as the code builds it is the rule's: a leaf's from the bytes of its machine, the others' from their
-- operands' lists; and what storing it leaves in the area. Assumes nothing.
use Rattle.std.proofs.Common.{◌≡◌, refl, sym, ap, ◌∙◌, true, false, List, map, ℕ, ◌-◌, ◌*◌, ◌≤◌, ◌<◌, arith, eqb, length}
use Rattle.std.proofs.Common.{take, drop, min, get_or, length-drop, take_all, eq-eqb}
use Rattle.std.proofs.lemmas.List.{take_min, drop_min}
use Rattle.std.specs.Prelude.{Some, None, [], fold}
use mathlib.Core.List.{flat_map}
use Rattle.events.specs.Sets.{room}
use Rattle.network.specs.Network.{leaf}
use Rattle.network.specs.Model.{Model, idle}
use Rattle.network.specs.Limits.{events_of}
use Rattle.network.specs.Lists.{join_candidates, hide_candidate, rename_candidate, leaf_candidate, list_of}
use Rattle.network.specs.Verdict.{most_pairs}
use Rattle.records.specs.declared.Record.{Record}
use Rattle.records.specs.Kinds.{leaf_kind, join_kind, hide_kind, is}
use Rattle.reader.specs.declared.model.Readable.{Readable}
use Rattle.reader.specs.File.{file_model}
use Rattle.reader.proofs.ReadFiles.{readable_formed}
use Rattle.entries.specs.Entries.{width}
use Rattle.filling.specs.Building.{Filling, fits, pairs_of, went_over, offer, filled, padded, Gives, stored}
use Rattle.filling.proofs.Loops.{fold_filled}
use Rattle.lists.specs.Promise.{JoinGivesRule, HideGivesRule, RenameGivesRule}
use Rattle.lists.proofs.Promise.{join_gives_rule, hide_gives_rule, rename_gives_rule}
use Rattle.leaf.specs.Subsets.{subsets_of}
use Rattle.nodes.specs.Nodes.{list_at, list_for, NodeReady, built_count, built_in}
use Rattle.leaf.proofs.Leaves as Leaves
use Rattle.nodes.proofs.Machines.{named, formed_named}

-- the list of node i as the code cuts it out: both ends within what there is
pub cut_out : (counts area : List ℕ) (i start count : ℕ) → start ≡ min (most_pairs * i) (length area)
    → count ≡ min (get_or counts i 0) (length (take (length area - start) (drop start area)))
    → take count (take (length area - start) (drop start area)) ≡ list_at counts area i
unfolding list_at
cut_out counts area i start count p q =
    let s : take (length area - start) (drop start area) ≡ drop (most_pairs * i) area =
    take_all (length area - start) (drop start area) (omega (arith, length-drop start area))
    ∙ ap (λ (k : ℕ). drop k area) p ∙ drop_min (most_pairs * i) area in
    ap (λ (k : ℕ). take k (take (length area - start) (drop start area))) q
    ∙ take_min (get_or counts i 0) (take (length area - start) (drop start area)) ∙ ap (take (get_or counts i 0)) s

-- what is offered to a list that has no pair
pub offered : {s out : Filling} (cs : List ℕ) → s ≡ fits [] → out ≡ fold offer s cs → out ≡ filled cs
offered cs none e = e ∙ ap (λ (s : Filling). fold offer s cs) none ∙ fold_filled cs

module _ (f : Readable) where
  abbrev M : Model
  M = file_model f.bytes.now

  few : M.events ≤ width
  few = (readable_formed f).within_limits.events_limit.1

  -- by the number of its events
  module _ (n : ℕ) (e : n ≡ M.events) where
    pub few_events : n ≤ 16
    few_events = omega (arith, few, e)

    -- the list of a leaf of machine m
    pub pairs_give : (m : ℕ) (h : m < length M.machines) (out : Filling)
        → out ≡ filled (flat_map (leaf_candidate n (named f m h)) (subsets_of (events_of room (named f m h))))
        → Gives (list_of n (leaf (named f m h))) out
    pairs_give m h out d = rw d (Leaves.leaf_gives n few_events (named f m h) (rw e (formed_named f m h)))

  -- the list by the record's kind
  module _ (r : Record) (xs ys : List ℕ) (w : NodeReady M r xs ys) (out : Filling) where
    pub leaf_gives : (n : ℕ) → n ≡ M.events → leaf_kind ≡ r.kind
        → Gives (list_of n (leaf (get_or M.machines r.number idle))) out → Gives (list_for M r xs ys) out
    unfolding list_for
    leaf_gives n e q g = rw (eq-eqb r.kind leaf_kind (sym q)) (rw e at g)

    pub join_gives : join_kind ≡ r.kind → out ≡ filled (join_candidates width r.set xs ys)
        → Gives (list_for M r xs ys) out
    unfolding list_for JoinGivesRule
    join_gives q d =
        rw (d, ap (λ (x : ℕ). eqb x leaf_kind) (sym q), ap (λ (x : ℕ). eqb x join_kind) (sym q))
        (join_gives_rule M.events few r.set xs ys w.left_inside w.right_inside)

    pub hide_gives : hide_kind ≡ r.kind → out ≡ filled (map (hide_candidate width r.set) xs)
        → Gives (list_for M r xs ys) out
    unfolding list_for HideGivesRule
    hide_gives q d =
        rw (
          d,
          ap (λ (x : ℕ). eqb x leaf_kind) (sym q),
          ap (λ (x : ℕ). eqb x join_kind) (sym q),
          ap (λ (x : ℕ). eqb x hide_kind) (sym q),
        ) (hide_gives_rule M.events few r.set (w.set_in (eq-eqb r.kind hide_kind (sym q))) xs w.left_inside)

    pub rename_gives : is leaf_kind r ≡ false → is join_kind r ≡ false → is hide_kind r ≡ false
        → out ≡ filled (map (rename_candidate width r.targets) xs) → Gives (list_for M r xs ys) out
    unfolding list_for RenameGivesRule
    rename_gives a b c d =
        let t = w.targets_in (w.other_kind a b c) in
        rw (d, a, b, c) (rename_gives_rule M.events few r.targets t.0 t.1 xs w.left_inside)

-- what is built at the front of the area: nothing where the list is over, otherwise its section
module _ (xs : List ℕ) (f : Filling) (g : Gives xs f) (area : List ℕ) where
  pub built_over : went_over f ≡ true → (None ≡ built_count xs) × (area ≡ built_in xs area)
  unfolding built_count built_in
  built_over q = rw (sym g.over_exactly ∙ q) (refl, refl)

  pub built_fits : went_over f ≡ false
      → (Some (length (pairs_of f)) ≡ built_count xs) × (stored (padded (pairs_of f)) area ≡ built_in xs area)
  unfolding built_count built_in
  built_fits q = rw (sym g.over_exactly ∙ q, g.pairs_are q) (refl, refl)

-- What a node's record says of its network: by its kind, which operands it has, when 12 and the flag are given, and its
-- list. Assumes nothing.
use Rattle.std.proofs.Common.{◌≡◌, refl, sym, ap, ◌∙◌, Bool, true, false, ◌&&◌, ◌||◌, cond, List, [], ◌∷◌}
use Rattle.std.proofs.Common.{ℕ, zero, suc, ◌^◌, ◌≤◌, ◌<◌, not-suc-le-zero, le_of_suc-le-suc, arith, eqb, length}
use Rattle.std.proofs.Common.{get_or, eqb-true}
use mathlib.Core.List.Memᴰ
use Rattle.events.specs.Sets.{room, included}
use Rattle.events.proofs.Widths.{included_widen}
use Rattle.network.specs.Network.{Network, leaf, join, hide, rename, TargetsBelow}
use Rattle.network.specs.Model.{Node, leaf_node, join_node, hide_node, rename_node, Model, idle, network_of, networks}
use Rattle.network.specs.Model.{node_network, NodeFormed}
use Rattle.network.specs.Loops.{any_of, spins}
use Rattle.network.specs.Lists.{first_of, list_of, flag_of}
use Rattle.network.specs.Verdict.{has_empty_first, operand_empty}
use Rattle.network.proofs.Nodes.{getD-member, node_network_lem}
use Rattle.records.specs.declared.Record.{Record}
use Rattle.records.specs.Kinds.{leaf_kind, join_kind, hide_kind, rename_kind, is, is_node}
use Rattle.records.proofs.Choices.{or_false, true_not_false}
use Rattle.reader.specs.declared.model.ReadFile.{ReadFile}
use Rattle.reader.specs.File.{node_of, file_model}
use Rattle.reader.specs.Encoding.{TargetsFilled}
use Rattle.places.specs.Finding.{node_place, record_at}
use Rattle.places.proofs.Found.{node_found}
use Rattle.reader.proofs.ReadFiles.{file_formed}
use Rattle.entries.specs.Entries.{AllInside, KeepsOthers}
use Rattle.entries.proofs.Inside.{list_inside}
use Rattle.nodes.specs.Nodes.{Placed, list_for, NodeReady}
use Rattle.verdict.proofs.Pairs.{any_same}

-- the four tests on a node record's kind
pub record Tests (r : Record) (a b c d : Bool) : Type 0 where
  pub leaf_test : is leaf_kind r ≡ a
  pub join_test : is join_kind r ≡ b
  pub hide_test : is hide_kind r ≡ c
  pub rename_test : is rename_kind r ≡ d

tests_for : (r : Record) (k : ℕ) → r.kind ≡ k → Tests r (eqb k 4) (eqb k 5) (eqb k 6) (eqb k 7)
tests_for r k q =
    record {
      leaf_test = ap (λ (x : ℕ). eqb x leaf_kind) q;
      join_test = ap (λ (x : ℕ). eqb x join_kind) q;
      hide_test = ap (λ (x : ℕ). eqb x hide_kind) q;
      rename_test = ap (λ (x : ℕ). eqb x rename_kind) q;
    }

-- node k of model M, by its record r
pub data NodeIs (M : Model) (k : ℕ) (r : Record) : Type 0 where
  leaf_is : Tests r true false false false → r.number < length M.machines
      → node_network M k ≡ leaf (get_or M.machines r.number idle) → NodeIs M k r
  join_is : Tests r false true false false → r.left < k → r.right < k
      → node_network M k ≡ join (node_network M r.left) (node_network M r.right) r.set → NodeIs M k r
  hide_is : Tests r false false true false → r.left < k → r.set < 2 ^ M.events
      → node_network M k ≡ hide (node_network M r.left) r.set → NodeIs M k r
  rename_is : Tests r false false false true → r.left < k
      → TargetsBelow M.events r.targets × KeepsOthers M.events r.targets
      → node_network M k ≡ rename (node_network M r.left) r.targets → NodeIs M k r

get_d_any : (l : List ℕ) (i d d' : ℕ) → i < length l → get_or l i d ≡ get_or l i d'
get_d_any [] i d d' h = absurd (not-suc-le-zero h)
get_d_any (x ∷ l) zero d d' h = refl
get_d_any (x ∷ l) (suc i) d d' h = get_d_any l i d d' (le_of_suc-le-suc h)

keeps_others : (n : ℕ) (f : List ℕ) → TargetsFilled n f → KeepsOthers n f
unfolding KeepsOthers TargetsFilled
keeps_others n f w e h l = get_d_any f e e 0 (omega (arith, w.0)) ∙ w.1 e h l

module _ (f : ReadFile) (k : ℕ) (h : k < length (file_model f.bytes.now).nodes) where
  abbrev M : Model
  M = file_model f.bytes.now

  -- the node's record, and the node
  abbrev rec : Record
  rec = record_at f.bytes.now (node_place f.bytes.now k)

  abbrev node : Node
  node = get_or M.nodes k (leaf_node 0)

  pub node_is : NodeIs M k rec
  unfolding node_of NodeFormed network_of node_network
  node_is =
      go (is leaf_kind rec) refl (is join_kind rec) refl (is hide_kind rec) refl (node_found f.bytes.now k h).1 node
      (node_found f.bytes.now k h).0 ((file_formed f).well_formed.node_formed k h)
      (node_network_lem M (file_formed f).well_formed k h)
      (λ i t q. (file_formed f).targets_filled i t (rw (← q) (getD-member M.nodes k (leaf_node 0) h)))
    where
      go : (a : Bool) → is leaf_kind rec ≡ a → (b : Bool) → is join_kind rec ≡ b → (c : Bool) → is hide_kind rec ≡ c
          → is_node rec ≡ true → (x : Node)
          → cond a (leaf_node rec.number) (cond b (join_node rec.left rec.right rec.set)
          (cond c (hide_node rec.left rec.set) (rename_node rec.left rec.targets))) ≡ x
          → NodeFormed M.events (length M.machines) k x
          → node_network M k ≡ network_of M.machines (networks M) x
          → ((i : ℕ) (f : List ℕ) → x ≡ rename_node i f → TargetsFilled M.events f)
          → NodeIs M k rec
      go true p b q c r o x z w n f =
          leaf_is (tests_for rec 4 (eqb-true rec.kind 4 p)) (rw (← z) at w) (rw (← z) at n)
      go false p true q c r o x z w n f =
          let v : (rec.left < k) × (rec.right < k) × (rec.set < 2 ^ M.events) = rw (← z) at w in
          join_is (tests_for rec 5 (eqb-true rec.kind 5 q)) v.0 v.1 (rw (← z) at n)
      go false p false q true r o x z w n f =
          let v : (rec.left < k) × (rec.set < 2 ^ M.events) = rw (← z) at w in
          hide_is (tests_for rec 6 (eqb-true rec.kind 6 r)) v.0 v.1 (rw (← z) at n)
      go false p false q false r o x z w n f =
          let v : (rec.left < k) × TargetsBelow M.events rec.targets = rw (← z) at w in
          let last : is rename_kind rec ≡ true = rw (p, q, r) at o in
          rename_is (tests_for rec 7 (eqb-true rec.kind 7 last)) v.0
          (v.1, keeps_others M.events rec.targets (f rec.left rec.targets (sym z)))
          (rw (← z) at n)

-- the operands' lists of model M's node of record r; a leaf has none, and only a join has a right one
unfoldable pub left_list : Model → Record → List ℕ
left_list M r = cond (is leaf_kind r) [] (list_of M.events (node_network M r.left))

unfoldable pub right_list : Model → Record → List ℕ
right_list M r = cond (is join_kind r) (list_of M.events (node_network M r.right)) []

-- the node is a leaf whose machine spins
abbrev pub spins_at : Model → Record → Bool
spins_at M r = is leaf_kind r && spins (get_or M.machines r.number idle)

-- the node is a hide that swallows the F of some pair of the list
abbrev pub swallows : Record → List ℕ → Bool
swallows r xs = is hide_kind r && any_of (λ x. included room (first_of x) r.set) xs

module _ (M : Model) (few : M.events ≤ 16) (k : ℕ) (r : Record) where
  pub placed_is : NodeIs M k r → Placed r k
  placed_is (leaf_is t l n) =
      record {
        left_below = λ q. absurd (true_not_false (sym t.leaf_test ∙ q));
        right_below = λ q. absurd (true_not_false (sym q ∙ t.join_test));
      }
  placed_is (join_is t l m n) = record { left_below = λ q. l; right_below = λ q. m }
  placed_is (hide_is t l m n) =
      record { left_below = λ q. l; right_below = λ q. absurd (true_not_false (sym q ∙ t.join_test)) }
  placed_is (rename_is t l m n) =
      record { left_below = λ q. l; right_below = λ q. absurd (true_not_false (sym q ∙ t.join_test)) }

  pub empty_is : NodeIs M k r
      → operand_empty M.events (node_network M k)
      ≡ (has_empty_first (left_list M r) || has_empty_first (right_list M r))
  unfolding operand_empty has_empty_first left_list right_list any_of
  empty_is (leaf_is t l n) = rw (n, t.leaf_test, t.join_test) refl
  empty_is (join_is t l m n) = rw (n, t.leaf_test, t.join_test) refl
  empty_is (hide_is t l m n) =
      rw (n, t.leaf_test, t.join_test) (sym (or_false (has_empty_first (list_of M.events (node_network M r.left)))))
  empty_is (rename_is t l m n) =
      rw (n, t.leaf_test, t.join_test) (sym (or_false (has_empty_first (list_of M.events (node_network M r.left)))))

  swallowed_is : (A : ℕ) (t : Network)
      → any_of (λ x. included M.events (first_of x) A) (list_of M.events t)
      ≡ any_of (λ x. included room (first_of x) A) (list_of M.events t)
  unfolding AllInside
  swallowed_is A t =
      any_same (λ x. included M.events (first_of x) A) (λ x. included room (first_of x) A) (list_of M.events t)
      (λ x m. sym (included_widen M.events room (first_of x) A (omega (arith, few))
      (list_inside M.events few t x m).first_below))

  pub flag_is : NodeIs M k r → flag_of M.events (node_network M k) ≡ (spins_at M r || swallows r (left_list M r))
  unfolding flag_of left_list
  flag_is (leaf_is t l n) = rw (n, t.leaf_test, t.hide_test)
      (sym (or_false (spins (get_or M.machines r.number idle))))
  flag_is (join_is t l m n) = rw (n, t.leaf_test, t.hide_test) refl
  flag_is (hide_is t l m n) = rw (n, t.leaf_test, t.hide_test) (swallowed_is r.set (node_network M r.left))
  flag_is (rename_is t l m n) = rw (n, t.leaf_test, t.hide_test) refl

  pub list_is : NodeIs M k r → list_for M r (left_list M r) (right_list M r) ≡ list_of M.events (node_network M k)
  unfolding list_for left_list right_list list_of
  list_is (leaf_is t l n) = rw (n, t.leaf_test) refl
  list_is (join_is t l m n) = rw (n, t.leaf_test, t.join_test) refl
  list_is (hide_is t l m n) = rw (n, t.leaf_test, t.join_test, t.hide_test) refl
  list_is (rename_is t l m n) = rw (n, t.leaf_test, t.join_test, t.hide_test) refl

  none_inside : AllInside M.events []
  unfolding AllInside
  none_inside x m = absurd (Memᴰ.not-nil m)

  left_inside_is : AllInside M.events (left_list M r)
  unfolding left_list
  left_inside_is = at (is leaf_kind r)
    where
      at : (b : Bool) → AllInside M.events (cond b [] (list_of M.events (node_network M r.left)))
      at true = none_inside
      at false = list_inside M.events few (node_network M r.left)

  right_inside_is : AllInside M.events (right_list M r)
  unfolding right_list
  right_inside_is = at (is join_kind r)
    where
      at : (b : Bool) → AllInside M.events (cond b (list_of M.events (node_network M r.right)) [])
      at true = list_inside M.events few (node_network M r.right)
      at false = none_inside

  pub node_ready : NodeIs M k r → NodeReady M r (left_list M r) (right_list M r)
  node_ready i =
      record {
        other_kind = other i;
        machine_in = machine i;
        set_in = set i;
        targets_in = targets i;
        left_inside = left_inside_is;
        right_inside = right_inside_is;
      }
    where
      never : {X : Type 0} {b : Bool} → b ≡ true → b ≡ false → X
      never p q = absurd (true_not_false (sym p ∙ q))

      other : NodeIs M k r → is leaf_kind r ≡ false → is join_kind r ≡ false → is hide_kind r ≡ false
          → is rename_kind r ≡ true
      other (leaf_is t l n) a b c = never t.leaf_test a
      other (join_is t l m n) a b c = never t.join_test b
      other (hide_is t l m n) a b c = never t.hide_test c
      other (rename_is t l m n) a b c = t.rename_test

      machine : NodeIs M k r → is leaf_kind r ≡ true → r.number < length M.machines
      machine (leaf_is t l n) a = l
      machine (join_is t l m n) a = never a t.leaf_test
      machine (hide_is t l m n) a = never a t.leaf_test
      machine (rename_is t l m n) a = never a t.leaf_test

      set : NodeIs M k r → is hide_kind r ≡ true → r.set < 2 ^ M.events
      set (leaf_is t l n) a = never a t.hide_test
      set (join_is t l m n) a = never a t.hide_test
      set (hide_is t l m n) a = m
      set (rename_is t l m n) a = never a t.hide_test

      targets : NodeIs M k r → is rename_kind r ≡ true
          → TargetsBelow M.events r.targets × KeepsOthers M.events r.targets
      targets (leaf_is t l n) a = never a t.rename_test
      targets (join_is t l m n) a = never a t.rename_test
      targets (hide_is t l m n) a = never a t.rename_test
      targets (rename_is t l m n) a = m

-- The verdict on a well-formed model: pass exactly when no flag is up and no list passes its limit; 12 is never given;
-- and a pass bounds silence. Assumes nothing.
use Rattle.std.proofs.Common.{◌≡◌, refl, Bool, true, false, ◌||◌, ◌≢◌, ◌↔◌, List, ℕ, ◌-◌, ◌<◌, ◌≤◌, arith}
use Rattle.std.proofs.Common.{eqb→eq, length, ltb-true, ltb-false}
use Rattle.events.specs.Sets.{is_empty}
use Rattle.network.specs.Network.{Network, Formed}
use Rattle.network.specs.Walks.{SilenceBelow}
use Rattle.network.specs.Rules.{Flag, Clear}
use Rattle.network.specs.Model.{Node, leaf_node, join_node, hide_node, rename_node, Model, network_of, networks}
use Rattle.network.specs.Model.{node_network, root, bound, NodeFormed, WellFormed}
use Rattle.network.specs.Lists.{first_of, second_of, list_of}
use Rattle.network.specs.Verdict.{pass, refused, most_pairs, has_empty_first, operand_empty, is_over, verdict}
use Rattle.network.specs.Promise.{NodePasses}
use Rattle.network.proofs.Sorting.{any_of_out}
use Rattle.network.proofs.Lists.{list_out, list_is, list_unique, flag_iff}
use Rattle.network.proofs.Listed.{never_empty}
use Rattle.network.proofs.Nodes.{node_at, node_network_lem, nodes_formed, nodes_clear}
use Rattle.network.proofs.Stops.{Quiet, Gives, gives_12, gives_flag, gives_11, PassOver, all_quiet, stopped_at}
use Rattle.network.proofs.Stops.{pass_over, gives_no_pass}
use Rattle.network.proofs.Silence.{clear_bounds_silence}
use Rattle.network.proofs.Bound.{bound_is}

-- the last node of a well-formed model, if no flag is up at it or below it
pub root_bounds_silence : (M : Model) → WellFormed M → Clear M.events (root M) → SilenceBelow (root M) (bound M)
unfolding root
root_bounds_silence M w clear =
    rw (bound_is M w) (clear_bounds_silence M.events (root M)
    (nodes_formed M w (length M.nodes - 1) (omega (arith, w.some_node))) clear)

module _ (M : Model) (w : WellFormed M) (few : M.events ≤ 16) where
  -- the events, a node's network, its list, and that it is well formed
  abbrev n : ℕ
  n = M.events

  abbrev net : ℕ → Network
  net = node_network M

  abbrev entries : ℕ → List ℕ
  entries k = list_of n (net k)

  formed : (k : ℕ) → k < length M.nodes → Formed n (net k)
  formed = nodes_formed M w

  quiet_flag : (k : ℕ) → k < length M.nodes → Quiet n (net k) → ¬ Flag n (net k)
  quiet_flag k l h f = rw h.no_flag at ((flag_iff n few (net k) (formed k l)).1 f)

  -- a list has no pair with empty first set, where no flag is up at its node or before it
  list_not_empty : (k : ℕ) → k < length M.nodes → ((j : ℕ) → j ≤ k → ¬ Flag n (net j))
      → has_empty_first (entries k) ≡ true → ⊥
  unfolding has_empty_first
  list_not_empty k l calm q =
      let r = any_of_out (λ x. is_empty (first_of x)) (entries k) (rw q tt) in
      never_empty n (net k) (formed k l) (nodes_clear M w k l calm) (first_of r.0) (second_of r.0)
      (list_out n few (net k) (formed k l) r.0 r.1) (eqb→eq (first_of r.0) 0 r.2)

  -- so no node meets one in an operand's list, where no flag is up before it
  operands_not_empty : (k : ℕ) → k < length M.nodes → ((j : ℕ) → j < k → ¬ Flag n (net j))
      → operand_empty n (net k) ≡ true → ⊥
  unfolding operand_empty network_of NodeFormed node_network
  operands_not_empty k l calm q = at (node_at M w k) (w.node_formed k l) (rw (node_network_lem M w k l) at q)
    where
      earlier : (i : ℕ) → i < k → has_empty_first (entries i) ≡ true → ⊥
      earlier i h = list_not_empty i (omega arith) (λ j g. calm j (omega arith))

      either : (a b : Bool) → (a ≡ true → ⊥) → (b ≡ true → ⊥) → (a || b) ≡ true → ⊥
      either true b f g e = f refl
      either false b f g e = g e

      at : (x : Node) → NodeFormed n (length M.machines) k x
          → operand_empty n (network_of M.machines (networks M) x) ≡ true → ⊥
      at (leaf_node i) o e = let z : ◌≡◌ {A = ℕ} 0 1 = cc in omega arith
      at (join_node i j A) o e =
          either (has_empty_first (entries i)) (has_empty_first (entries j)) (earlier i o.0) (earlier j o.1) e
      at (hide_node i A) o e = earlier i o.0 e
      at (rename_node i f) o e = earlier i o.0 e

  quiet_passes : (k : ℕ) → k < length M.nodes → Quiet n (net k) → NodePasses M k
  unfolding NodePasses is_over
  quiet_passes k l h = (
    quiet_flag k l h,
    λ xs x. rw (list_unique n few (net k) (formed k l) xs x) (ltb-false most_pairs (length (entries k)) h.not_over),
  )

  passes_gives_nothing : ((k : ℕ) → k < length M.nodes → NodePasses M k) → (j : ℕ) → j < length M.nodes
      → Gives n j (net j) (verdict M) → ⊥
  unfolding NodePasses is_over
  passes_gives_nothing all j l (gives_12 e q) = operands_not_empty j l (λ i h. (all i (omega arith)).0) e
  passes_gives_nothing all j l (gives_flag e f q) = (all j l).0 ((flag_iff n few (net j) (formed j l)).0 (rw f tt))
  passes_gives_nothing all j l (gives_11 e f o q) =
      let long : most_pairs < length (entries j) = ltb-true most_pairs (length (entries j)) o in
      omega (arith, (all j l).1 (entries j) (list_is n few (net j) (formed j l)))

  pub pass_exactly : (verdict M ≡ pass (bound M)) ↔ ((k : ℕ) → k < length M.nodes → NodePasses M k)
  pass_exactly = (λ p. out p (pass_over M w), λ all. back all (pass_over M w))
    where
      out : verdict M ≡ pass (bound M) → PassOver M → (k : ℕ) → k < length M.nodes → NodePasses M k
      out p (all_quiet q quiet) k l = quiet_passes k l (quiet k l)
      out p (stopped_at j h before g) k l = absurd (gives_no_pass n j (bound M) (net j) (verdict M) g p)

      back : ((k : ℕ) → k < length M.nodes → NodePasses M k) → PassOver M → verdict M ≡ pass (bound M)
      back all (all_quiet q quiet) = q
      back all (stopped_at j h before g) = absurd (passes_gives_nothing all j h g)

  -- 12 is never given: a node before the stop raised no flag
  pub twelve_never : (k : ℕ) → verdict M ≢ refused 12 k
  twelve_never k p = at (pass_over M w)
    where
      at : PassOver M → ⊥
      at (all_quiet q quiet) = let z : ◌≡◌ {A = ℕ} 0 1 = cc in omega arith
      at (stopped_at j l before (gives_12 e q)) =
          operands_not_empty j l (λ i h. quiet_flag i (omega arith) (before i h)) e
      at (stopped_at j l before (gives_flag e f q)) = let z : ◌≡◌ {A = ℕ} 0 1 = cc in omega arith
      at (stopped_at j l before (gives_11 e f o q)) = let z : ◌≡◌ {A = ℕ} 12 11 = cc in omega arith

  pub pass_bounds_silence : (b : ℕ) → verdict M ≡ pass b → SilenceBelow (root M) b
  unfolding root
  pass_bounds_silence b p = at (pass_over M w)
    where
      at : PassOver M → SilenceBelow (root M) b
      at (all_quiet q quiet) =
          let same : b ≡ bound M = cc in
          let last : length M.nodes - 1 < length M.nodes = omega (arith, w.some_node) in
          rw same (root_bounds_silence M w
          (nodes_clear M w (length M.nodes - 1) last (λ j h. quiet_flag j (omega arith) (quiet j (omega arith)))))
      at (stopped_at j l before g) = absurd (gives_no_pass n j b (net j) (verdict M) g p)

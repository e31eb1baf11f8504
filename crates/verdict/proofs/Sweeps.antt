-- The loop over the nodes of a readable file: what holds whenever it comes round, what it sees at a node, and what each
-- way out of it answers. Assumes nothing.
use Rattle.std.proofs.Common.{◌≡◌, ap, ◌∙◌, Bool, true, false, ◌||◌, cond, List, [], ◌++◌, ℕ, suc, ◌+◌, ◌*◌}
use Rattle.std.proofs.Common.{◌≤◌, ◌<◌, arith, length, take, drop, set, replicate, refl}
use Rattle.network.specs.Model.{Model, networks, node_network, bound}
use Rattle.network.specs.Lists.{list_of, flag_of}
use Rattle.network.specs.Verdict.{pass, most_pairs, has_empty_first, operand_empty}
use Rattle.network.proofs.Nodes.{networks_length}
use Rattle.records.specs.declared.Record.{Record}
use Rattle.records.specs.Kinds.{leaf_kind, join_kind, size_of, is}
use Rattle.records.proofs.Sizes.{size_most}
use Rattle.reader.specs.declared.model.ReadFile.{ReadFile}
use Rattle.reader.specs.File.{file_model}
use Rattle.reader.proofs.ReadFiles.{file_bytes, file_short, file_formed}
use Rattle.places.specs.Finding.{node_place, record_at}
use Rattle.places.proofs.Found.{node_inside}
use Rattle.places.proofs.Next.{next_node}
use Rattle.nodes.specs.Nodes.{Placed, list_at, left_of, right_of, list_for, NodeReady, built_count, built_in}
use Rattle.verdict.specs.declared.Verdict.TheVariants.{Pass, Inconclusive}
use Rattle.verdict.specs.Answers.{verdict_of}
use Rattle.verdict.proofs.Seen.{NodeIs, node_is, left_list, right_list, spins_at, swallows, placed_is, empty_is, flag_is}
use Rattle.verdict.proofs.Seen.{list_is, node_ready}
use Rattle.verdict.proofs.Passing.{Passing, Ends, pass_start, pass_ends, stop_empty, stop_flag, stop_over, go_on}
use Rattle.verdict.proofs.Passing.{list_before}
use Rattle.tests.specs.Reasons.{refusal}
use Rattle.std.specs.Prelude.{Ok, Err, Some, None}
use Rattle.tests.specs.declared.Reason.TheVariants.{EmptyFirst, TooManyPairs}

-- the loop over the nodes of the file has come to node k; if there is one, it begins at the place
pub record Sweeping (f : ReadFile) (area₀ : List ℕ) (k place : ℕ) (area counts : List ℕ) : Type 0 where
  pub placed : k < f.nodes → place ≡ node_place f.bytes.now k
  pub passing : Passing (file_model f.bytes.now) area₀ k area counts

-- what is seen at node k, whose record is r, with its operands' lists xs and ys
pub record AtNode (M : Model) (k : ℕ) (r : Record) (xs ys : List ℕ) : Type 0 where
  pub empties : operand_empty M.events (node_network M k) ≡ (has_empty_first xs || has_empty_first ys)
  pub flags : flag_of M.events (node_network M k) ≡ (spins_at M r || swallows r xs)
  pub ready : NodeReady M r xs ys
  pub list_is_built : list_for M r xs ys ≡ list_of M.events (node_network M k)

pub sweep_starts : (f : ReadFile) (area : List ℕ) (place : ℕ) → place ≡ node_place f.bytes.now 0
    → Sweeping f area 0 place area (replicate 32 0)
sweep_starts f area place e = record { placed = λ h. e; passing = pass_start (file_model f.bytes.now) area }

module _ (f : ReadFile) (area₀ : List ℕ) (room : most_pairs * f.nodes ≤ length area₀) (k place : ℕ)
    (area counts : List ℕ) (w : Sweeping f area₀ k place area counts) where
  abbrev M : Model
  M = file_model f.bytes.now

  few_events : M.events ≤ 16
  few_events = (file_formed f).within_limits.events_limit.1

  few_nodes : length M.nodes ≤ 32
  few_nodes = (file_formed f).within_limits.nodes_limit.1

  room_there : most_pairs * length M.nodes ≤ length area₀
  room_there = omega (arith, room, f.nodes_are)

  long : length (networks M) ≡ length M.nodes
  long = networks_length M

  -- all nodes are through
  pub sweep_passes : f.nodes ≤ k → (b : ℕ) → b ≡ bound M → Ends M area₀ (Ok (Pass b)) area
  unfolding verdict_of
  sweep_passes h b e =
      pass_ends M area₀ k area counts w.passing long (omega (arith, f.nodes_are)) room_there (Ok (Pass b)) (ap pass e)

  module _ (h : k < f.nodes) where
    here : k < length M.nodes
    here = omega (arith, f.nodes_are)

    pub few_here : k < 32
    few_here = omega (arith, here, few_nodes)

    -- no record's end is beyond the machine's numbers
    pub place_fits : (kind size : ℕ) → size ≡ size_of kind → place + size ≤ 4114
    place_fits kind size e =
        omega (arith, w.placed h, node_inside f.bytes.now k here, file_short f, e, size_most kind)

    module _ (r : Record) (er : r ≡ record_at f.bytes.now place) where
      record_is : r ≡ record_at f.bytes.now (node_place f.bytes.now k)
      record_is = er ∙ ap (λ (x : ℕ). record_at f.bytes.now x) (w.placed h)

      seen : NodeIs M k r
      seen = rw record_is (node_is f k here)

      -- the operands are earlier nodes
      pub sweep_placed : Placed r 32
      sweep_placed =
          let p = placed_is M few_events k r seen in
          record {
            left_below = λ z. omega (arith, p.left_below z, few_here);
            right_below = λ z. omega (arith, p.right_below z, few_here);
          }

      -- behind the record of node k stands the next
      pub next_placed : (size : ℕ) → size ≡ size_of r.kind → k + 1 < f.nodes → place + size ≡ node_place f.bytes.now (k + 1)
      next_placed size e l =
          let q : suc k ≡ k + 1 = omega arith in
          let size_is = e ∙ ap (λ (x : Record). size_of x.kind) record_is in
          let next = next_node f.bytes.now (file_bytes f) f.is_read k (omega (arith, f.nodes_are)) in
          omega (arith, w.placed h, size_is, next) ∙ ap (node_place f.bytes.now) q

      left_is : left_of r counts (take (most_pairs * k) area) ≡ left_list M r
      unfolding left_of left_list
      left_is = by (is leaf_kind r) refl
        where
          by : (b : Bool) → is leaf_kind r ≡ b
              → cond b [] (list_at counts (take (most_pairs * k) area) r.left)
              ≡ cond b [] (list_of M.events (node_network M r.left))
          by true q = refl
          by false q =
              list_before M area₀ k area counts w.passing r.left ((placed_is M few_events k r seen).left_below q)

      right_is : right_of r counts (take (most_pairs * k) area) ≡ right_list M r
      unfolding right_of right_list
      right_is = by (is join_kind r) refl
        where
          by : (b : Bool) → is join_kind r ≡ b
              → cond b (list_at counts (take (most_pairs * k) area) r.right) []
              ≡ cond b (list_of M.events (node_network M r.right)) []
          by true q =
              list_before M area₀ k area counts w.passing r.right ((placed_is M few_events k r seen).right_below q)
          by false q = refl

      pub sweep_at : (front xs ys : List ℕ) → front ≡ take (most_pairs * k) area → xs ≡ left_of r counts front
          → ys ≡ right_of r counts front → AtNode M k r xs ys
      sweep_at front xs ys e p q =
          let x : xs ≡ left_list M r = p ∙ ap (left_of r counts) e ∙ left_is in
          let y : ys ≡ right_list M r = q ∙ ap (right_of r counts) e ∙ right_is in
          rw (x, y) (record {
            empties = empty_is M few_events k r seen;
            flags = flag_is M few_events k r seen;
            ready = node_ready M few_events k r seen;
            list_is_built = list_is M few_events k r seen;
          })

    -- 12, and the flag
    module _ (r : Record) (xs ys : List ℕ) (a : AtNode M k r xs ys) where
      pub sweep_empty : (has_empty_first xs || has_empty_first ys) ≡ true → (area' : List ℕ) → area' ≡ area
          → Ends M area₀ (Err (refusal EmptyFirst k)) area'
      sweep_empty e area' z =
          rw z (stop_empty M area₀ k area counts w.passing long here room_there (a.empties ∙ e))

      module _ (e : (has_empty_first xs || has_empty_first ys) ≡ false) where
        pub sweep_flag : (spins_at M r || swallows r xs) ≡ true → (area' : List ℕ) → area' ≡ area
            → Ends M area₀ (Ok (Inconclusive k)) area'
        sweep_flag q area' z =
            rw z (stop_flag M area₀ k area counts w.passing long here room_there (a.empties ∙ e) (a.flags ∙ q))

        -- the list is built: 11, or on to the next node
        module _ (q : (spins_at M r || swallows r xs) ≡ false) (front rest rest' : List ℕ)
            (p : front ≡ take (most_pairs * k) area) (b : rest ≡ drop (most_pairs * k) area)
            (t : rest' ≡ built_in (list_for M r xs ys) rest) where
          pub sweep_over : front ++ rest ≡ area → None ≡ built_count (list_for M r xs ys)
              → Ends M area₀ (Err (refusal TooManyPairs k)) (front ++ rest')
          sweep_over z n =
              stop_over M area₀ k area counts w.passing long here room_there (a.empties ∙ e) (a.flags ∙ q)
              (list_for M r xs ys) a.list_is_built n front rest rest' z t

          pub sweep_on : (count : ℕ) → Some count ≡ built_count (list_for M r xs ys) → r ≡ record_at f.bytes.now place
              → (size : ℕ) → size ≡ size_of r.kind
              → Sweeping f area₀ (k + 1) (place + size) (front ++ rest') (set counts k count)
          sweep_on count c er size es =
              record {
                placed = next_placed r er size es;
                passing =
                    go_on M area₀ k area counts w.passing long here few_here room_there (a.empties ∙ e)
                    (a.flags ∙ q) (list_for M r xs ys) a.list_is_built count c front rest rest' p b t;
              }

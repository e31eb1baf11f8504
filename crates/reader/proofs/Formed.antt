-- The model of a readable file is well formed and within the limits of document 01's table.
-- Assumes nothing.
use Rattle.std.proofs.Common.{◌≡◌, refl, sym, ap, ◌∙◌, Bool, true, false, cond, List, [], ◌∷◌, ◌++◌, map, ℕ, suc}
use Rattle.std.proofs.Common.{◌+◌, ◌-◌, ◌≤◌, ◌<◌, arith, T, length, get_or}
use mathlib.Core.List.Memᴰ
use mathlib.Core.List.{flat_map, Memᴰ}
use Rattle.events.specs.Sets.{room, has, digit}
use Rattle.events.proofs.Machine.{has_empty}
use Rattle.network.specs.Machine.{Step, Machine}
use Rattle.network.specs.Model.{Node, leaf_node, join_node, hide_node, rename_node, Model, NodeFormed, operands, times}
use Rattle.network.specs.Model.{own_machine, leaf_machines, WellFormed}
use Rattle.network.specs.Limits.{WithinLimits}
use Rattle.records.specs.declared.Record.{Record}
use Rattle.records.specs.Kinds.{size_of, step_kind, machine_kind, is}
use Rattle.decoding.specs.Bytes.{AreBytes}
use Rattle.records.specs.Records.{header_record, end_record}
use Rattle.progress.specs.Progress.{start}
use Rattle.events.proofs.Booleans.{yes_true}
use Rattle.tests.proofs.Passing.{passed_out}
use Rattle.tests.proofs.MayStand.{HeaderMet, EndMet}
use Rattle.tests.proofs.Meeting.{header_out, end_out}
use Rattle.tests.proofs.Limits.{Counts}
use Rattle.reader.specs.Scan.{readable, says}
use Rattle.decoding.specs.Labels.{label_of}
use Rattle.reader.specs.File.{step_of, steps_of, machines_of, records_of, model_of, file_model}
use Rattle.reader.specs.Encoding.{records_of_machine, record_of_node, model_records, Encodable}
use Rattle.reader.proofs.Turns.{positive}
use Rattle.reader.proofs.Plain.{AllPlain}
use Rattle.reader.proofs.Listing.{code_back}
use Rattle.reader.proofs.OneEncoding.{file_listing}
use Rattle.reader.proofs.Passes.{Passes, passes_split, runs_out, counts_after}
use Rattle.reader.proofs.Passes.{counts_start}
use Rattle.reader.proofs.Stages.{behind_header, behind_machines, behind_nodes, records_read, header_read}
use Rattle.reader.proofs.Stages.{machines_read, nodes_read, events_known, machines_known, no_node_yet}
use Rattle.reader.proofs.Stages.{nodes_known}
use Rattle.reader.proofs.StepPhase.{Back, all_cons}
use Rattle.reader.proofs.MachinePhase.{MachineGood, machines_out}
use Rattle.reader.proofs.Ranges.{covers_out}
use Rattle.reader.proofs.NodeAfter.{used_nodes}
use Rattle.reader.proofs.NodePhase.{NodeFilled, NodesFit, nodes_out, nodes_free}

-- a label that was read comes back
back_steps : (rs : List Record) (x : Step) → Memᴰ x (steps_of rs) → Back x
unfolding steps_of step_of Back
back_steps [] x m = absurd (Memᴰ.not-nil m)
back_steps (r ∷ rs) x m = go (is step_kind r) m (back_steps rs)
  where
    go : (b : Bool) → Memᴰ x (cond b (step_of r ∷ steps_of rs) []) → ((y : Step) → Memᴰ y (steps_of rs) → Back y)
        → Back x
    go false m ih = absurd (Memᴰ.not-nil m)
    go true m ih = all_cons Back (step_of r) (steps_of rs) (ap label_of (code_back r.label)) ih x m

back_machines : (rs : List Record) (m : Machine) → Memᴰ m (machines_of rs) → (x : Step) → Memᴰ x m.steps
    → Back x
unfolding machines_of
back_machines [] m k = absurd (Memᴰ.not-nil k)
back_machines (r ∷ rs) m k = go (is machine_kind r) k (back_machines rs)
  where
    go : (b : Bool)
        → Memᴰ m (cond b (record { states = r.number; steps = steps_of rs } ∷ machines_of rs) (machines_of rs))
        → ((m : Machine) → Memᴰ m (machines_of rs) → (x : Step) → Memᴰ x m.steps → Back x)
        → (x : Step) → Memᴰ x m.steps → Back x
    go false k ih = ih m k
    go true k ih =
        all_cons (λ m. (x : Step) → Memᴰ x m.steps → Back x) (record { states = r.number; steps = steps_of rs })
        (machines_of rs)
        (back_steps rs) ih m k

-- the first node is a leaf: it has no earlier node to name
first_leaf : (n c : ℕ) (xs : List Node) (ms : List Machine) → 0 < length xs → NodeFormed n c 0 (get_or xs 0 (leaf_node 0))
    → (1 ≤ c) × (1 ≤ length (flat_map (own_machine ms) xs))
unfolding NodeFormed own_machine flat_map
first_leaf n c [] ms h f = absurd (omega arith)
first_leaf n c (leaf_node i ∷ xs) ms h f = (omega arith, omega arith)
first_leaf n c (join_node i j A ∷ xs) ms h f = absurd (omega (arith, f.0))
first_leaf n c (hide_node i A ∷ xs) ms h f = absurd (omega (arith, f.0))
first_leaf n c (rename_node i g ∷ xs) ms h f = absurd (omega (arith, f.0))

plain_split : (rs qs : List Record) → AllPlain (rs ++ qs) → AllPlain rs × AllPlain qs
unfolding AllPlain
plain_split [] qs p = (tt, p)
plain_split (r ∷ rs) qs p = let i = plain_split rs qs p.1 in ((p.0, i.0), i.1)

-- a model whose records pass, with an end behind them
module _ (M : Model) (x : ℕ) (w : Passes start (model_records M ++ (end_record x ∷ [])))
    (plain : AllPlain (model_records M))
    (back : (m : Machine) → Memᴰ m M.machines → (x : Step) → Memᴰ x m.steps → Back x) where
  body_passes : Passes start (model_records M)
  body_passes = (passes_split (model_records M) (end_record x ∷ []) start w).0

  header : HeaderMet start (header_record M.events)
  unfolding Passes model_records
  header =
      let r = header_record M.events in
      header_out start r (size_of r.kind) (passed_out start r (size_of r.kind) body_passes.0) refl

  parts : Passes (behind_header M) (flat_map records_of_machine M.machines)
      × Passes (behind_machines M) (map record_of_node M.nodes)
  unfolding Passes model_records behind_header behind_machines
  parts = passes_split (flat_map records_of_machine M.machines) (map record_of_node M.nodes) (behind_header M)
      body_passes.1

  end : EndMet (behind_nodes M) (end_record x)
  unfolding Passes
  end =
      let r = end_record x in
      let q : Passes (behind_nodes M) (r ∷ []) =
      rw (records_read M) at (passes_split (model_records M) (r ∷ []) start w).1 in
      end_out (behind_nodes M) r (size_of r.kind) (passed_out (behind_nodes M) r (size_of r.kind) q.0) refl

  counts : Counts (behind_nodes M)
  counts = let c = counts_after (model_records M) start body_passes counts_start in rw (records_read M) at c

  few_events : M.events ≤ 16
  few_events = header.most

  good : (m : Machine) → Memᴰ m M.machines → MachineGood M.events m
  good m k =
      let f : MachineGood (behind_header M).n m =
      machines_out M.machines (behind_header M) (omega (arith, (header_read M).n_read, few_events)) back parts.0 m
      k in
      rw (header_read M).n_read at f

  nodes_plain : AllPlain (map record_of_node M.nodes)
  unfolding AllPlain model_records
  nodes_plain = (plain_split (flat_map records_of_machine M.machines) (map record_of_node M.nodes) plain.1).1

  fit : NodesFit M.events (length M.machines) 0 M.nodes
  fit =
      let f : NodesFit (behind_machines M).n (behind_machines M).machines (behind_machines M).nodes M.nodes =
      nodes_out M.nodes (behind_machines M) (omega (arith, (events_known M), few_events)) nodes_plain parts.1 in
      rw ((events_known M), (machines_known M), (no_node_yet M)) at f

  some_nodes : 0 < length M.nodes
  some_nodes = positive (length M.nodes) (λ q. end.some_node ((nodes_known M) ∙ q))

  one_leaf : (1 ≤ length M.machines) × (1 ≤ length (flat_map (own_machine M.machines) M.nodes))
  one_leaf =
      first_leaf M.events (length M.machines) M.nodes M.machines some_nodes (fit.formed 0 some_nodes)

  used3 : (k : ℕ) → k < room → digit (has (behind_nodes M).used k) ≡ times k (flat_map operands M.nodes)
  unfolding behind_nodes
  used3 k h =
      let z : has (behind_machines M).used k ≡ false =
      ap (λ (u : ℕ). has u k) ((machines_read M).used_same ∙ (header_read M).none_used) ∙ has_empty k in
      let f = nodes_free M.nodes (behind_machines M)
      (omega (arith, (no_node_yet M), (nodes_known M), counts.nodes_most)) parts.1 in
      used_nodes M.nodes (behind_machines M) f k h ∙ rw z (omega arith)

  once : (k : ℕ) → suc k < length M.nodes → times k (flat_map operands M.nodes) ≡ 1
  once k h =
      let l : k < (behind_nodes M).nodes - 1 = omega (arith, (nodes_known M)) in
      let t : T (has (behind_nodes M).used k) =
      covers_out ((behind_nodes M).nodes - 1) (behind_nodes M).used (omega (arith, counts.nodes_most))
      end.all_used k l in
      sym (used3 k (omega (arith, counts.nodes_most))) ∙ ap digit (yes_true (has (behind_nodes M).used k) t)

  formed : WellFormed M
  formed =
      record {
        some_node = some_nodes;
        machine_formed = λ m k. (good m k).formed;
        node_formed = λ k h. let z : 0 + k ≡ k = omega arith in rw z at (fit.formed k h);
        used_once = once;
      }

  limits : WithinLimits M
  unfolding leaf_machines
  limits =
      record {
        events_limit = (header.least, header.most);
        machines_limit =
            (one_leaf.0, omega (arith, counts.machines_most, (nodes_read M).machines_same, (machines_known M)));
        states_limit = λ m k. ((good m k).formed.some_state, (good m k).most_states);
        steps_limit =
            omega (
              arith,
              counts.steps_most,
              (nodes_read M).steps_same,
              (machines_read M).steps_more,
              (header_read
                  M).no_step,
            );
        machine_events_limit = λ m k. (good m k).eight;
        nodes_limit = (some_nodes, omega (arith, counts.nodes_most, (nodes_known M)));
        leaves_limit = (
          one_leaf.1,
          omega (
            arith,
            counts.leaves_most,
            (nodes_read M).leaves_more,
            (machines_read M).leaves_same,
            (header_read
                M).no_leaf,
          ),
        );
      }

  pub passes_encodable : Encodable M
  unfolding NodeFilled
  passes_encodable =
      record {
        well_formed = formed;
        within_limits = limits;
        steps_ascend = λ m k. (good m k).ascend;
        targets_filled = λ i f k. fit.filled (rename_node i f) k;
      }

pub model_formed : (s : List ℕ) → AreBytes s → says s ≡ readable → Encodable (file_model s)
unfolding file_model model_of
model_formed s y e =
    let f = file_listing s y e in
    let l = f.listing in
    let M = model_of (records_of s) in
    let w : Passes start (records_of s) = (runs_out (records_of s) start f.at_end f.run.taken).0 in
    let w' : Passes start (model_records M ++ (end_record l.count ∷ [])) = along (Passes start) l.listed w in
    let p : AllPlain (model_records M ++ (end_record l.count ∷ [])) = along AllPlain l.listed f.plain in
    passes_encodable M l.count w' (plain_split (model_records M) (end_record l.count ∷ []) p).0
    (back_machines (records_of s))
  where
    along : (P : List Record → Type 0) {rs qs : List Record} → rs ≡ qs → P rs → P qs
    along P q p = rw (← q) p

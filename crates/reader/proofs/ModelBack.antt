-- The records of a model, with an end behind them, say that model.
-- Assumes nothing.
use Rattle.std.proofs.Common.{◌≡◌, refl, ap, ◌∙◌, List, [], ◌∷◌, ◌++◌, append_assoc, ℕ, ◌≤◌, arith, ne_eqb}
use mathlib.Core.List.{map, flat_map, Memᴰ}
use Rattle.network.specs.Machine.{Label, silent, event, Step, step, Machine, LabelBelow, StepFormed}
use Rattle.network.specs.Model.{Node, leaf_node, join_node, hide_node, rename_node, Model}
use Rattle.records.specs.declared.Record.{Record}
use Rattle.records.specs.Kinds.{silent_label}
use Rattle.records.specs.Records.{end_record}
use Rattle.decoding.specs.Labels.{label_of}
use Rattle.reader.specs.File.{step_of, steps_of, machines_of, node_of, nodes_of, event_count, model_of}
use Rattle.reader.specs.Encoding.{code_of, record_of_step, records_of_machine, record_of_node, model_records}
use Rattle.reader.proofs.StepPhase.{Back}

pub formed_back : (n c : ℕ) (x : Step) → n ≤ 16 → StepFormed n c x → Back x
unfolding StepFormed LabelBelow Back code_of label_of
formed_back n c (step s silent t) h f = refl
formed_back n c (step s (event e) t) h f = rw (ne_eqb e silent_label (λ q. omega (arith, f.2)))

-- behind nodes and an end
module _ (x : ℕ) where
  ends : List Node → List Record
  ends ns = map record_of_node ns ++ (end_record x ∷ [])

  nodes_say : (ns : List Node) → (steps_of (ends ns) ≡ []) × (machines_of (ends ns) ≡ []) × (nodes_of (ends ns) ≡ ns)
  unfolding ends record_of_node steps_of machines_of nodes_of node_of
  nodes_say [] = (refl, refl, refl)
  nodes_say (leaf_node i ∷ ns) = let w = nodes_say ns in (refl, w.1, ap (λ (y : List Node). leaf_node i ∷ y) w.2)
  nodes_say (join_node i j A ∷ ns) = let w =
      nodes_say ns in (refl, w.1, ap (λ (y : List Node). join_node i j A ∷ y) w.2)
  nodes_say (hide_node i A ∷ ns) = let w = nodes_say ns in (refl, w.1, ap (λ (y : List Node). hide_node i A ∷ y) w.2)
  nodes_say (rename_node i f ∷ ns) = let w =
      nodes_say ns in (refl, w.1, ap (λ (y : List Node). rename_node i f ∷ y) w.2)

-- steps before records that do not begin with a step
steps_say : (xs : List Step) (rs : List Record) → ((x : Step) → Memᴰ x xs → Back x) → steps_of rs ≡ []
    → (steps_of (map record_of_step xs ++ rs) ≡ xs) × (machines_of (map record_of_step xs ++ rs) ≡ machines_of rs)
    × (nodes_of (map record_of_step xs ++ rs) ≡ nodes_of rs)
unfolding record_of_step steps_of step_of machines_of nodes_of Back
steps_say [] rs b q = (q, refl, refl)
steps_say (step s l t ∷ xs) rs b q =
    let w = steps_say xs rs (λ x m. b x (Memᴰ.tail m)) q in
    let p : label_of (code_of l) ≡ l = b (step s l t) (Memᴰ.head refl) in (
      ap (λ (y : List Step). step s (label_of (code_of l)) t ∷ y) w.0
          ∙ ap (λ (k : Label). step s k t ∷ xs) p,
      w.1,
      w.2,
    )

-- machines before records that begin with neither a step nor a machine
machines_say : (ms : List Machine) (rs : List Record)
    → ((m : Machine) → Memᴰ m ms → (x : Step) → Memᴰ x m.steps → Back x) → steps_of rs ≡ []
    → machines_of rs ≡ []
    → (steps_of (flat_map records_of_machine ms ++ rs) ≡ []) × (machines_of (flat_map records_of_machine ms ++ rs) ≡ ms)
    × (nodes_of (flat_map records_of_machine ms ++ rs) ≡ nodes_of rs)
unfolding flat_map records_of_machine steps_of machines_of nodes_of
machines_say [] rs b p q = (p, q, refl)
machines_say (m ∷ ms) rs b p q =
    let i = machines_say ms rs (λ y k. b y (Memᴰ.tail k)) p q in
    let xs = map record_of_step m.steps in
    let tail = flat_map records_of_machine ms ++ rs in
    let s = steps_say m.steps tail (b m (Memᴰ.head refl)) i.0 in
    let a : (xs ++ flat_map records_of_machine ms) ++ rs ≡ xs ++ tail =
    append_assoc xs (flat_map records_of_machine ms) rs in (
      refl,
      rw a (ap (λ (y : List Step). record { states = m.states; steps = y } ∷ machines_of (xs ++ tail)) s.0
          ∙ ap (λ (y : List Machine). m ∷ y) (s.1 ∙ i.1)),
      rw a (s.2 ∙ i.2),
    )

pub model_back : (M : Model) (x : ℕ)
    → ((m : Machine) → Memᴰ m M.machines → (x : Step) → Memᴰ x m.steps → Back x)
    → model_of (model_records M ++ (end_record x ∷ [])) ≡ M
unfolding model_records model_of event_count machines_of nodes_of ends
model_back M x b =
    let n = nodes_say x M.nodes in
    let m = machines_say M.machines (ends x M.nodes) b n.0 n.1 in
    let a : (flat_map records_of_machine M.machines ++ map record_of_node M.nodes) ++ (end_record x ∷ [])
    ≡ flat_map records_of_machine M.machines ++ ends x M.nodes =
    append_assoc (flat_map records_of_machine M.machines) (map record_of_node M.nodes) (end_record x ∷ []) in
    rw a
    (ap (λ (ms : List Machine). model M.events ms
    (nodes_of (flat_map records_of_machine M.machines ++ ends x M.nodes))) m.1
    ∙ ap (model M.events M.machines) (m.2 ∙ n.2))
  where
    model : ℕ → List Machine → List Node → Model
    model n ms ns = record { events = n; machines = ms; nodes = ns }

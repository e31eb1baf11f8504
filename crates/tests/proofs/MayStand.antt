-- What is known, kind by kind, of a record that may stand behind g: the tests' facts on numbers.
-- Assumes nothing.
use Rattle.std.proofs.Common.{◌≡◌, false, ◌≢◌, ◌⊎◌, ℕ, ◌≤◌, ◌<◌}
use Rattle.events.specs.Sets.{room, has, count}
use Rattle.records.specs.declared.Record.{Record}
use Rattle.progress.specs.declared.Progress.{Progress}
use Rattle.records.specs.Kinds.{silent_label}
use Rattle.progress.specs.Progress.{with}
use Rattle.records.specs.Records.{key_of}
use Rattle.ranges.specs.Ranges.{wrong_set, wrong_targets}
use Rattle.tests.specs.Tests.{unused_node}

-- operand k is an earlier node, not used
pub record Free (g : Progress) (k : ℕ) : Type 0 where
  pub earlier : k < g.nodes
  pub unused : has g.used k ≡ false

-- a header, a machine, a step that may stand behind g
pub record HeaderMet (g : Progress) (r : Record) : Type 0 where
  pub first : g.n ≡ 0
  pub least : 1 ≤ r.number
  pub most : r.number ≤ 16

pub record MachineMet (g : Progress) (r : Record) : Type 0 where
  pub has_header : g.n ≢ 0
  pub before_nodes : g.nodes ≡ 0
  pub machine_room : g.machines < 12
  pub least : 1 ≤ r.number
  pub most : r.number ≤ 32

pub record StepMet (g : Progress) (r : Record) : Type 0 where
  pub has_header : g.n ≢ 0
  pub some_machine : g.machines ≢ 0
  pub before_nodes : g.nodes ≡ 0
  pub step_room : g.steps < 512
  pub from_below : r.from < g.states
  pub to_below : r.to < g.states
  pub label_known : (r.label < g.n) ⊎ (r.label ≡ silent_label)
  pub above : g.floor ≤ key_of r
  pub eight_events : count room (with g.events r.label) ≤ 8

-- a node may stand behind g: some machine before it, and room in the table
pub record NodeMay (g : Progress) : Type 0 where
  pub has_header : g.n ≢ 0
  pub some_machine : g.machines ≢ 0
  pub node_room : g.nodes < 32

-- a leaf, a join, a hide, a rename that may stand behind g
pub record LeafMet (g : Progress) (r : Record) : Type 0 where
  pub may : NodeMay g
  pub leaf_room : g.leaves < 12
  pub machine_below : r.number < g.machines

pub record JoinMet (g : Progress) (r : Record) : Type 0 where
  pub may : NodeMay g
  pub left_free : Free g r.left
  pub right_free : Free g r.right
  pub apart : r.left ≢ r.right
  pub set_known : wrong_set g.n r.set ≡ false

pub record HideMet (g : Progress) (r : Record) : Type 0 where
  pub may : NodeMay g
  pub left_free : Free g r.left
  pub set_known : wrong_set g.n r.set ≡ false

pub record RenameMet (g : Progress) (r : Record) : Type 0 where
  pub may : NodeMay g
  pub left_free : Free g r.left
  pub targets_known : wrong_targets g.n 0 r.targets ≡ false

-- an end that may stand behind g
pub record EndMet (g : Progress) (r : Record) : Type 0 where
  pub has_header : g.n ≢ 0
  pub some_node : g.nodes ≢ 0
  pub counted : r.number ≡ g.place
  pub all_used : unused_node g ≡ false

pub data Met (g : Progress) (r : Record) : Type 0 where
  header_met : r.kind ≡ 1 → HeaderMet g r → Met g r
  machine_met : r.kind ≡ 2 → MachineMet g r → Met g r
  step_met : r.kind ≡ 3 → StepMet g r → Met g r
  leaf_met : r.kind ≡ 4 → LeafMet g r → Met g r
  join_met : r.kind ≡ 5 → JoinMet g r → Met g r
  hide_met : r.kind ≡ 6 → HideMet g r → Met g r
  rename_met : r.kind ≡ 7 → RenameMet g r → Met g r
  end_met : r.kind ≡ 8 → EndMet g r → Met g r

-- The stages of reading a model's records: what is read behind the header, behind the machines and behind the nodes.
-- Assumes nothing.
use Rattle.std.proofs.Common.{◌≡◌, refl, ◌∙◌, map, arith, length}
use mathlib.Core.List.{flat_map}
use Rattle.network.specs.Model.{Model}
use Rattle.progress.specs.declared.Progress.{Progress}
use Rattle.records.specs.Records.{header_record}
use Rattle.progress.specs.Progress.{start, used_with, take_record}
use Rattle.reader.specs.Encoding.{records_of_machine, record_of_node, model_records}
use Rattle.reader.proofs.Passes.{after, after_append}
use Rattle.reader.proofs.MachinePhase.{AfterMachines, after_machines}
use Rattle.reader.proofs.NodeAfter.{AfterNodes, after_nodes}

module _ (M : Model) where
  unfoldable pub behind_header : Progress
  behind_header = take_record start (header_record M.events)

  unfoldable pub behind_machines : Progress
  behind_machines = after behind_header (flat_map records_of_machine M.machines)

  unfoldable pub behind_nodes : Progress
  behind_nodes = after behind_machines (map record_of_node M.nodes)

  pub records_read : after start (model_records M) ≡ behind_nodes
  unfolding after model_records behind_header behind_machines behind_nodes
  records_read = after_append (flat_map records_of_machine M.machines) (map record_of_node M.nodes) behind_header

  -- behind the header only n is known
  pub record HeaderRead (g : Progress) : Type 0 where
    pub n_read : g.n ≡ M.events
    pub no_machine : g.machines ≡ 0
    pub no_step : g.steps ≡ 0
    pub no_node : g.nodes ≡ 0
    pub no_leaf : g.leaves ≡ 0
    pub none_used : g.used ≡ 0

  pub header_read : HeaderRead behind_header
  unfolding behind_header take_record used_with start
  header_read =
      record { n_read = refl; no_machine = refl; no_step = refl; no_node = refl; no_leaf = refl; none_used = refl }

  pub machines_read : AfterMachines behind_header M.machines behind_machines
  unfolding behind_machines
  machines_read = after_machines M.machines behind_header

  pub nodes_read : AfterNodes behind_machines M.nodes M.machines behind_nodes
  unfolding behind_nodes
  nodes_read = after_nodes M.nodes behind_machines M.machines

  pub events_known : behind_machines.n ≡ M.events
  events_known = machines_read.n_same ∙ header_read.n_read

  pub machines_known : behind_machines.machines ≡ length M.machines
  machines_known = machines_read.machines_more ∙ omega (arith, header_read.no_machine)

  pub no_node_yet : behind_machines.nodes ≡ 0
  no_node_yet = machines_read.nodes_same ∙ header_read.no_node

  pub nodes_known : behind_nodes.nodes ≡ length M.nodes
  nodes_known = nodes_read.nodes_more ∙ omega (arith, no_node_yet)

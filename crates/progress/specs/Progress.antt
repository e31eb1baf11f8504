-- What has been read so far, and taking a record. Document 01, "The model file".
-- Assumes nothing.
use Rattle.std.specs.Prelude.{cond, ℕ, ◌+◌, ◌≤◌}
use Rattle.events.specs.Sets.{room, digit, single, union}
use Rattle.records.specs.declared.Record.{Record}
use Rattle.progress.specs.declared.Progress.{Progress}
use Rattle.records.specs.Kinds.{header_kind, machine_kind, step_kind, leaf_kind, join_kind, size_of, is, is_node}
use Rattle.records.specs.Kinds.{has_operand}
use Rattle.records.specs.Records.{key_of}

-- nothing read yet
unfoldable pub start : Progress
start =
    record {
      place = 0;
      n = 0;
      machines = 0;
      states = 0;
      steps = 0;
      floor = 0;
      events = 0;
      nodes = 0;
      leaves = 0;
      used = 0;
    }

-- the set s with x in it; a silent label adds none
abbrev pub with : ℕ → ℕ → ℕ
with s x = union room s (single room x)

-- the operands used so far, with those of record r
unfoldable pub used_with : Progress → Record → ℕ
used_with g r =
    cond (is join_kind r) (with (with g.used r.left) r.right)
    (cond (has_operand r) (with g.used r.left) g.used)

-- what is read so far once record r is taken: the place behind it; n; machines; states of the latest machine; steps
-- over all; floor, one above the latest machine's last step (0 at its start); its events; nodes; leaves; operands used
unfoldable pub take_record : Progress → Record → Progress
take_record g r =
    record {
      place = g.place + size_of r.kind;
      n = cond (is header_kind r) r.number g.n;
      machines = cond (is machine_kind r) (g.machines + 1) g.machines;
      states = cond (is machine_kind r) r.number g.states;
      steps = cond (is step_kind r) (g.steps + 1) g.steps;
      floor = cond (is machine_kind r) 0 (cond (is step_kind r) (key_of r + 1) g.floor);
      events = cond (is machine_kind r) 0 (cond (is step_kind r) (with g.events r.label) g.events);
      nodes = cond (is_node r) (g.nodes + 1) g.nodes;
      leaves = g.leaves + digit (is leaf_kind r);
      used = used_with g r;
    }

-- the counts that a scan keeps to, whatever the bytes are
pub record Within (g : Progress) : Type 0 where
  pub place_limit : g.place ≤ 4096
  pub machines_limit : g.machines ≤ 12
  pub steps_limit : g.steps ≤ 512
  pub nodes_limit : g.nodes ≤ 32
  pub leaves_limit : g.leaves ≤ 12

-- Machines, each followed by its steps: records that meet no test are well-formed machines within the limits, and the
-- other way round. Assumes nothing.
use Rattle.std.proofs.Common.{◌≡◌, refl, sym, ◌∙◌, ◌≢◌, List, [], ◌∷◌, map, ℕ, ◌+◌, ◌≤◌, ◌<◌, zero-le, arith}
use Rattle.std.proofs.Common.{length}
use mathlib.Core.List.Memᴰ
use mathlib.Core.List.{flat_map, Memᴰ}
use Rattle.events.specs.Sets.{room, has, count}
use Rattle.network.specs.Machine.{Step, Machine, MachineFormed}
use Rattle.network.specs.Limits.{events_of, step_total}
use Rattle.progress.specs.declared.Progress.{Progress}
use Rattle.records.specs.Kinds.{size_of}
use Rattle.records.specs.Records.{machine_record}
use Rattle.progress.specs.Progress.{used_with, take_record}
use Rattle.tests.proofs.Passing.{passed_out}
use Rattle.tests.proofs.MayStand.{machine_met}
use Rattle.tests.proofs.Meeting.{machine_out}
use Rattle.tests.proofs.Passes.{met_in}
use Rattle.reader.specs.Encoding.{record_of_step, records_of_machine, StepsAscend}
use Rattle.reader.proofs.Passes.{after, after_append, Passes, passes_split, passes_join}
use Rattle.reader.proofs.StepEvents.{events_count}
use Rattle.reader.proofs.StepPhase.{Back, after_steps, all_cons, steps_out, steps_in}

-- what is read once the machines are taken
pub record AfterMachines (g : Progress) (ms : List Machine) (h : Progress) : Type 0 where
  pub n_same : h.n ≡ g.n
  pub machines_more : h.machines ≡ g.machines + length ms
  pub steps_more : h.steps ≡ g.steps + step_total ms
  pub nodes_same : h.nodes ≡ g.nodes
  pub leaves_same : h.leaves ≡ g.leaves
  pub used_same : h.used ≡ g.used

-- what is read behind one machine and its steps
abbrev behind : Progress → Machine → Progress
behind g m = after (take_record g (machine_record m.states)) (map record_of_step m.steps)

behind_is : (g : Progress) (m : Machine) (ms : List Machine)
    → after g (flat_map records_of_machine (m ∷ ms)) ≡ after (behind g m) (flat_map records_of_machine ms)
unfolding flat_map records_of_machine after
behind_is g m ms =
    after_append (map record_of_step m.steps) (flat_map records_of_machine ms) (take_record g (machine_record m.states))

after_machine : (g : Progress) (m : Machine) → AfterMachines g (m ∷ []) (behind g m)
unfolding take_record used_with step_total
after_machine g m =
    let i = after_steps m.steps (take_record g (machine_record m.states)) in
    record {
      n_same = i.n_same;
      machines_more = i.machines_same;
      steps_more = omega (arith, i.steps_more);
      nodes_same = i.nodes_same;
      leaves_same = omega (arith, i.leaves_same);
      used_same = i.used_same;
    }

after_none : (g : Progress) → AfterMachines g [] (after g (flat_map records_of_machine []))
unfolding after flat_map step_total
after_none g =
    record {
      n_same = refl;
      machines_more = omega arith;
      steps_more = omega arith;
      nodes_same = refl;
      leaves_same =
          refl;
      used_same = refl;
    }

pub after_machines : (ms : List Machine) (g : Progress) → AfterMachines g ms (after g (flat_map records_of_machine ms))
unfolding step_total
after_machines [] g = after_none g
after_machines (m ∷ ms) g =
    rw (behind_is g m ms)
    (let a = after_machine g m in
    let i = after_machines ms (behind g m) in
    record {
      n_same = i.n_same ∙ a.n_same;
      machines_more = omega (arith, i.machines_more, a.machines_more);
      steps_more = omega (arith, i.steps_more, a.steps_more);
      nodes_same = i.nodes_same ∙ a.nodes_same;
      leaves_same = i.leaves_same ∙ a.leaves_same;
      used_same = i.used_same ∙ a.used_same;
    })

-- a machine that a file can say, for n events
pub record MachineGood (n : ℕ) (m : Machine) : Type 0 where
  pub formed : MachineFormed n m
  pub most_states : m.states ≤ 32
  pub ascend : StepsAscend m.steps
  pub eight : count n (events_of n m) ≤ 8

no_events : count room 0 ≡ 0
unfolding count has
no_events = refl

machine_good : (g : Progress) (m : Machine) → g.n ≤ 16 → ((x : Step) → Memᴰ x m.steps → Back x)
    → Passes g (records_of_machine m) → MachineGood g.n m
unfolding Passes records_of_machine take_record
machine_good g m hn b w =
    let r = machine_record m.states in
    let q = machine_out g r (size_of r.kind) (passed_out g r (size_of r.kind) w.0) refl in
    let f = steps_out m.steps (take_record g r) hn q.most (omega (arith, no_events)) b w.1 in
    record {
      formed = record { some_state = q.least; every_step = f.formed };
      most_states = q.most;
      ascend = f.ascend;
      eight = omega (arith, f.eight, events_count g.n m hn f.formed);
    }

good_along : (n k : ℕ) (m : Machine) → n ≡ k → MachineGood n m → MachineGood k m
good_along n k m q f = rw (← q) f

pub machines_out : (ms : List Machine) (g : Progress) → g.n ≤ 16
    → ((m : Machine) → Memᴰ m ms → (x : Step) → Memᴰ x m.steps → Back x)
    → Passes g (flat_map records_of_machine ms) → (m : Machine) → Memᴰ m ms → MachineGood g.n m
unfolding flat_map after records_of_machine
machines_out [] g hn b w y k = absurd (Memᴰ.not-nil k)
machines_out (m ∷ ms) g hn b w y k =
    let p = passes_split (records_of_machine m) (flat_map records_of_machine ms) g w in
    let q : (behind g m).n ≡ g.n = (after_machine g m).n_same in
    all_cons (MachineGood g.n) m ms (machine_good g m hn (b m (Memᴰ.head refl)) p.0)
    (λ y k.
    good_along (behind g m).n g.n y q
    (machines_out ms (behind g m) (omega (arith, q)) (λ z j. b z (Memᴰ.tail j)) p.1 y k))
    y k

machine_passes : (g : Progress) (m : Machine) → g.n ≢ 0 → g.n ≤ 16 → g.nodes ≡ 0 → g.machines < 12
    → g.steps + length m.steps ≤ 512 → MachineGood g.n m → Passes g (records_of_machine m)
unfolding Passes records_of_machine take_record
machine_passes g m n0 hn nn few steps f =
    let r = machine_record m.states in (
      met_in g r
          (machine_met refl
          (record {
            has_header = n0;
            before_nodes = nn;
            machine_room = few;
            least = f.formed.some_state;
            most = f.most_states;
          })),
      steps_in m.steps (take_record g r) n0 (λ q. omega arith) nn hn f.most_states steps
          (record {
            formed = f.formed.every_step;
            ascend = f.ascend;
            above = λ x k. zero-le;
            eight = omega (arith, f.eight, events_count g.n m hn f.formed.every_step);
          }),
    )

pub machines_in : (ms : List Machine) (g : Progress) → g.n ≢ 0 → g.n ≤ 16 → g.nodes ≡ 0
    → g.machines + length ms ≤ 12
    → g.steps + step_total ms ≤ 512 → ((m : Machine) → Memᴰ m ms → MachineGood g.n m)
    → Passes g (flat_map records_of_machine ms)
unfolding flat_map Passes after records_of_machine step_total
machines_in [] g n0 hn nn few steps f = tt
machines_in (m ∷ ms) g n0 hn nn few steps f =
    let a = after_machine g m in
    passes_join (records_of_machine m) (flat_map records_of_machine ms) g
    (machine_passes g m n0 hn nn (omega arith) (omega arith) (f m (Memᴰ.head refl)))
    (machines_in ms (behind g m) (λ q. n0 (sym a.n_same ∙ q)) (omega (arith, a.n_same)) (a.nodes_same ∙ nn)
    (omega (arith, a.machines_more)) (omega (arith, a.steps_more))
    (λ y k. good_along g.n (behind g m).n y (sym a.n_same) (f y (Memᴰ.tail k))))

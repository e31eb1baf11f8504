-- The limits of document 01's table, "What the station model holds", on a model.
-- Assumes nothing.
use Rattle.std.specs.Prelude.{Bool, false, ◌||◌, ℕ, ◌+◌, ◌≤◌, length}
use mathlib.Core.List.{List, [], ◌∷◌, Memᴰ}
use Rattle.events.specs.Sets.{set_of, count}
use Rattle.network.specs.Machine.{is_label, Step, step, Machine}
use Rattle.network.specs.Model.{Model, leaf_machines}

-- some step of the list is labelled e
unfoldable pub labels : ℕ → List Step → Bool
labels e [] = false
labels e (step s l s' ∷ xs) = is_label e l || labels e xs

-- the set of the events below n that machine m uses
unfoldable pub events_of : ℕ → Machine → ℕ
events_of n m = set_of n (λ e. labels e m.steps)

-- the steps over all machines
unfoldable pub step_total : List Machine → ℕ
step_total [] = 0
step_total (m ∷ ms) = length m.steps + step_total ms

-- least and most, as the table gives them
abbrev pub Between : ℕ → ℕ → ℕ → Type 0
Between least most k = (least ≤ k) × (k ≤ most)

pub record WithinLimits (M : Model) : Type 0 where
  pub events_limit : Between 1 16 M.events
  pub machines_limit : Between 1 12 (length M.machines)
  pub states_limit : (m : Machine) → Memᴰ m M.machines → Between 1 32 m.states
  pub steps_limit : step_total M.machines ≤ 512
  pub machine_events_limit : (m : Machine) → Memᴰ m M.machines → count M.events (events_of M.events m) ≤ 8
  pub nodes_limit : Between 1 32 (length M.nodes)
  pub leaves_limit : Between 1 12 (length (leaf_machines M))

-- Document 01's worked cases 1 to 10, of the definitions, by computing the whole table; and that case 10's network is
-- free of livelock though the verdict is inconclusive. Assumes nothing.
use Rattle.std.proofs.Common.{◌≡◌, refl, sym, ◌⊎◌, inl, inr, ⊎_elim, [], ℕ, arith}
use mathlib.Core.List.Memᴰ
use mathlib.Core.List.{flat_map, Memᴰ}
use Rattle.network.proofs.Labels.{silent≢event}
use Rattle.network.proofs.Walks.{walk_keeps}
use Rattle.events.specs.Sets.{has, set_of, any_below}
use Rattle.network.specs.Machine.{Label, silent, event, Step, step}
use Rattle.network.specs.Network.{Network, leaf, join, hide, State, start, Moves}
use Rattle.network.specs.Walks.{Walk, Reachable, SilentRun, NoSilentLoop}
use Rattle.network.specs.Model.{idle, nowhere, network_of, networks_from, networks, node_network, root, own_machine}
use Rattle.network.specs.Model.{leaf_machines, product, bound}
use Rattle.network.specs.Machine.{is_label, is_silent}
use Rattle.network.specs.Loops.{any_of, reach, stays, leads, edge, reaches, carries, loops, closes}
use Rattle.network.specs.Loops.{spins}
use Rattle.network.specs.Lists.{pack, first_of, second_of, insert_at, insert_all, in_order, numbers_below}
use Rattle.network.specs.Lists.{leaf_candidate, together_candidate, alone_candidate, join_candidates, hide_candidate}
use Rattle.network.specs.Lists.{rename_candidate, list_of, flag_of}
use Rattle.network.specs.Verdict.{has_empty_first, operand_empty, is_over, verdict_from, verdict}
use Rattle.network.specs.Cases.{said_of, says, starts_p, starts_q, example10, cases, computed, worked}

pub cases_hold : computed cases ≡ worked cases
unfolding computed worked cases says said_of example10 verdict verdict_from is_over operand_empty has_empty_first list_of
    flag_of pack first_of second_of insert_at insert_all in_order numbers_below leaf_candidate together_candidate alone_candidate
    join_candidates hide_candidate rename_candidate any_of reach stays leads edge reaches carries loops is_silent closes
    spins is_label networks networks_from network_of node_network root own_machine leaf_machines product bound idle nowhere
    has set_of any_below flat_map
cases_hold = refl

-- a does the same in both machines; b is done in state 1 of the first alone, and in state 0 of the second alone
abbrev TurnsOver : ℕ → ℕ → Type 0
TurnsOver u u' = ((u ≡ 0) × (u' ≡ 1)) ⊎ ((u ≡ 1) × (u' ≡ 0))

none : {X : Type 0} {x : Step} → Memᴰ x [] → X
none h = absurd (Memᴰ.not-nil h)

steps_P : (u : ℕ) (l : Label) (u' : ℕ) → Memᴰ (step u l u') starts_p.steps
    → ((l ≡ event 0) × TurnsOver u u') ⊎ ((l ≡ event 1) × (u ≡ 1))
steps_P u l u' h =
    ⊎_elim (λ q. inl ((cc), inl ((cc), (cc))))
    (λ h. ⊎_elim (λ q. inl ((cc), inr ((cc), (cc))))
    (λ h. ⊎_elim (λ q. inr ((cc), (cc))) none (Memᴰ.cases_cons h)) (Memᴰ.cases_cons h))
    (Memᴰ.cases_cons h)

steps_Q : (v : ℕ) (l : Label) (v' : ℕ) → Memᴰ (step v l v') starts_q.steps
    → ((l ≡ event 0) × TurnsOver v v') ⊎ ((l ≡ event 1) × (v ≡ 0))
steps_Q v l v' h =
    ⊎_elim (λ q. inl ((cc), inl ((cc), (cc))))
    (λ h. ⊎_elim (λ q. inr ((cc), (cc)))
    (λ h. ⊎_elim (λ q. inl ((cc), inr ((cc), (cc)))) none (Memᴰ.cases_cons h)) (Memᴰ.cases_cons h))
    (Memᴰ.cases_cons h)

-- from a state in which both machines have the same number the join does a, and they have the same number again
abbrev joint : Network
joint = join (leaf starts_p) (leaf starts_q) 3

joint_moves : (u v : ℕ) (l : Label) (u' v' : ℕ) → Moves joint (u, v) l (u', v') → u ≡ v → (u' ≡ v') × (l ≡ event 0)
unfolding Moves has
joint_moves u v l u' v' (inl (a, x, y)) e = at (steps_P u l u' x) (steps_Q v l v' y)
  where
    at : ((l ≡ event 0) × TurnsOver u u') ⊎ ((l ≡ event 1) × (u ≡ 1))
        → ((l ≡ event 0) × TurnsOver v v') ⊎ ((l ≡ event 1) × (v ≡ 0))
        → (u' ≡ v') × (l ≡ event 0)
    at (inl (p, inl t)) (inl (q, inl r)) = (omega arith, p)
    at (inl (p, inl t)) (inl (q, inr r)) = absurd (omega arith)
    at (inl (p, inr t)) (inl (q, inl r)) = absurd (omega arith)
    at (inl (p, inr t)) (inl (q, inr r)) = (omega arith, p)
    at (inl (p, t)) (inr (q, r)) = let z : ◌≡◌ {A = ℕ} 0 1 = cc in absurd (omega arith)
    at (inr (p, t)) (inl (q, r)) = let z : ◌≡◌ {A = ℕ} 0 1 = cc in absurd (omega arith)
    at (inr (p, t)) (inr (q, r)) = absurd (omega arith)
joint_moves u v l u' v' (inr (a, inl (x, y))) e =
    ⊎_elim (λ h. absurd (rw h.0 at a)) (λ h. absurd (rw h.0 at a)) (steps_P u l u' x)
joint_moves u v l u' v' (inr (a, inr (x, y))) e =
    ⊎_elim (λ h. absurd (rw h.0 at a)) (λ h. absurd (rw h.0 at a)) (steps_Q v l v' y)

-- so b, which alone is hidden, never happens
hide_moves : (s : State joint) (l : Label) (s' : State joint) → Moves (hide joint 2) s l s' → s.0 ≡ s.1
    → (s'.0 ≡ s'.1) × (l ≡ event 0)
unfolding Moves has
hide_moves s l s' (k, x, q) e =
    let r = joint_moves s.0 s.1 k s'.0 s'.1 x e in
    (r.0, sym (rw r.1 at q))

pub example10_free : NoSilentLoop (root example10)
unfolding NoSilentLoop Reachable SilentRun Walk Moves start has
    root node_network networks networks_from network_of idle nowhere example10
example10_free s (ls, w) k (m, x, v) =
    let same : s.0 ≡ s.1 = walk_keeps (Moves (hide joint 2)) (λ s. s.0 ≡ s.1)
    (λ s l s' y p. (hide_moves s l s' y p).0) ls (0, 0) s w refl in
    silent≢event (hide_moves s silent m x same).1

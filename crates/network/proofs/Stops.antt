-- Where the pass over a model's nodes stops: nowhere, or at the first node that gives anything, by which of the three
-- tests. Assumes nothing.
use Rattle.std.proofs.Common.{◌≡◌, refl, Bool, true, false, cond, ◌⊎◌, inl, inr, List, [], ◌∷◌, ℕ, zero, suc}
use Rattle.std.proofs.Common.{◌+◌, ◌<◌, arith, not-suc-le-zero, le_of_suc-le-suc, get_or, length}
use Rattle.network.specs.Network.{Network}
use Rattle.network.specs.Model.{Model, nowhere, networks, node_network, bound, WellFormed}
use Rattle.network.specs.Lists.{flag_of}
use Rattle.network.specs.Verdict.{Verdict, pass, inconclusive, refused, operand_empty, is_over, verdict_from}
use Rattle.network.specs.Verdict.{verdict}
use Rattle.network.proofs.Nodes.{networks_length}

-- the node gives nothing
pub record Quiet (n : ℕ) (t : Network) : Type 0 where
  pub no_empty : operand_empty n t ≡ false
  pub no_flag : flag_of n t ≡ false
  pub not_over : is_over n t ≡ false

-- node number k with network t gives v: 12, the flag, or 11, the earlier tests having given nothing
pub data Gives (n k : ℕ) (t : Network) (v : Verdict) : Type 0 where
  gives_12 : operand_empty n t ≡ true → v ≡ refused 12 k → Gives n k t v
  gives_flag : operand_empty n t ≡ false → flag_of n t ≡ true → v ≡ inconclusive k → Gives n k t v
  gives_11 : operand_empty n t ≡ false → flag_of n t ≡ false → is_over n t ≡ true → v ≡ refused 11 k → Gives n k t v

-- the nodes from number k on, whose networks are ts, give nothing, or the first that gives anything gives v
Outcome : ℕ → ℕ → ℕ → List Network → Verdict → Type 0
Outcome n b k ts v =
    ((v ≡ pass b) × ((j : ℕ) → j < length ts → Quiet n (get_or ts j nowhere)))
    ⊎ ((j : ℕ) × (j < length ts) × ((i : ℕ) → i < j → Quiet n (get_or ts i nowhere))
    × Gives n (k + j) (get_or ts j nowhere) v)

outcome : (n b k : ℕ) (ts : List Network) → Outcome n b k ts (verdict_from n b k ts)
unfolding Outcome verdict_from
outcome n b k [] = inl (refl, λ j l. absurd (not-suc-le-zero l))
outcome n b k (t ∷ ts) = at (operand_empty n t) refl (flag_of n t) refl (is_over n t) refl (outcome n b (suc k) ts)
  where
    here : (v : Verdict) → Gives n k t v → Outcome n b k (t ∷ ts) v
    here v g = let q : k + 0 ≡ k = omega arith in inr (zero, omega arith, λ i l. absurd (not-suc-le-zero l), rw q g)

    later : Quiet n t → (v : Verdict) → Outcome n b (suc k) ts v → Outcome n b k (t ∷ ts) v
    later h v (inl (q, all)) = inl (q, front)
      where
        front : (j : ℕ) → j < suc (length ts) → Quiet n (get_or (t ∷ ts) j nowhere)
        front zero l = h
        front (suc j) l = all j (le_of_suc-le-suc l)
    later h v (inr (j, l, before, g)) =
        let q : k + suc j ≡ suc k + j = omega arith in
        inr (suc j, omega arith, front, rw q g)
      where
        front : (i : ℕ) → i < suc j → Quiet n (get_or (t ∷ ts) i nowhere)
        front zero l = h
        front (suc i) l = before i (le_of_suc-le-suc l)

    at : (x : Bool) → operand_empty n t ≡ x → (y : Bool) → flag_of n t ≡ y → (z : Bool) → is_over n t ≡ z
        → Outcome n b (suc k) ts (verdict_from n b (suc k) ts)
        → Outcome n b k (t ∷ ts)
        (cond x (refused 12 k) (cond y (inconclusive k) (cond z (refused 11 k) (verdict_from n b (suc k) ts))))
    at true p y q z r o = here (refused 12 k) (gives_12 p refl)
    at false p true q z r o = here (inconclusive k) (gives_flag p q refl)
    at false p false q true r o = here (refused 11 k) (gives_11 p q r refl)
    at false p false q false r o =
        later (record { no_empty = p; no_flag = q; not_over = r }) (verdict_from n b (suc k) ts) o

-- what the pass over the model's nodes came to
pub data PassOver (M : Model) : Type 0 where
  all_quiet : verdict M ≡ pass (bound M) → ((j : ℕ) → j < length M.nodes → Quiet M.events (node_network M j))
      → PassOver M
  stopped_at : (j : ℕ) → j < length M.nodes → ((i : ℕ) → i < j → Quiet M.events (node_network M i))
      → Gives M.events j (node_network M j) (verdict M) → PassOver M

pub pass_over : (M : Model) → WellFormed M → PassOver M
unfolding Outcome verdict node_network
pass_over M w = at (outcome M.events (bound M) 0 (networks M))
  where
    at : Outcome M.events (bound M) 0 (networks M) (verdict M) → PassOver M
    at (inl (q, all)) = all_quiet q (λ j l. all j (rw (networks_length M) l))
    at (inr (j, l, before, g)) =
        let q : 0 + j ≡ j = omega arith in
        stopped_at j (rw (networks_length M) at l) before (rw q at g)

-- a node that gives anything does not give a pass
pub gives_no_pass : (n k b : ℕ) (t : Network) (v : Verdict) → Gives n k t v → v ≡ pass b → ⊥
gives_no_pass n k b t v (gives_12 e q) p = let z : ◌≡◌ {A = ℕ} 0 1 = cc in omega arith
gives_no_pass n k b t v (gives_flag e f q) p = let z : ◌≡◌ {A = ℕ} 0 1 = cc in omega arith
gives_no_pass n k b t v (gives_11 e f o q) p = let z : ◌≡◌ {A = ℕ} 0 1 = cc in omega arith

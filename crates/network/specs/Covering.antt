-- Covering pairs: sets of pairs for a node and all below it that miss nothing the rules yield. The rules' own pairs are
-- one instance; sets that leave out what says less, or that were worked out elsewhere, are others. No limit on n or on
-- the number of pairs, and nothing about packing. Assumes nothing.
use Rattle.std.specs.Prelude.{◌≢◌, List, ℕ}
use Rattle.events.specs.Sets.{empty, Included}
use Rattle.network.specs.Machine.{Label, Machine}
use Rattle.network.specs.Network.{Network, leaf, join, hide, rename}
use Rattle.network.specs.Walks.{SpeaksOf}
use Rattle.network.specs.Rules.{Pairs, LeafFlag, LeafRule, JoinRule, HideFlag, HideRule, RenameRule}

-- some pair of P lies inside (F, C): its F in F, its C in C
unfoldable pub Inside : Pairs → Pairs
Inside P F C = (F' : ℕ) × (C' : ℕ) × P F' C' × Included F' F × Included C' C

-- P covers what a rule yields: every yielded pair has a pair of P inside it, and every pair of P has a non-empty F
unfoldable pub CoversRule : Pairs → Pairs → Type 0
CoversRule P yielded = ((F C : ℕ) → yielded F C → Inside P F C) × ((F C : ℕ) → P F C → F ≢ empty)

-- P covers the network: its operands have covering pairs Q and R, P covers what its rule yields of them, no leaf's flag
-- is up, and no hide swallows the F of a pair of its operand's
pub data Covers (n : ℕ) : Network → Pairs → Type 1 where
  covers_leaf : {m : Machine} {P : Pairs} → ¬ LeafFlag m → CoversRule P (LeafRule n m) → Covers n (leaf m) P
  covers_join : {a b : Network} {A : ℕ} {P Q R : Pairs}
      → Covers n a Q → Covers n b R → CoversRule P (JoinRule n A Q R) → Covers n (join a b A) P
  covers_hide : {a : Network} {A : ℕ} {P Q : Pairs}
      → Covers n a Q → ¬ HideFlag n A Q → CoversRule P (HideRule n A Q) → Covers n (hide a A) P
  covers_rename : {a : Network} {f : List ℕ} {P Q : Pairs}
      → Covers n a Q → CoversRule P (RenameRule n f Q) → Covers n (rename a f) P

-- some pair of P with a non-empty F speaks of the walk
unfoldable pub Found : Pairs → List Label → Type 0
Found P ls = (F : ℕ) × (C : ℕ) × P F C × SpeaksOf F C ls × (F ≢ empty)

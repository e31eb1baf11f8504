-- The rules for pairs and flags, as document 01 states them under that heading: which pairs (F, C) each kind of node
-- lists, given those of its operands, and when its flag is up. n is the number of events. Assumes nothing.
use Rattle.std.specs.Prelude.{◌≡◌, ◌≢◌, ◌⊎◌, List, ℕ, suc, ◌<◌}
use Rattle.events.specs.Sets.{empty, union, intersection, difference, complement, image, all_sources}
use Rattle.network.specs.Machine.{Label, Machine}
use Rattle.network.specs.Network.{Network, leaf, join, hide, rename, sends}
use Rattle.network.specs.Walks.{ClosedWalk, Exactly, SilentRun}

-- a set of pairs: P F C says that (F, C) is one of them
abbrev pub Pairs : Type 1
Pairs = ℕ → ℕ → Type 0

-- Leaf. The states that count for the flag and for the pairs: all states of the machine
unfoldable pub Counts : Machine → ℕ → Type 0
Counts m s = s < m.states

-- a silent closed walk exists among the machine's states
unfoldable pub LeafFlag : Machine → Type 0
LeafFlag m = (s : ℕ) × (k : ℕ) × Counts m s × SilentRun (leaf m) (suc k) s s

-- some closed walk has L as its exact set of events
unfoldable pub Loop : Machine → ℕ → Type 0
Loop m L = (s : ℕ) × (ls : List Label) × Counts m s × ClosedWalk (leaf m) s ls × Exactly L ls

-- (L, Σ−L) is listed exactly if L is non-empty and some closed walk has L as its exact set of events
unfoldable pub LeafRule : ℕ → Machine → Pairs
LeafRule n m F C = (F ≢ empty) × Loop m F × (C ≡ complement n F)

-- Join over A. C of clause (a): (C₁∩A) ∪ (C₂∩A) ∪ ((C₁−A)∩(C₂−A))
abbrev pub joined_c : ℕ → ℕ → ℕ → ℕ → ℕ
joined_c n A C₁ C₂ =
    union n (union n (intersection n C₁ A) (intersection n C₂ A))
    (intersection n (difference n C₁ A) (difference n C₂ A))

-- clause (a): a left pair and a right pair together, if F and C are disjoint
unfoldable pub Together : ℕ → ℕ → Pairs → Pairs → Pairs
Together n A P Q F C =
    (F₁ : ℕ) × (C₁ : ℕ) × (F₂ : ℕ) × (C₂ : ℕ) × P F₁ C₁ × Q F₂ C₂
    × (F ≡ union n F₁ F₂) × (C ≡ joined_c n A C₁ C₂) × (intersection n F C ≡ empty)

-- clauses (b) and (c): any pair of one side with F∩A empty
unfoldable pub Alone : ℕ → ℕ → Pairs → Pairs
Alone n A P F C = P F C × (intersection n F A ≡ empty)

unfoldable pub JoinRule : ℕ → ℕ → Pairs → Pairs → Pairs
JoinRule n A P Q F C = Together n A P Q F C ⊎ (Alone n A P F C ⊎ Alone n A Q F C)

-- Hide A. Flag up exactly if some operand pair has F−A empty; otherwise (F−A, C∪A) for each
unfoldable pub HideFlag : ℕ → ℕ → Pairs → Type 0
HideFlag n A P = (F : ℕ) × (C : ℕ) × P F C × (difference n F A ≡ empty)

unfoldable pub HideRule : ℕ → ℕ → Pairs → Pairs
HideRule n A P F C = (F' : ℕ) × (C' : ℕ) × P F' C' × (F ≡ difference n F' A) × (C ≡ union n C' A)

-- Rename. F is the image of F'; C is every event all of whose sources lie in C', so an event with no source is in C
unfoldable pub RenameRule : ℕ → List ℕ → Pairs → Pairs
RenameRule n f P F C = (F' : ℕ) × (C' : ℕ) × P F' C' × (F ≡ image n (sends f) F') × (C ≡ all_sources n (sends f) C')

-- the pairs that are listed at a node, by its kind
unfoldable pub Listed : ℕ → Network → Pairs
Listed n (leaf m) = LeafRule n m
Listed n (join a b A) = JoinRule n A (Listed n a) (Listed n b)
Listed n (hide a A) = HideRule n A (Listed n a)
Listed n (rename a f) = RenameRule n f (Listed n a)

-- the node's own flag is up; a join and a rename never raise it
unfoldable pub Flag : ℕ → Network → Type 0
Flag n (leaf m) = LeafFlag m
Flag n (join a b A) = ⊥
Flag n (hide a A) = HideFlag n A (Listed n a)
Flag n (rename a f) = ⊥

-- no flag is up at the node or below it
unfoldable pub Clear : ℕ → Network → Type 0
Clear n (leaf m) = ¬ Flag n (leaf m)
Clear n (join a b A) = Clear n a × Clear n b × (¬ Flag n (join a b A))
Clear n (hide a A) = Clear n a × (¬ Flag n (hide a A))
Clear n (rename a f) = Clear n a × (¬ Flag n (rename a f))

-- An entry of a list has room for a pair of sets of 16 events (document 01, the working area: F × 65536 + C), so the
-- code works with the rules' candidates for 16 events; and what it is for an entry to speak of n events alone. Assumes
-- nothing.
use Rattle.std.specs.Prelude.{◌≡◌, Bool, ℕ, ◌^◌, ◌<◌, ◌≤◌}
use mathlib.Core.List.{List, Memᴰ}
use Rattle.events.specs.Sets.{has, set_of, union, disjoint}
use Rattle.network.specs.Network.{target}
use Rattle.network.specs.Rules.{joined_c}
use Rattle.network.specs.Lists.{pack, first_of, second_of}

-- how many events an entry has room for
abbrev pub width : ℕ
width = 16

-- the events of s that an entry has room for
unfoldable pub narrow : ℕ → ℕ
narrow s = set_of width (has s)

-- join over A, clause (a): the sets F and C that a left entry x and a right entry y yield
unfoldable pub together_f : ℕ → ℕ → ℕ → ℕ
together_f n x y = union n (first_of x) (first_of y)

unfoldable pub together_c : ℕ → ℕ → ℕ → ℕ → ℕ
together_c n A x y = joined_c n A (second_of x) (second_of y)

-- what the code answers of two entries: whether F and C are disjoint, and their entry
pub record Together (A x y : ℕ) (kept : Bool) (entry : ℕ) : Type 0 where
  pub kept_is : kept ≡ disjoint width (together_f width x y) (together_c width A x y)
  pub entry_is : entry ≡ pack (together_f width x y) (together_c width A x y)

-- clauses (b) and (c): what the code answers of one entry: whether F∩A is empty, and the entry itself
pub record Alone (A x : ℕ) (kept : Bool) (entry : ℕ) : Type 0 where
  pub kept_is : kept ≡ disjoint width (first_of x) A
  pub entry_is : entry ≡ x

-- both sets of entry x have events below n only; and so for every entry of a list
pub record Inside (n x : ℕ) : Type 0 where
  pub first_below : first_of x < 2 ^ n
  pub second_below : second_of x < 2 ^ n

unfoldable pub AllInside : ℕ → List ℕ → Type 0
AllInside n xs = (x : ℕ) → Memᴰ x xs → Inside n x

-- every event that an entry has room for and that is not below n keeps its number under the targets f
unfoldable pub KeepsOthers : ℕ → List ℕ → Type 0
KeepsOthers n f = (e : ℕ) → n ≤ e → e < width → target f e ≡ e

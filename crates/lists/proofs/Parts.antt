-- A join's candidates by their parts. Assumes nothing.
use Rattle.std.proofs.Common.{List, ℕ}
use mathlib.Core.List.{flat_map}
use Rattle.entries.specs.Entries.{width}
use Rattle.network.specs.Lists.{together_candidate, alone_candidate}

-- what the left entry x yields with each right entry
abbrev pub row : ℕ → List ℕ → ℕ → List ℕ
row A ys x = flat_map (together_candidate width A x) ys

-- what the entries of one side yield alone
abbrev pub alone : ℕ → List ℕ → List ℕ
alone A xs = flat_map (alone_candidate width A) xs

-- A line in its array of 40 bytes is no more than its text: the array and the count are that text's. Assumes nothing.
use Rattle.std.specs.Prelude.{◌≡◌, List, ℕ, ◌≤◌, length, take}
use Rattle.std.proofs.Common.{sym, length-take-le}
use Rattle.std.proofs.Math.Path.{subst}
use Rattle.report.specs.Text.{longest, framed}

-- the array has a text of `count` bytes, then zeros
pub record Framed (count : ℕ) (bytes : List ℕ) : Type 0 where
  pub fits : count ≤ longest
  pub size : length bytes ≡ longest
  pub text_first : bytes ≡ framed (take count bytes)

-- its text has as many bytes as it counts
pub framed_count : {n : ℕ} {xs : List ℕ} → Framed n xs → length (take n xs) ≡ n
framed_count {n} {xs} h = length-take-le n xs (subst (λ (k : ℕ). n ≤ k) (sym h.size) h.fits)

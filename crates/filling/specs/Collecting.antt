-- What every collector keeps to. Assumes nothing.
use Rattle.std.specs.Prelude.{◌≡◌, ℕ, Bool, IsTrue}

-- once over, a collector stays as it is
abbrev pub StaysOnceOver : {S : Type 0} → (S → ℕ → S) → (S → Bool) → Type 0
StaysOnceOver {S} after is_over = (s : S) (x : ℕ) → IsTrue (is_over s) → after s x ≡ s

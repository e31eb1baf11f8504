-- Two outcomes that meet a contract of this crate are equal: the answers, and every byte of the buffer.
-- Assumes nothing.
use Rattle.std.proofs.Common.{◌≡◌, List, ℕ}
use Rattle.events.proofs.Unique.{settled}
use Rattle.writer.specs.Append.{answer_of, buffer_of}
use Rattle.handing.specs.Handing.{handed_in}
use Rattle.std.specs.Prelude.{Result}
use Rattle.tests.specs.declared.Refusal.{Refusal}

pub append_unique : (b : List ℕ) (used k : ℕ) (xs : List ℕ) (w w' : Result ℕ Refusal) (c c' : List ℕ)
    → (w ≡ answer_of b used (handed_in used k xs)) × (c ≡ buffer_of b used (handed_in used k xs))
    → (w' ≡ answer_of b used (handed_in used k xs)) × (c' ≡ buffer_of b used (handed_in used k xs))
    → (w ≡ w') × (c ≡ c')
append_unique b used k xs w w' c c' p q = (settled p.0 q.0, settled p.1 q.1)

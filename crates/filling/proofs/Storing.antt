-- Storing an array in a section: as much as both have room for. Assumes nothing.
use Rattle.std.proofs.Common.{◌≡◌, List, ◌++◌, inl, inr, ℕ, min, arith, length, take, drop}
use Rattle.std.proofs.lemmas.Bool.{cases_lt}
use Rattle.std.proofs.lemmas.Grind.{common_steps}
use Rattle.filling.specs.Building.{stored}

pub stored_part : (es ss : List ℕ) (room : ℕ) → length es ≡ 256 → room ≡ min (length ss) 256
    → take room es ++ drop room ss ≡ stored es ss
unfolding stored
stored_part es ss room e r =
    elim (cases_lt (length ss) 256) [
      | inl l ↦ let q : room ≡ length ss = omega arith in grind (arith, common_steps)
      | inr l ↦ let q : room ≡ length es = omega arith in grind (arith, common_steps)
    ]

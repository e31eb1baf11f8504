-- A list in its array is no more than its filling, which gives its count, its flag and its 256 entries back.
-- Assumes nothing.
use Rattle.std.specs.Prelude.{◌≡◌, Bool, true, false, List, ℕ, ◌≤◌, length, take}
use Rattle.std.proofs.Common.{refl, sym, ap, ◌∙◌, length-take-le}
use Rattle.std.proofs.Math.Path.{subst}
use Rattle.filling.specs.Building.{pairs_of, went_over, state_of, padded, Held, Made}

-- a state of the list: its pairs, and whether it is over
pub state_pairs : (b : Bool) (xs : List ℕ) → pairs_of (state_of b xs) ≡ xs
unfolding pairs_of state_of
state_pairs true xs = refl
state_pairs false xs = refl

pub state_over : (b : Bool) (xs : List ℕ) → went_over (state_of b xs) ≡ b
unfolding went_over state_of
state_over true xs = refl
state_over false xs = refl

-- an array that holds a list has as many pairs as it counts
pub held_length : {n : ℕ} {xs : List ℕ} → Held n xs → length (take n xs) ≡ n
held_length {n} {xs} h = length-take-le n xs (subst (λ (k : ℕ). n ≤ k) (sym h.size) h.count_fits)

-- count, flag and array are those of the filling that they are seen as
pub held_made : (b : Bool) {n : ℕ} {xs : List ℕ} → Held n xs → Made (state_of b (take n xs)) n b xs
held_made b {n} {xs} h =
    let pairs = state_pairs b (take n xs) in
    record {
      count_is = sym (ap length pairs ∙ held_length h);
      over_is = sym (state_over b (take n xs));
      entries_are = h.padding ∙ sym (ap padded pairs);
    }

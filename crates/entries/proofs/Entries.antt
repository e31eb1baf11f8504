-- The events that an entry has room for: what the operations on sets make of 16 events.
-- Assumes nothing.
use Rattle.std.proofs.Common.{◌≡◌, sym, ap, ap₂, ◌∙◌, Bool, true, not, ◌&&◌, ◌||◌, ℕ, ◌^◌, ◌<◌, ◌≤◌, arith}
use Rattle.events.specs.Sets.{room, has, set_of, full, union, intersection, difference}
use Rattle.events.proofs.Members.{set_of_has, set_of_below, set_of_ext, set_of_self}
use Rattle.events.proofs.Machine.{has_beyond}
use Rattle.events.proofs.Widths.{set_of_widen, union_widen, intersection_widen, difference_widen}
use Rattle.events.proofs.Booleans.{and_false, and_true}
use Rattle.network.specs.Rules.{joined_c}
use Rattle.network.specs.Lists.{first_of, second_of}
use Rattle.entries.specs.Entries.{width, narrow}

pub first_below : (x : ℕ) → x < 2 ^ room → first_of x < 2 ^ width
unfolding first_of
first_below x h = omega arith

pub second_below : (x : ℕ) → second_of x < 2 ^ width
unfolding second_of
second_below x = omega arith

pub narrow_below : (s : ℕ) → narrow s < 2 ^ width
unfolding narrow
narrow_below s = set_of_below width (has s)

-- as the code narrows a set
pub narrow_is : (s : ℕ) → intersection room s (full width) ≡ narrow s
unfolding narrow
narrow_is s =
    set_of_widen width room (λ e. has s e && has (full width) e) (omega arith)
    (λ e i j. ap (λ (b : Bool). has s e && b) (has_beyond width (full width) e (set_of_below width (λ e. true)) i)
    ∙ and_false (has s e))
    ∙ set_of_ext width (λ e. has s e && has (full width) e) (has s)
    (λ e l. ap (λ (b : Bool). has s e && b) (set_of_has width (λ e. true) e l) ∙ and_true (has s e))

-- what the set type's operations make with room for 32 events is, narrowed, what they make with room for 16
pub narrow_set_of : (p : ℕ → Bool) → narrow (set_of room p) ≡ set_of width p
unfolding narrow
narrow_set_of p = set_of_ext width (has (set_of room p)) p (λ e l. set_of_has room p e (omega arith))

-- and what has no event beyond an entry's room stays as it is
pub narrow_keeps : (p : ℕ → Bool) → narrow (set_of width p) ≡ set_of width p
unfolding narrow
narrow_keeps p = set_of_ext width (has (set_of width p)) p (set_of_has width p)

pub narrow_same : (s : ℕ) → s < 2 ^ width → narrow s ≡ s
unfolding narrow
narrow_same s h = sym (set_of_self width s h)

-- C of a join, of sets of n events
pub joined_widen : (n k A C₁ C₂ : ℕ) → n ≤ k → C₁ < 2 ^ n → C₂ < 2 ^ n → joined_c k A C₁ C₂ ≡ joined_c n A C₁ C₂
joined_widen n k A C₁ C₂ h p q =
    rw (
      intersection_widen n k C₁ A h p,
      intersection_widen n k C₂ A h q,
      difference_widen n k C₁ A h p,
      difference_widen n k C₂ A h q,
      union_widen n k (intersection n C₁ A) (intersection n C₂ A) h (set_of_below n _) (set_of_below n _),
      intersection_widen n k (difference n C₁ A) (difference n C₂ A) h (set_of_below n _),
    )
    (union_widen n k _ _ h (set_of_below n _) (set_of_below n _))

-- an event's membership in the C of a join, from its membership in A, C₁ and C₂
abbrev pub joined_bit : Bool → Bool → Bool → Bool
joined_bit a c d = ((c && a) || (d && a)) || ((c && not a) && (d && not a))

pub joined_has : (n A C₁ C₂ e : ℕ) → e < n → has (joined_c n A C₁ C₂) e ≡ joined_bit (has A e) (has C₁ e) (has C₂ e)
joined_has n A C₁ C₂ e l =
    let within = union n (intersection n C₁ A) (intersection n C₂ A) in
    let outside = intersection n (difference n C₁ A) (difference n C₂ A) in
    set_of_has n (λ e. has within e || has outside e) e l
    ∙ ap₂ ◌||◌
    (set_of_has n (λ e. has (intersection n C₁ A) e || has (intersection n C₂ A) e) e l
    ∙ ap₂ ◌||◌ (set_of_has n (λ e. has C₁ e && has A e) e l) (set_of_has n (λ e. has C₂ e && has A e) e l))
    (set_of_has n (λ e. has (difference n C₁ A) e && has (difference n C₂ A) e) e l
    ∙ ap₂ ◌&&◌ (set_of_has n (λ e. has C₁ e && not (has A e)) e l) (set_of_has n (λ e. has C₂ e && not (has A e)) e l))

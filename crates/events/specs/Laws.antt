-- What each operation on sets means, event by event; what each test asks; and that a set is its events. Everything that
-- is said of sets elsewhere follows from these laws. Assumes nothing.
use Rattle.std.specs.Prelude.{◌≡◌, ◌↔◌, Bool, false, not, ◌&&◌, ◌||◌, ℕ, ◌^◌, ◌<◌, T, eqb, ltb, length, filter}
use Rattle.std.specs.List.{range_with_len}
use Rattle.events.specs.Sets.{has, empty, is_empty, full, single, union, intersection, difference, complement}
use Rattle.events.specs.Sets.{disjoint, included, Included, count, image, all_sources}

-- event e of each set, for any n, sets s and t, and relation R; the tests on s and t; how many of s are counted; and
-- that two sets of n events are equal where they have the same events
pub record SetLaws : Type 0 where
  pub of_empty : (e : ℕ) → has empty e ≡ false
  pub of_full : (n e : ℕ) → has (full n) e ≡ ltb e n
  pub of_single : (n d e : ℕ) → has (single n d) e ≡ (ltb e n && eqb e d)
  pub of_union : (n s t e : ℕ) → has (union n s t) e ≡ (ltb e n && (has s e || has t e))
  pub of_intersection : (n s t e : ℕ) → has (intersection n s t) e ≡ (ltb e n && (has s e && has t e))
  pub of_difference : (n s t e : ℕ) → has (difference n s t) e ≡ (ltb e n && (has s e && not (has t e)))
  pub of_complement : (n s e : ℕ) → has (complement n s) e ≡ (ltb e n && not (has s e))
  pub of_image : (n : ℕ) (R : ℕ → ℕ → Bool) (s b : ℕ)
      → T (has (image n R s) b) ↔ ((b < n) × ((e : ℕ) × (e < n) × T (has s e) × T (R e b)))
  pub of_all_sources : (n : ℕ) (R : ℕ → ℕ → Bool) (s b : ℕ)
      → T (has (all_sources n R s) b) ↔ ((b < n) × ((e : ℕ) → e < n → T (R e b) → T (has s e)))
  pub of_is_empty : (s : ℕ) → T (is_empty s) ↔ ((e : ℕ) → ¬ T (has s e))
  pub of_disjoint : (n s t : ℕ) → T (disjoint n s t) ↔ ((e : ℕ) → e < n → T (has s e) → ¬ T (has t e))
  pub of_included : (n s t : ℕ) → T (included n s t) ↔ ((e : ℕ) → e < n → T (has s e) → T (has t e))
  pub of_included_all : (n s t : ℕ) → s < 2 ^ n → T (included n s t) ↔ Included s t
  pub of_count : (n s : ℕ) → count n s ≡ length (filter (has s) (range_with_len 0 n))
  pub below : (n s : ℕ) → s < 2 ^ n ↔ ((e : ℕ) → T (has s e) → e < n)
  pub same_events : (n s t : ℕ) → s < 2 ^ n → t < 2 ^ n → ((e : ℕ) → e < n → has s e ≡ has t e) → s ≡ t

-- A section's pairs are its entries before the first zero. Assumes nothing.
use Rattle.std.proofs.Common.{rules, arith, ◌≡◌, ◌≤◌, refl, List, ℕ, length, not}
use Rattle.std.specs.Prelude.{◌==◌, position}
use Rattle.std.specs.List.{position_or_len}
use Rattle.std.specs.Option.{unwrap_or}
use Rattle.std.proofs.lemmas.Grind.{common_steps}
use Rattle.std.proofs.lemmas.List.Recursion.{is_position_or_len}
use Rattle.std.proofs.lemmas.List.Sums.{prefix_len-le-length}
use Rattle.report.specs.Text.{pair_count}

count_is : (xs : List ℕ) → pair_count xs ≡ position_or_len (λ x. x == 0) xs
unfolding pair_count
count_is = is_position_or_len pair_count (λ x. x == 0) refl (λ x xs. search rules)

pub counted : (xs : List ℕ) → unwrap_or (position (λ x. x == 0) xs) (length xs) ≡ pair_count xs
counted xs = rw (count_is xs) (grind (arith, common_steps, prefix_len-le-length (λ x. not (x == 0)) xs))

-- a section has no more pairs than entries
pub count_within : (xs : List ℕ) → pair_count xs ≤ length xs
count_within xs = rw (count_is xs) (prefix_len-le-length (λ x. not (x == 0)) xs)

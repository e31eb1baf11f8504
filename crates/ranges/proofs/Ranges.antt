-- The tests on targets and operands, as the code goes through them.
-- Assumes nothing.
use Rattle.std.proofs.Common.{◌≡◌, refl, ap, ◌∙◌, ◌||◌, List, [], ◌∷◌, ℕ, ◌+◌, add-one}
use Rattle.std.specs.List.{list_any, enumerate_from}
use Rattle.ranges.specs.Ranges.{wrong_target, wrong_targets}

-- some target of those at i, i + 1, .. is wrong
pub wrong_any : (n i : ℕ) (ts : List ℕ)
    → list_any (λ p. wrong_target n p.0 p.1) (enumerate_from i ts) ≡ wrong_targets n i ts
unfolding wrong_targets
wrong_any n i [] = refl
wrong_any n i (t ∷ ts) =
    ap (λ x. wrong_target n i t || x) (wrong_any n (i + 1) ts ∙ ap (λ k. wrong_targets n k ts) (add-one i))

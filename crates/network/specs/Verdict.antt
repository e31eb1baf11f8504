-- The verdict on a model: nodes in order, at each first 12, then the flag, then 11; it stops at the first node that
-- gives anything. Document 01, "Refusal numbers". Assumes nothing.
use Rattle.std.specs.Prelude.{Bool, false, ◌||◌, cond, List, [], ◌∷◌, ℕ, suc, ltb, length}
use Rattle.events.specs.Sets.{is_empty}
use Rattle.network.specs.Network.{Network, leaf, join, hide, rename}
use Rattle.network.specs.Model.{Model, networks, bound}
use Rattle.network.specs.Loops.{any_of}
use Rattle.network.specs.Lists.{first_of, list_of, flag_of}

-- pass with the bound, inconclusive with the node, or refused with the number and the place
pub data Verdict : Type 0 where
  pass : ℕ → Verdict
  inconclusive : ℕ → Verdict
  refused : ℕ → ℕ → Verdict

-- the most pairs that a node's list may have
abbrev pub most_pairs : ℕ
most_pairs = 256

-- a pair with empty first set is in the list
unfoldable pub has_empty_first : List ℕ → Bool
has_empty_first xs = any_of (λ x. is_empty (first_of x)) xs

-- 12: a pair with empty first set is in an operand's list
unfoldable pub operand_empty : ℕ → Network → Bool
operand_empty n (leaf m) = false
operand_empty n (join a b A) = has_empty_first (list_of n a) || has_empty_first (list_of n b)
operand_empty n (hide a A) = has_empty_first (list_of n a)
operand_empty n (rename a f) = has_empty_first (list_of n a)

-- 11: the list at the node has more than 256 pairs
unfoldable pub is_over : ℕ → Network → Bool
is_over n t = ltb most_pairs (length (list_of n t))

-- the verdict from node k on, whose networks are ts, where nothing came before it and the bound is b
unfoldable pub verdict_from : ℕ → ℕ → ℕ → List Network → Verdict
verdict_from n b k [] = pass b
verdict_from n b k (t ∷ ts) =
    cond (operand_empty n t) (refused 12 k)
    (cond (flag_of n t) (inconclusive k)
    (cond (is_over n t) (refused 11 k) (verdict_from n b (suc k) ts)))

unfoldable pub verdict : Model → Verdict
verdict M = verdict_from M.events (bound M) 0 (networks M)

-- How long a node's line is at most. Assumes nothing.
use Rattle.std.proofs.Common.{Bool, true, false, cond, [], ◌∷◌, ℕ, ◌≤◌, ◌<◌, arith, eqb, length, length-append}
use Rattle.records.specs.Kinds.{leaf_kind, join_kind, hide_kind, rename_kind}
use Rattle.report.specs.Text.{kind_name, line, node_line}
use Rattle.report.proofs.Digits.{short_32, short_64}

-- a kind's name has at most six letters
pub kind_short : (kind : ℕ) → length (kind_name kind) ≤ 6
unfolding kind_name
kind_short kind =
    at (eqb kind leaf_kind) (eqb kind join_kind) (eqb kind hide_kind) (eqb kind rename_kind)
  where
    at : (a b c d : Bool) → length {A = ℕ}
        (cond a (108 ∷ 101 ∷ 97 ∷ 102 ∷ [])
        (cond b (106 ∷ 111 ∷ 105 ∷ 110 ∷ [])
        (cond c (104 ∷ 105 ∷ 100 ∷ 101 ∷ [])
        (cond d (114 ∷ 101 ∷ 110 ∷ 97 ∷ 109 ∷ 101 ∷ []) [])))) ≤ 6
    at true b c d = omega arith
    at false true c d = omega arith
    at false false true d = omega arith
    at false false false true = omega arith
    at false false false false = omega arith

-- a node's line has at most 39 bytes
pub node_short : (k kind pairs : ℕ) → k < 4294967296 → pairs < 18446744073709551616
    → length (node_line k kind pairs) ≤ 40
unfolding node_line line
node_short k kind pairs h l =
    let a = short_32 k h in
    let b = short_64 pairs l in
    let d = kind_short kind in
    simp length-append (omega arith)

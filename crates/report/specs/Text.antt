-- The lines of the printed result, in bytes. Document 01, "The printed result". Assumes nothing.
use Rattle.std.specs.Prelude.{cond, List, [], ◌∷◌, ◌++◌, ℕ, zero, suc, ◌+◌, ◌-◌, ◌/◌, ◌%◌, ltb, eqb, length}
use Rattle.network.specs.Lists.{first_of, second_of}
use Rattle.network.specs.Verdict.{Verdict, pass, inconclusive, refused}
use Rattle.records.specs.Kinds.{leaf_kind, join_kind, hide_kind, rename_kind}
use Rattle.filling.specs.Building.{zeros}

-- the decimal digit d
abbrev pub decimal_digit : ℕ → ℕ
decimal_digit d = 48 + d

-- the decimal digits of n, the last one split off at most `fuel` times
unfoldable pub decimal_in : ℕ → ℕ → List ℕ
decimal_in zero n = decimal_digit n ∷ []
decimal_in (suc fuel) n =
    cond (ltb n 10) (decimal_digit n ∷ []) (decimal_in fuel (n / 10) ++ (decimal_digit (n % 10) ∷ []))

-- the number n: its decimal digits without leading zeros, of which it has no more than n + 1
unfoldable pub decimal : ℕ → List ℕ
decimal n = decimal_in n n

-- the lower-case hex digit d
unfoldable pub hex_digit : ℕ → ℕ
hex_digit d = cond (ltb d 10) (48 + d) (87 + d)

-- a set's number: its last four hex digits, and a set of 16 events has no more
unfoldable pub hex : ℕ → List ℕ
hex n = hex_digit (n / 4096 % 16) ∷ hex_digit (n / 256 % 16) ∷ hex_digit (n / 16 % 16) ∷ hex_digit (n % 16) ∷ []

-- `pass`, `inconclusive` and `refused`
abbrev pub pass_word : List ℕ
pass_word = 112 ∷ 97 ∷ 115 ∷ 115 ∷ []

abbrev pub inconclusive_word : List ℕ
inconclusive_word = 105 ∷ 110 ∷ 99 ∷ 111 ∷ 110 ∷ 99 ∷ 108 ∷ 117 ∷ 115 ∷ 105 ∷ 118 ∷ 101 ∷ []

abbrev pub refused_word : List ℕ
refused_word = 114 ∷ 101 ∷ 102 ∷ 117 ∷ 115 ∷ 101 ∷ 100 ∷ []

-- the name of a node's kind: `leaf`, `join`, `hide` or `rename`; no letters for any other number
unfoldable pub kind_name : ℕ → List ℕ
kind_name kind =
    cond (eqb kind leaf_kind) (108 ∷ 101 ∷ 97 ∷ 102 ∷ [])
    (cond (eqb kind join_kind) (106 ∷ 111 ∷ 105 ∷ 110 ∷ [])
    (cond (eqb kind hide_kind) (104 ∷ 105 ∷ 100 ∷ 101 ∷ [])
    (cond (eqb kind rename_kind) (114 ∷ 101 ∷ 110 ∷ 97 ∷ 109 ∷ 101 ∷ []) [])))

-- a line: its words with a space between two of them, then a line feed
unfoldable pub line : List (List ℕ) → List ℕ
line [] = 10 ∷ []
line (w ∷ []) = w ++ (10 ∷ [])
line (w ∷ v ∷ ws) = w ++ (32 ∷ line (v ∷ ws))

-- the first line: verdict and bound; otherwise `inconclusive` and the node, or `refused`, the number and the place
unfoldable pub first_line : Verdict → List ℕ
first_line (pass b) = line (pass_word ∷ decimal b ∷ [])
first_line (inconclusive k) = line (inconclusive_word ∷ decimal k ∷ [])
first_line (refused number place) = line (refused_word ∷ decimal number ∷ decimal place ∷ [])

-- a node's line: its number, kind and number of pairs
unfoldable pub node_line : ℕ → ℕ → ℕ → List ℕ
node_line k kind pairs = line (decimal k ∷ kind_name kind ∷ decimal pairs ∷ [])

-- a pair's line: of the entry x F, then C
unfoldable pub pair_line : ℕ → List ℕ
pair_line x = line (hex (first_of x) ∷ hex (second_of x) ∷ [])

-- how many pairs a section has: its entries before the first zero
unfoldable pub pair_count : List ℕ → ℕ
pair_count [] = 0
pair_count (x ∷ xs) = cond (eqb x 0) 0 (suc (pair_count xs))

-- the most bytes that a line has, its line feed included
abbrev pub longest : ℕ
longest = 40

-- a line's text t in an array of 40 bytes: t, then zeros
unfoldable pub framed : List ℕ → List ℕ
framed t = t ++ zeros (longest - length t)

-- Sets of events, and every operation on them, by membership. Document 01: a set is a number with bit i for event i
-- ("The model file"); the operations are those of "The rules for pairs and flags". Each operation names n, the number
-- of events, and gives a set of events below n. Assumes nothing.
use Rattle.std.specs.Prelude.{Bool, true, false, not, ◌&&◌, ◌||◌, ℕ, zero, suc, ◌+◌, ◌*◌, ◌/◌, ◌%◌, T, eqb}

-- how many events the machine's set type has room for
abbrev pub room : ℕ
room = 32

-- event e is in s: bit e of the number s
unfoldable pub has : ℕ → ℕ → Bool
has s zero = eqb (s % 2) 1
has s (suc e) = has (s / 2) e

-- a Boolean as a binary digit
abbrev pub digit : Bool → ℕ
digit true = 1
digit false = 0

-- the set of the events e below n with p e
unfoldable pub set_of : ℕ → (ℕ → Bool) → ℕ
set_of zero p = 0
set_of (suc n) p = digit (p zero) + 2 * set_of n (λ e. p (suc e))

-- some e below n has p e
unfoldable pub any_below : ℕ → (ℕ → Bool) → Bool
any_below zero p = false
any_below (suc n) p = p n || any_below n p

-- the empty set, and the test for it
abbrev pub empty : ℕ
empty = 0

abbrev pub is_empty : ℕ → Bool
is_empty s = eqb s empty

-- the full set of n events, called Σ in document 01
abbrev pub full : ℕ → ℕ
full n = set_of n (λ e. true)

-- the set of the one event d; empty if d is not below n
abbrev pub single : ℕ → ℕ → ℕ
single n d = set_of n (λ e. eqb e d)

-- s ∪ t
abbrev pub union : ℕ → ℕ → ℕ → ℕ
union n s t = set_of n (λ e. has s e || has t e)

-- s ∩ t
abbrev pub intersection : ℕ → ℕ → ℕ → ℕ
intersection n s t = set_of n (λ e. has s e && has t e)

-- s − t
abbrev pub difference : ℕ → ℕ → ℕ → ℕ
difference n s t = set_of n (λ e. has s e && not (has t e))

-- Σ − s
abbrev pub complement : ℕ → ℕ → ℕ
complement n s = difference n (full n) s

-- s and t have no event below n in common
abbrev pub disjoint : ℕ → ℕ → ℕ → Bool
disjoint n s t = is_empty (intersection n s t)

-- every event of s below n is in t; and the same as a fact, of all events
abbrev pub included : ℕ → ℕ → ℕ → Bool
included n s t = is_empty (difference n s t)

unfoldable pub Included : ℕ → ℕ → Type 0
Included s t = (e : ℕ) → T (has s e) → T (has t e)

-- how many events below n are in s
unfoldable pub count : ℕ → ℕ → ℕ
count zero s = 0
count (suc n) s = digit (has s n) + count n s

-- the image of s under a relation between events: the events b that some event of s is related to
abbrev pub image : ℕ → (ℕ → ℕ → Bool) → ℕ → ℕ
image n R s = set_of n (λ b. any_below n (λ e. has s e && R e b))

-- the events b all of whose sources under the relation, the events e below n related to b, lie in s
abbrev pub all_sources : ℕ → (ℕ → ℕ → Bool) → ℕ → ℕ
all_sources n R s = set_of n (λ b. not (any_below n (λ e. R e b && not (has s e))))

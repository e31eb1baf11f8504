-- Each operation of the set type is settled by its contract: two results that meet it are equal.
-- Assumes nothing.
use Rattle.std.proofs.Common.{◌≡◌, sym, ◌∙◌, Bool, ℕ, min}
use Rattle.events.specs.Sets.{room, has, full, single, union, intersection, difference, complement}
use Rattle.events.specs.Sets.{disjoint, included, is_empty, count}

pub settled : {A : Type 0} {x r r' : A} → r ≡ x → r' ≡ x → r ≡ r'
settled p q = p ∙ sym q

pub from_bits_unique : (bits r r' : ℕ) → r ≡ bits → r' ≡ bits → r ≡ r'
from_bits_unique bits r r' p q = settled p q

pub bits_unique : (s r r' : ℕ) → r ≡ s → r' ≡ s → r ≡ r'
bits_unique s r r' p q = settled p q

pub full_unique : (n r r' : ℕ) → r ≡ full (min n room) → r' ≡ full (min n room) → r ≡ r'
full_unique n r r' p q = settled p q

pub single_unique : (e r r' : ℕ) → r ≡ single room e → r' ≡ single room e → r ≡ r'
single_unique e r r' p q = settled p q

pub union_unique : (s t r r' : ℕ) → r ≡ union room s t → r' ≡ union room s t → r ≡ r'
union_unique s t r r' p q = settled p q

pub intersection_unique : (s t r r' : ℕ) → r ≡ intersection room s t → r' ≡ intersection room s t → r ≡ r'
intersection_unique s t r r' p q = settled p q

pub difference_unique : (s t r r' : ℕ) → r ≡ difference room s t → r' ≡ difference room s t → r ≡ r'
difference_unique s t r r' p q = settled p q

pub complement_unique : (n s r r' : ℕ) → r ≡ complement (min n room) s → r' ≡ complement (min n room) s → r ≡ r'
complement_unique n s r r' p q = settled p q

pub contains_unique : (s e : ℕ) (r r' : Bool) → r ≡ has s e → r' ≡ has s e → r ≡ r'
contains_unique s e r r' p q = settled p q

pub is_included_unique : (s t : ℕ) (r r' : Bool) → r ≡ included room s t → r' ≡ included room s t → r ≡ r'
is_included_unique s t r r' p q = settled p q

pub is_disjoint_unique : (s t : ℕ) (r r' : Bool) → r ≡ disjoint room s t → r' ≡ disjoint room s t → r ≡ r'
is_disjoint_unique s t r r' p q = settled p q

pub is_empty_unique : (s : ℕ) (r r' : Bool) → r ≡ is_empty s → r' ≡ is_empty s → r ≡ r'
is_empty_unique s r r' p q = settled p q

pub count_unique : (s r r' : ℕ) → r ≡ count room s → r' ≡ count room s → r ≡ r'
count_unique s r r' p q = settled p q

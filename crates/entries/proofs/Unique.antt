-- Each operation is settled by its contract: two results that meet it are equal. Assumes nothing.
use Rattle.std.proofs.Common.{◌≡◌, Bool, List, ℕ}
use Rattle.events.specs.Sets.{image, all_sources}
use Rattle.events.proofs.Unique.{settled}
use Rattle.network.specs.Network.{sends}
use Rattle.network.specs.Lists.{pack, first_of, second_of, hide_candidate, rename_candidate}
use Rattle.entries.specs.Entries.{width, narrow, Together, Alone}

pub entry_of_unique : (F C r r' : ℕ) → r ≡ pack (narrow F) (narrow C) → r' ≡ pack (narrow F) (narrow C) → r ≡ r'
entry_of_unique F C r r' p q = settled p q

pub first_of_unique : (x r r' : ℕ) → r ≡ first_of x → r' ≡ first_of x → r ≡ r'
first_of_unique x r r' p q = settled p q

pub second_of_unique : (x r r' : ℕ) → r ≡ second_of x → r' ≡ second_of x → r ≡ r'
second_of_unique x r r' p q = settled p q

pub together_unique : (A x y : ℕ) (k k' : Bool) (r r' : ℕ) → Together A x y k r → Together A x y k' r' → (k ≡ k')
    × (r ≡ r')
together_unique A x y k k' r r' p q = (settled p.kept_is q.kept_is, settled p.entry_is q.entry_is)

pub alone_unique : (A x : ℕ) (k k' : Bool) (r r' : ℕ) → Alone A x k r → Alone A x k' r' → (k ≡ k') × (r ≡ r')
alone_unique A x k k' r r' p q = (settled p.kept_is q.kept_is, settled p.entry_is q.entry_is)

pub hidden_unique : (A x r r' : ℕ) → r ≡ hide_candidate width A x → r' ≡ hide_candidate width A x → r ≡ r'
hidden_unique A x r r' p q = settled p q

pub image_of_unique : (f : List ℕ) (s r r' : ℕ) → r ≡ image width (sends f) s → r' ≡ image width (sends f) s → r ≡ r'
image_of_unique f s r r' p q = settled p q

pub all_sources_unique : (f : List ℕ) (s r r' : ℕ) → r ≡ all_sources width (sends f) s
    → r' ≡ all_sources width (sends f) s → r ≡ r'
all_sources_unique f s r r' p q = settled p q

pub renamed_unique : (f : List ℕ) (x r r' : ℕ)
    → r ≡ rename_candidate width f x → r' ≡ rename_candidate width f x → r ≡ r'
renamed_unique f x r r' p q = settled p q

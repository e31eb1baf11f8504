-- The image of a set under a rename's targets, source by source as the code goes; and the events all of whose sources
-- lie in a set, as the complement of an image. Assumes nothing.
use Rattle.std.proofs.Common.{◌≡◌, refl, ap₂, Bool, true, false, not, ◌&&◌, List, ℕ}
use Rattle.std.proofs.Common.{◌+◌, ◌<◌, add-one, eqb, length}
use Rattle.std.proofs.Common.{get_or}
use Rattle.std.proofs.lemmas.List.{get_or_default}
use Rattle.events.specs.Sets.{room, has, set_of, any_below, full, single, union, complement, image, all_sources}
use Rattle.events.proofs.Members.{set_of_has, set_of_empty, set_of_ext, any_ext}
use Rattle.events.proofs.Booleans.{eqb_sym, or_swap, and_swap}
use Rattle.network.specs.Network.{sends}
use Rattle.network.specs.Lists.{pack, first_of, second_of, rename_candidate}
use Rattle.entries.specs.Entries.{width, narrow}
use Rattle.entries.proofs.Entries.{narrow_set_of, narrow_keeps}

-- the targets of the events of s below k
unfoldable pub sent_below : ℕ → List ℕ → ℕ → ℕ
sent_below k f s = set_of room (λ b. any_below k (λ e. has s e && sends f e b))

pub sent_none : (f : List ℕ) (s : ℕ) → sent_below 0 f s ≡ 0
unfolding sent_below any_below
sent_none f s = set_of_empty room (λ b. false) (λ e l t. t)

-- event k is not in s
pub sent_skip : (k : ℕ) (f : List ℕ) (s : ℕ) → has s k ≡ false → sent_below (k + 1) f s ≡ sent_below k f s
unfolding sent_below any_below
sent_skip k f s q = rw (add-one k) (set_of_ext room _ _ (λ b l. rw q))

-- event k is in s
pub sent_more : (k : ℕ) (f : List ℕ) (s : ℕ) → k < length f → has s k ≡ true
    → sent_below (k + 1) f s ≡ union room (sent_below k f s) (single room (get_or f k 0))
unfolding sent_below any_below
sent_more k f s l q =
    rw (add-one k)
    (set_of_ext room _ _
    (λ b i.
    rw (
      q,
      set_of_has room (λ b. any_below k (λ e. has s e && sends f e b)) b i,
      set_of_has room (λ e. eqb e (get_or f k 0)) b i,
      eqb_sym b (get_or f k 0),
      ← get_or_default f k k 0 l,
    )
    (or_swap (sends f k b) (any_below k (λ e. has s e && sends f e b)))))

-- every source is passed
pub sent_all : (k : ℕ) (f : List ℕ) (s : ℕ) → k ≡ width → narrow (sent_below k f s) ≡ image width (sends f) s
unfolding sent_below
sent_all k f s q = rw q (narrow_set_of (λ b. any_below width (λ e. has s e && sends f e b)))

pub ruleset sent_steps = (sent_none, sent_skip, sent_more, sent_all)

-- all sources of b lie in s exactly if b is not in the image of the complement of s
pub all_sources_is : (n : ℕ) (R : ℕ → ℕ → Bool) (s : ℕ) → complement n (image n R (complement n s)) ≡ all_sources n R s
all_sources_is n R s =
    set_of_ext n _ _
    (λ b l.
    rw (
      set_of_has n (λ e. true) b l,
      set_of_has n (λ b. any_below n (λ e. has (complement n s) e && R e b)) b l,
      any_ext n (λ e. has (complement n s) e && R e b) (λ e. R e b && not (has s e)) (λ e i. outside b e i),
    )
    refl)
  where
    outside : (b e : ℕ) → e < n → (has (complement n s) e && R e b) ≡ (R e b && not (has s e))
    outside b e i =
        rw (set_of_has n (λ e. has (full n) e && not (has s e)) e i, set_of_has n (λ e. true) e i)
        (and_swap (not (has s e)) (R e b))

-- rename
pub renamed_is : (f : List ℕ) (x : ℕ)
    → pack (narrow (image width (sends f) (first_of x))) (narrow (all_sources width (sends f) (second_of x)))
    ≡ rename_candidate width f x
unfolding rename_candidate
renamed_is f x = ap₂ pack (narrow_keeps _) (narrow_keeps _)

-- What each operation on sets has as its members, over n.
-- Assumes nothing.
use Rattle.std.proofs.Common.{◌≡◌, Bool, true, not, ◌&&◌, ◌||◌, ◌⊎◌, ⊎_elim, inl, inr, ℕ, ◌<◌, T, T_not}
use Rattle.std.proofs.lemmas.Bool.{cases_Bool}
use lib.Dec.{not_T}
use mir.Facts.{and_yes, yes_and, or_yes}
use Rattle.events.specs.Sets.{has, any_below, empty, full, union, intersection, difference, complement}
use Rattle.events.specs.Sets.{image, all_sources, Included}
use Rattle.events.proofs.Booleans.{or_left, or_right}
use Rattle.events.proofs.Members.{set_of_out, set_of_in, set_of_empty, any_in, any_out}
use Rattle.events.proofs.Machine.{has_empty}

pub included_refl : (s : ℕ) → Included s s
unfolding Included
included_refl s e h = h

module _ (n s t e : ℕ) where
  pub union_out : T (has (union n s t) e) → T (has s e) ⊎ T (has t e)
  union_out h = or_yes (has s e) (has t e) (set_of_out n (λ e. has s e || has t e) e h)

  pub union_in : e < n → T (has s e) ⊎ T (has t e) → T (has (union n s t) e)
  union_in l h =
      set_of_in n (λ e. has s e || has t e) e l (⊎_elim (or_left (has s e) (has t e)) (or_right (has s e) (has t e)) h)

  pub intersection_out : T (has (intersection n s t) e) → T (has s e) × T (has t e)
  intersection_out h = and_yes (has s e) (has t e) (set_of_out n (λ e. has s e && has t e) e h)

  pub intersection_in : e < n → T (has s e) → T (has t e) → T (has (intersection n s t) e)
  intersection_in l h k = set_of_in n (λ e. has s e && has t e) e l (yes_and (has s e) (has t e) h k)

  pub difference_out : T (has (difference n s t) e) → T (has s e) × (T (has t e) → ⊥)
  difference_out h =
      let r = and_yes (has s e) (not (has t e)) (set_of_out n (λ e. has s e && not (has t e)) e h) in
      (r.0, T_not (has t e) r.1)

  pub difference_in : e < n → T (has s e) → (T (has t e) → ⊥) → T (has (difference n s t) e)
  difference_in l h k =
      set_of_in n (λ e. has s e && not (has t e)) e l (yes_and (has s e) (not (has t e)) h (not_T (has t e) k))

pub full_in : (n e : ℕ) → e < n → T (has (full n) e)
full_in n e l = set_of_in n (λ e. true) e l tt

pub complement_out : (n s e : ℕ) → T (has (complement n s) e) → T (has s e) → ⊥
complement_out n s e h = (difference_out n (full n) s e h).1

pub complement_in : (n s e : ℕ) → e < n → (T (has s e) → ⊥) → T (has (complement n s) e)
complement_in n s e l h = difference_in n (full n) s e l (full_in n e l) h

-- s ∩ t is empty exactly if no event below n is in both
pub intersection_empty_in : (n s t : ℕ) → ((e : ℕ) → e < n → T (has s e) → T (has t e) → ⊥) → intersection n s t ≡ empty
intersection_empty_in n s t h =
    set_of_empty n (λ e. has s e && has t e) (λ e l g. let r = and_yes (has s e) (has t e) g in h e l r.0 r.1)

pub intersection_empty_out : (n s t : ℕ) → intersection n s t ≡ empty → (e : ℕ) → e < n → T (has s e) → T (has t e) → ⊥
intersection_empty_out n s t q e l h k = rw (q, has_empty e) at (intersection_in n s t e l h k)

module _ (n : ℕ) (R : ℕ → ℕ → Bool) (s b : ℕ) where
  pub image_out : T (has (image n R s) b) → (e : ℕ) × (e < n) × T (has s e) × T (R e b)
  image_out h =
      let r = any_out n (λ e. has s e && R e b) (set_of_out n (λ b. any_below n (λ e. has s e && R e b)) b h) in
      let g = and_yes (has s r.0) (R r.0 b) r.2 in
      (r.0, r.1, g.0, g.1)

  pub image_in : b < n → (e : ℕ) → e < n → T (has s e) → T (R e b) → T (has (image n R s) b)
  image_in l e i h k =
      set_of_in n (λ b. any_below n (λ e. has s e && R e b)) b l
      (any_in n (λ e. has s e && R e b) e i (yes_and (has s e) (R e b) h k))

  pub all_sources_out : T (has (all_sources n R s) b) → (e : ℕ) → e < n → T (R e b) → T (has s e)
  all_sources_out h e i k =
      elim (cases_Bool (has s e)) [
        | inl q ↦ rw q tt
        | inr q ↦ absurd (T_not (any_below n (λ e. R e b && not (has s e)))
            (set_of_out n (λ b. not (any_below n (λ e. R e b && not (has s e)))) b h)
            (any_in n (λ e. R e b && not (has s e)) e i (yes_and (R e b) (not (has s e)) k (rw q tt))))
      ]

  pub all_sources_in : b < n → ((e : ℕ) → e < n → T (R e b) → T (has s e)) → T (has (all_sources n R s) b)
  all_sources_in l h =
      set_of_in n (λ b. not (any_below n (λ e. R e b && not (has s e)))) b l
      (not_T (any_below n (λ e. R e b && not (has s e))) none)
    where
      none : T (any_below n (λ e. R e b && not (has s e))) → ⊥
      none t =
          let r = any_out n (λ e. R e b && not (has s e)) t in
          let g = and_yes (R r.0 b) (not (has s r.0)) r.2 in
          T_not (has s r.0) g.1 (h r.0 r.1 g.0)

-- What is true of every listed pair: its sets are of events below n, its C is Σ−F, and its F is not empty where no flag
-- is up at or below the node. So the rules' own pairs cover. Assumes nothing.
use Rattle.std.proofs.Common.{◌≡◌, sym, ◌∙◌, Bool, true, false, ◌≢◌, ◌⊎◌, inl, inr, ℕ, ◌<◌, ◌^◌, T}
use lib.Dec.{eqb_refl}
use Rattle.events.specs.Sets.{has, empty, union, intersection, difference, complement, image, all_sources}
use Rattle.events.proofs.Members.{member_nonzero, nonzero_member, member_below, below_of_members, set_of_below}
use Rattle.events.proofs.Members.{members_ext}
use Rattle.events.proofs.Operations.{included_refl, union_out, union_in, intersection_in}
use Rattle.events.proofs.Operations.{difference_out, difference_in, complement_out, complement_in}
use Rattle.events.proofs.Operations.{intersection_empty_in, intersection_empty_out, image_out, image_in, all_sources_out}
use Rattle.events.proofs.Operations.{all_sources_in}
use Rattle.network.specs.Network.{Network, leaf, join, hide, rename, target, sends, TargetsBelow, Formed}
use Rattle.network.specs.Walks.{ClosedWalk, Exactly}
use Rattle.network.specs.Rules.{Loop, LeafRule, joined_c, Together, Alone, JoinRule, HideFlag, HideRule}
use Rattle.network.specs.Rules.{RenameRule, Listed, Flag, Clear}
use Rattle.network.specs.Covering.{Inside, CoversRule, Covers, covers_leaf, covers_join, covers_hide}
use Rattle.network.specs.Covering.{covers_rename}
use Rattle.network.proofs.Projection.{occurs_below}

module _ (n : ℕ) where
  -- the F of a listed pair has only events below n
  pub listed_below : (t : Network) → Formed n t → (F C : ℕ) → Listed n t F C → F < 2 ^ n
  unfolding Listed LeafRule Loop ClosedWalk Exactly JoinRule Together Alone HideRule RenameRule Formed
  listed_below (leaf m) w F C (z, (s, ls, c, (long, v), ex), q) =
      below_of_members n F (λ e h. occurs_below n (leaf m) w e ls s s v ((ex e).0 h))
  listed_below (join a b A) w F C (inl (F₁, C₁, F₂, C₂, x, y, p, q, z)) = rw p (set_of_below n _)
  listed_below (join a b A) w F C (inr (inl (x, z))) = listed_below a w.0 F C x
  listed_below (join a b A) w F C (inr (inr (x, z))) = listed_below b w.1 F C x
  listed_below (hide a A) w F C (F', C', x, p, q) = rw p (set_of_below n _)
  listed_below (rename a f) w F C (F', C', x, p, q) = rw p (set_of_below n _)

  -- where no flag is up at or below the node, no listed pair has an empty F
  pub never_empty : (t : Network) → Formed n t → Clear n t → (F C : ℕ) → Listed n t F C → F ≢ empty
  unfolding Listed LeafRule JoinRule Together Alone HideRule RenameRule Clear Flag HideFlag Formed TargetsBelow
  never_empty (leaf m) w h F C (z, l, q) e = z e
  never_empty (join a b A) w h F C (inl (F₁, C₁, F₂, C₂, x, y, p, q, z)) e =
      let r = nonzero_member F₁ (never_empty a w.0 h.0 F₁ C₁ x) in
      let l = member_below n F₁ r.0 (listed_below a w.0 F₁ C₁ x) r.1 in
      member_nonzero (union n F₁ F₂) r.0 (union_in n F₁ F₂ r.0 l (inl r.1)) (sym p ∙ e)
  never_empty (join a b A) w h F C (inr (inl (x, z))) e = never_empty a w.0 h.0 F C x e
  never_empty (join a b A) w h F C (inr (inr (x, z))) e = never_empty b w.1 h.1 F C x e
  never_empty (hide a A) w h F C (F', C', x, p, q) e = h.1 (F', C', x, sym p ∙ e)
  never_empty (rename a f) w h F C (F', C', x, p, q) e =
      let r = nonzero_member F' (never_empty a w.0 h.0 F' C' x) in
      let l = member_below n F' r.0 (listed_below a w.0 F' C' x) r.1 in
      let b = target f r.0 in
      member_nonzero (image n (sends f) F') b
      (image_in n (sends f) F' b (w.1 r.0 l) r.0 l r.1 (eqb_refl b)) (sym p ∙ e)

  -- two sets of events below n that are each other's complement there
  Complements : ℕ → ℕ → Type 0
  Complements F C = (e : ℕ) → e < n → (T (has C e) → T (has F e) → ⊥) × ((T (has F e) → ⊥) → T (has C e))

  complements : (F C : ℕ) → C < 2 ^ n → Complements F C → C ≡ complement n F
  unfolding Complements
  complements F C l h =
      members_ext n C (complement n F) l (set_of_below n _)
      (λ e i k. complement_in n F e i ((h e i).0 k)) (λ e i k. (h e i).1 (complement_out n F e k))

  complement_complements : (F : ℕ) → Complements F (complement n F)
  unfolding Complements
  complement_complements F e l = (complement_out n F e, complement_in n F e l)

  has_or_not : (s e : ℕ) → T (has s e) ⊎ (T (has s e) → ⊥)
  has_or_not s e = step (has s e)
    where
      step : (b : Bool) → T b ⊎ (T b → ⊥)
      step true = inl tt
      step false = inr (λ t. t)

  -- a join's clause (a) lists only pairs of sides that agree on A, since F and C are disjoint
  join_complements : (A F₁ F₂ F C : ℕ) → F ≡ union n F₁ F₂ → C ≡ joined_c n A (complement n F₁) (complement n F₂)
      → intersection n F C ≡ empty → Complements F C
  unfolding Complements
  join_complements A F₁ F₂ F C p q z e l = (
    λ c f. intersection_empty_out n F C z e l f c,
    λ f. rw q (outside (λ h. f (rw p (union_in n F₁ F₂ e l (inl h)))) (λ h. f (rw p (union_in n F₁ F₂ e l (inr h))))
        (has_or_not A e)),
  )
    where
      C₁ : ℕ
      C₁ = complement n F₁

      C₂ : ℕ
      C₂ = complement n F₂

      outside : (T (has F₁ e) → ⊥) → (T (has F₂ e) → ⊥) → T (has A e) ⊎ (T (has A e) → ⊥)
          → T (has (joined_c n A C₁ C₂) e)
      outside f₁ f₂ (inl i) =
          union_in n (union n (intersection n C₁ A) (intersection n C₂ A))
          (intersection n (difference n C₁ A) (difference n C₂ A)) e l
          (inl (union_in n (intersection n C₁ A) (intersection n C₂ A) e l
          (inl (intersection_in n C₁ A e l (complement_in n F₁ e l f₁) i))))
      outside f₁ f₂ (inr i) =
          union_in n (union n (intersection n C₁ A) (intersection n C₂ A))
          (intersection n (difference n C₁ A) (difference n C₂ A)) e l
          (inr (intersection_in n (difference n C₁ A) (difference n C₂ A) e l
          (difference_in n C₁ A e l (complement_in n F₁ e l f₁) i)
          (difference_in n C₂ A e l (complement_in n F₂ e l f₂) i)))

  hide_complements : (A F' F C : ℕ) → F ≡ difference n F' A → C ≡ union n (complement n F') A → Complements F C
  unfolding Complements
  hide_complements A F' F C p q e l = (
    λ c f. apart (union_out n (complement n F') A e (rw q at c)) (difference_out n F' A e (rw p at f)),
    λ f. rw q (union_in n (complement n F') A e l (outside f (has_or_not A e))),
  )
    where
      apart : T (has (complement n F') e) ⊎ T (has A e) → T (has F' e) × (T (has A e) → ⊥) → ⊥
      apart (inl k) g = complement_out n F' e k g.0
      apart (inr k) g = g.1 k

      outside : (T (has F e) → ⊥) → T (has A e) ⊎ (T (has A e) → ⊥) → T (has (complement n F') e) ⊎ T (has A e)
      outside f (inl i) = inr i
      outside f (inr i) = inl (complement_in n F' e l (λ h. f (rw p (difference_in n F' A e l h i))))

  rename_complements : (R : ℕ → ℕ → Bool) (F' F C : ℕ) → F ≡ image n R F' → C ≡ all_sources n R (complement n F')
      → Complements F C
  unfolding Complements
  rename_complements R F' F C p q b l = (
    λ c f.
        let g = image_out n R F' b (rw p at f) in
        complement_out n F' g.0 (all_sources_out n R (complement n F') b (rw q at c) g.0 g.1 g.3) g.2,
    λ f. rw q (all_sources_in n R (complement n F') b l
        (λ e i k. complement_in n F' e i (λ h. f (rw p (image_in n R F' b l e i h k))))),
  )

  -- every listed pair has C = Σ−F
  pub listed_complement : (t : Network) (F C : ℕ) → Listed n t F C → C ≡ complement n F
  unfolding Listed LeafRule JoinRule Together Alone HideRule RenameRule
  listed_complement (leaf m) F C (z, l, q) = q
  listed_complement (join a b A) F C (inl (F₁, C₁, F₂, C₂, x, y, p, q, z)) =
      let c : C ≡ joined_c n A (complement n F₁) (complement n F₂) =
      rw (listed_complement a F₁ C₁ x, listed_complement b F₂ C₂ y) at q in
      complements F C (rw q (set_of_below n _)) (join_complements A F₁ F₂ F C p c z)
  listed_complement (join a b A) F C (inr (inl (x, z))) = listed_complement a F C x
  listed_complement (join a b A) F C (inr (inr (x, z))) = listed_complement b F C x
  listed_complement (hide a A) F C (F', C', x, p, q) =
      complements F C (rw q (set_of_below n _)) (hide_complements A F' F C p (rw (listed_complement a F' C' x) at q))
  listed_complement (rename a f) F C (F', C', x, p, q) =
      complements F C (rw q (set_of_below n _))
      (rename_complements (sends f) F' F C p (rw (listed_complement a F' C' x) at q))

  pub listed_disjoint : (t : Network) (F C : ℕ) → Listed n t F C → intersection n F C ≡ empty
  listed_disjoint t F C x =
      intersection_empty_in n F C (λ e l h k. complement_out n F e (rw (listed_complement t F C x) at k) h)

  itself : (t : Network) → Formed n t → Clear n t → CoversRule (Listed n t) (Listed n t)
  unfolding CoversRule Inside
  itself t w h = (λ F C x. (F, C, x, included_refl F, included_refl C), never_empty t w h)

  -- the rules' own pairs cover: each yielded pair is listed itself
  pub rules_cover : (t : Network) → Formed n t → Clear n t → Covers n t (Listed n t)
  unfolding Listed Clear Flag Formed
  rules_cover (leaf m) w h = covers_leaf h (itself (leaf m) w h)
  rules_cover (join a b A) w h =
      covers_join (rules_cover a w.0 h.0) (rules_cover b w.1 h.1) (itself (join a b A) w h)
  rules_cover (hide a A) w h = covers_hide (rules_cover a w.0 h.0) h.1 (itself (hide a A) w h)
  rules_cover (rename a f) w h = covers_rename (rules_cover a w.0 h.0) (itself (rename a f) w h)

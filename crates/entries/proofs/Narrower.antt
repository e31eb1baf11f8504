-- On entries of n events, n at most 16, the rules' candidates for 16 events are those for n.
-- Assumes nothing.
use Rattle.std.proofs.Common.{◌≡◌, refl, ap, ap₂, ◌∙◌, Bool, not, ◌&&◌, List, [], ◌∷◌, ◌++◌, map, ℕ, ◌^◌, ◌<◌}
use Rattle.std.proofs.Common.{◌≤◌, arith, T, eqb→eq, ne_eqb}
use mathlib.Core.List.{flat_map, Memᴰ}
use lib.Dec.{eqb_refl}
use mir.Facts.{and_yes, yes_and}
use Rattle.events.specs.Sets.{has, any_below, union, image, all_sources}
use Rattle.events.proofs.Members.{set_of_below, any_in, any_out, set_of_ext}
use Rattle.events.proofs.Machine.{has_beyond}
use Rattle.events.proofs.Widths.{set_of_widen, union_widen, difference_widen, disjoint_widen}
use Rattle.events.proofs.Widths.{any_widen}
use Rattle.events.proofs.Booleans.{yes_true, no_false}
use Rattle.network.specs.Network.{target, sends, TargetsBelow}
use Rattle.network.specs.Rules.{joined_c}
use Rattle.network.specs.Lists.{first_of, second_of, together_candidate, alone_candidate, join_candidates}
use Rattle.network.specs.Lists.{hide_candidate, rename_candidate}
use Rattle.entries.specs.Entries.{width, Inside, AllInside, KeepsOthers}
use Rattle.entries.proofs.Entries.{joined_widen}

module _ (n : ℕ) (n≤16 : n ≤ width) where
  together_narrower : (A x y : ℕ) → Inside n x → Inside n y
      → together_candidate width A x y ≡ together_candidate n A x y
  unfolding together_candidate
  together_narrower A x y p q =
      rw (
        union_widen n width (first_of x) (first_of y) n≤16 p.first_below q.first_below,
        joined_widen n width A (second_of x) (second_of y) n≤16 p.second_below q.second_below,
        disjoint_widen n width (union n (first_of x) (first_of y)) (joined_c n A (second_of x) (second_of y)) n≤16
            (set_of_below n _),
      )
      refl

  alone_narrower : (A x : ℕ) → Inside n x → alone_candidate width A x ≡ alone_candidate n A x
  unfolding alone_candidate
  alone_narrower A x p = rw (disjoint_widen n width (first_of x) A n≤16 p.first_below) refl

  hide_narrower : (A x : ℕ) → A < 2 ^ n → Inside n x → hide_candidate width A x ≡ hide_candidate n A x
  unfolding hide_candidate
  hide_narrower A x a p =
      rw (
        difference_widen n width (first_of x) A n≤16 p.first_below,
        union_widen n width (second_of x) A n≤16 p.second_below a,
      )
      refl

  module _ (f : List ℕ) (below : TargetsBelow n f) where
    image_narrower : (s : ℕ) → s < 2 ^ n → image width (sends f) s ≡ image n (sends f) s
    unfolding TargetsBelow
    image_narrower s h =
        set_of_ext width (λ b. any_below width (λ e. has s e && sends f e b))
        (λ b. any_below n (λ e. has s e && sends f e b))
        (λ b l. any_widen n width (λ e. has s e && sends f e b) n≤16
        (λ e i j. ap (λ (u : Bool). u && sends f e b) (has_beyond n s e h i)))
        ∙ set_of_widen n width (λ b. any_below n (λ e. has s e && sends f e b)) n≤16
        (λ b i j. no_false _ (λ t. beyond b i t))
      where
        beyond : (b : ℕ) → n ≤ b → T (any_below n (λ e. has s e && sends f e b)) → ⊥
        beyond b i t =
            let r = any_out n (λ e. has s e && sends f e b) t in
            let g = and_yes (has s r.0) (sends f r.0 b) r.2 in
            omega (arith, below r.0 r.1, eqb→eq (target f r.0) b g.1, i)

    sources_narrower : KeepsOthers n f → (s : ℕ) → s < 2 ^ n → all_sources width (sends f) s ≡ all_sources n (sends f) s
    unfolding KeepsOthers
    sources_narrower keeps s h =
        set_of_widen n width (λ b. not (any_below width (λ e. sends f e b && not (has s e)))) n≤16
        (λ b i j. ap not (yes_true (any_below width (λ e. sends f e b && not (has s e)))
        (any_in width (λ e. sends f e b && not (has s e)) b j (itself b i j))))
        ∙ set_of_ext n (λ b. not (any_below width (λ e. sends f e b && not (has s e))))
        (λ b. not (any_below n (λ e. sends f e b && not (has s e))))
        (λ b l. ap not (any_widen n width (λ e. sends f e b && not (has s e)) n≤16
        (λ e i j. ap (λ (u : Bool). u && not (has s e))
        (ne_eqb (target f e) b (λ q. omega (arith, keeps e i j, q, i, l))))))
      where
        itself : (b : ℕ) → n ≤ b → b < width → T (sends f b b && not (has s b))
        itself b i j =
            yes_and (sends f b b) (not (has s b)) (rw (keeps b i j) (eqb_refl b)) (rw (has_beyond n s b h i) tt)

    rename_narrower : KeepsOthers n f → (x : ℕ) → Inside n x → rename_candidate width f x ≡ rename_candidate n f x
    unfolding rename_candidate
    rename_narrower keeps x p =
        rw (image_narrower (first_of x) p.first_below, sources_narrower keeps (second_of x) p.second_below) refl

-- the same for all entries of a list
gather_ext : (f g : ℕ → List ℕ) (xs : List ℕ) → ((x : ℕ) → Memᴰ x xs → f x ≡ g x) → flat_map f xs ≡ flat_map g xs
unfolding flat_map
gather_ext f g [] h = refl
gather_ext f g (x ∷ xs) h = ap₂ ◌++◌ (h x (Memᴰ.head refl)) (gather_ext f g xs (λ y m. h y (Memᴰ.tail m)))

map_ext : (f g : ℕ → ℕ) (xs : List ℕ) → ((x : ℕ) → Memᴰ x xs → f x ≡ g x) → map f xs ≡ map g xs
map_ext f g [] h = refl
map_ext f g (x ∷ xs) h = ap₂ ◌∷◌ (h x (Memᴰ.head refl)) (map_ext f g xs (λ y m. h y (Memᴰ.tail m)))

module _ (n : ℕ) (n≤16 : n ≤ width) (xs : List ℕ) (p : AllInside n xs) where
  pub join_candidates_narrower : (A : ℕ) (ys : List ℕ) → AllInside n ys
      → join_candidates width A xs ys ≡ join_candidates n A xs ys
  unfolding join_candidates AllInside
  join_candidates_narrower A ys q =
      ap₂ ◌++◌
      (gather_ext (λ x. flat_map (together_candidate width A x) ys) (λ x. flat_map (together_candidate n A x) ys) xs
      (λ x m. gather_ext (together_candidate width A x) (together_candidate n A x) ys
      (λ y k. together_narrower n n≤16 A x y (p x m) (q y k))))
      (ap₂ ◌++◌
      (gather_ext (alone_candidate width A) (alone_candidate n A) xs (λ x m. alone_narrower n n≤16 A x (p x m)))
      (gather_ext (alone_candidate width A) (alone_candidate n A) ys (λ y m. alone_narrower n n≤16 A y (q y m))))

  pub hide_candidates_narrower : (A : ℕ) → A < 2 ^ n → map (hide_candidate width A) xs ≡ map (hide_candidate n A) xs
  unfolding AllInside
  hide_candidates_narrower A a =
      map_ext (hide_candidate width A) (hide_candidate n A) xs (λ x m. hide_narrower n n≤16 A x a (p x m))

  pub rename_candidates_narrower : (f : List ℕ) → TargetsBelow n f → KeepsOthers n f
      → map (rename_candidate width f) xs ≡ map (rename_candidate n f) xs
  unfolding AllInside
  rename_candidates_narrower f below keeps =
      map_ext (rename_candidate width f) (rename_candidate n f) xs
      (λ x m. rename_narrower n n≤16 f below keeps x (p x m))

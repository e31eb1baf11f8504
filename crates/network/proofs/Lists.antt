-- The two forms of the rules agree: the computed list has exactly the listed pairs, the computed flag is the rules'
-- flag. Assumes nothing.
use Rattle.std.proofs.Common.{◌≡◌, refl, ap, ◌∙◌, Bool, not, ◌&&◌, ◌≢◌, inl, inr, ⊎_elim, ◌↔◌, List, map, ℕ, ◌^◌}
use Rattle.std.proofs.Common.{◌<◌, ◌≤◌, T, T_not, eqb→eq}
use mathlib.Core.List.Memᴰ
use mathlib.Core.List.{flat_map}
use lib.Dec.{not_T, eqb_refl}
use mir.Facts.{and_yes, yes_and}
use Rattle.events.specs.Sets.{empty, is_empty, set_of, union, intersection, difference, complement, disjoint, included}
use Rattle.events.specs.Sets.{image, all_sources}
use Rattle.events.proofs.Members.{set_of_below}
use Rattle.network.specs.Machine.{Machine, MachineFormed}
use Rattle.network.specs.Network.{Network, leaf, join, hide, rename, sends, Formed}
use Rattle.network.specs.Rules.{Pairs, LeafRule, joined_c, Together, Alone, JoinRule, HideFlag, HideRule}
use Rattle.network.specs.Rules.{RenameRule, Listed, Flag}
use Rattle.network.specs.Loops.{any_of, loops}
use Rattle.network.specs.Lists.{pack, first_of, second_of, in_order, numbers_below, leaf_candidate}
use Rattle.network.specs.Lists.{together_candidate, alone_candidate, join_candidates, hide_candidate, rename_candidate}
use Rattle.network.specs.Lists.{list_of, flag_of, Ascending, IsListOf}
use Rattle.network.proofs.Packing.{first_pack, second_pack, pack_unpack, fits_half}
use Rattle.network.proofs.Sorting.{Mem, any_of_in, any_of_out, keep_out, keep_in, map_out, map_in, gather_out}
use Rattle.network.proofs.Sorting.{gather_in, number_in, number_out, in_order_out, in_order_in}
use Rattle.network.proofs.Sorting.{in_order_ascending, ascending_ext}
use Rattle.network.proofs.Listed.{listed_below, listed_complement}
use Rattle.network.proofs.Loops.{loops_in, loops_out, spins_in, spins_out}

module _ (n : ℕ) (n≤16 : n ≤ 16) where
  fits : (p : ℕ → Bool) → set_of n p < 2 ^ 16
  fits p = fits_half n (set_of n p) n≤16 (set_of_below n p)

  -- the C of a listed pair fits an entry's half
  listed_fits : (t : Network) (F C : ℕ) → Listed n t F C → C < 2 ^ 16
  listed_fits t F C x = rw (listed_complement n t F C x) (fits _)

  -- the sets of an entry that packs a pair whose C is a comprehension
  entry_first : (x F : ℕ) (p : ℕ → Bool) → x ≡ pack F (set_of n p) → first_of x ≡ F
  entry_first x F p q = ap first_of q ∙ first_pack F (set_of n p) (fits p)

  entry_second : (x F : ℕ) (p : ℕ → Bool) → x ≡ pack F (set_of n p) → second_of x ≡ set_of n p
  entry_second x F p q = ap second_of q ∙ second_pack F (set_of n p) (fits p)

  -- what each kind of candidate is, as a pair
  leaf_out : (m : Machine) (x L : ℕ) → L < 2 ^ n → Mem x (leaf_candidate n m L) → LeafRule n m (first_of x) (second_of x)
  unfolding leaf_candidate LeafRule
  leaf_out m x L l h =
      let k = keep_out (not (is_empty L) && loops n m L) (pack L (complement n L)) x h in
      let t = and_yes (not (is_empty L)) (loops n m L) k.0 in
      let ne : L ≢ empty = λ e. T_not (is_empty L) t.0 (rw e (eqb_refl 0)) in
      let p : first_of x ≡ L = entry_first x L _ k.1 in
      rw p (ne, loops_out m L n l ne t.1, entry_second x L _ k.1)

  leaf_in : (m : Machine) → MachineFormed n m → (F C : ℕ) → LeafRule n m F C → Mem (pack F C) (leaf_candidate n m F)
  unfolding leaf_candidate LeafRule
  leaf_in m w F C (z, loop, q) =
      rw q (keep_in (not (is_empty F) && loops n m F) (pack F (complement n F))
      (yes_and (not (is_empty F)) (loops n m F) (not_T (is_empty F) (λ t. z (eqb→eq F 0 t))) (loops_in m F n w loop)))

  together_out : (A x y z : ℕ) → Mem z (together_candidate n A x y)
      → (first_of z ≡ union n (first_of x) (first_of y)) × (second_of z ≡ joined_c n A (second_of x) (second_of y))
      × (intersection n (first_of z) (second_of z) ≡ empty)
  unfolding together_candidate
  together_out A x y z h =
      let F = union n (first_of x) (first_of y) in
      let C = joined_c n A (second_of x) (second_of y) in
      let k = keep_out (disjoint n F C) (pack F C) z h in
      let p : first_of z ≡ F = entry_first z F _ k.1 in
      let q : second_of z ≡ C = entry_second z F _ k.1 in
      (p, q, rw (p, q) (eqb→eq (intersection n F C) 0 k.0))

  together_in : (A F₁ C₁ F₂ C₂ : ℕ) → C₁ < 2 ^ 16 → C₂ < 2 ^ 16
      → intersection n (union n F₁ F₂) (joined_c n A C₁ C₂) ≡ empty
      → Mem (pack (union n F₁ F₂) (joined_c n A C₁ C₂)) (together_candidate n A (pack F₁ C₁) (pack F₂ C₂))
  unfolding together_candidate
  together_in A F₁ C₁ F₂ C₂ l₁ l₂ z =
      rw (first_pack F₁ C₁ l₁, second_pack F₁ C₁ l₁, first_pack F₂ C₂ l₂, second_pack F₂ C₂ l₂)
      (keep_in (disjoint n (union n F₁ F₂) (joined_c n A C₁ C₂)) (pack (union n F₁ F₂) (joined_c n A C₁ C₂)) (rw z tt))

  alone_out : (A : ℕ) (xs : List ℕ) (z : ℕ) → Mem z (flat_map (alone_candidate n A) xs)
      → Mem z xs × (intersection n (first_of z) A ≡ empty)
  unfolding alone_candidate
  alone_out A xs z h =
      let r = gather_out (alone_candidate n A) xs z h in
      let k = keep_out (disjoint n (first_of r.0) A) r.0 z r.2 in
      (rw k.1 r.1, rw k.1 (eqb→eq (intersection n (first_of r.0) A) 0 k.0))

  alone_in : (A : ℕ) (xs : List ℕ) (F C : ℕ) → C < 2 ^ 16 → Mem (pack F C) xs → intersection n F A ≡ empty
      → Mem (pack F C) (flat_map (alone_candidate n A) xs)
  unfolding alone_candidate
  alone_in A xs F C l h q =
      gather_in (alone_candidate n A) (pack F C) h
      (keep_in (disjoint n (first_of (pack F C)) A) (pack F C) (rw (first_pack F C l, q) tt))

  -- the pairs of a list of entries
  Entries : List ℕ → Pairs
  Entries xs F C = (x : ℕ) × Mem x xs × (F ≡ first_of x) × (C ≡ second_of x)

  join_out : (A : ℕ) (xs ys : List ℕ) (z : ℕ) → Mem z (join_candidates n A xs ys)
      → JoinRule n A (Entries xs) (Entries ys) (first_of z) (second_of z)
  unfolding join_candidates JoinRule Together Alone Entries
  join_out A xs ys z h =
      ⊎_elim (λ k. inl (together k))
      (λ k. inr (⊎_elim (λ i. inl (left i)) (λ i. inr (right i))
      (Memᴰ.append_cases (flat_map (alone_candidate n A) xs) k)))
      (Memᴰ.append_cases (flat_map (λ x. flat_map (together_candidate n A x) ys) xs) h)
    where
      together : Mem z (flat_map (λ x. flat_map (together_candidate n A x) ys) xs)
          → Together n A (Entries xs) (Entries ys) (first_of z) (second_of z)
      together k =
          let r = gather_out (λ x. flat_map (together_candidate n A x) ys) xs z k in
          let s = gather_out (together_candidate n A r.0) ys z r.2 in
          let q = together_out A r.0 s.0 z s.2 in (
            first_of r.0,
            second_of r.0,
            first_of s.0,
            second_of s.0,
            (r.0, r.1, refl, refl),
            (s.0, s.1, refl, refl),
            q.0,
            q.1,
            q.2,
          )

      left : Mem z (flat_map (alone_candidate n A) xs) → Alone n A (Entries xs) (first_of z) (second_of z)
      left i = let r = alone_out A xs z i in ((z, r.0, refl, refl), r.1)

      right : Mem z (flat_map (alone_candidate n A) ys) → Alone n A (Entries ys) (first_of z) (second_of z)
      right i = let r = alone_out A ys z i in ((z, r.0, refl, refl), r.1)

  entries_out : (xs : List ℕ) (P : Pairs) → ((x : ℕ) → Mem x xs → P (first_of x) (second_of x)) → (F C : ℕ)
      → Entries xs F C → P F C
  unfolding Entries
  entries_out xs P f F C (x, i, p, q) = rw (p, q) (f x i)

  -- a join of more pairs yields more
  join_mono : (A : ℕ) (P P' Q Q' : Pairs) → ((F C : ℕ) → P F C → P' F C) → ((F C : ℕ) → Q F C → Q' F C)
      → (F C : ℕ) → JoinRule n A P Q F C → JoinRule n A P' Q' F C
  unfolding JoinRule Together Alone
  join_mono A P P' Q Q' f g F C (inl (F₁, C₁, F₂, C₂, x, y, p, q, z)) =
      inl (F₁, C₁, F₂, C₂, f F₁ C₁ x, g F₂ C₂ y, p, q, z)
  join_mono A P P' Q Q' f g F C (inr (inl (x, z))) = inr (inl (f F C x, z))
  join_mono A P P' Q Q' f g F C (inr (inr (y, z))) = inr (inr (g F C y, z))

  -- a member of a node's list is a listed pair
  pub list_out : (t : Network) → Formed n t → (x : ℕ) → Mem x (list_of n t) → Listed n t (first_of x) (second_of x)
  unfolding Formed list_of Listed HideRule RenameRule hide_candidate rename_candidate
  list_out (leaf m) w x h =
      let r = gather_out (leaf_candidate n m) (numbers_below (2 ^ n)) x (in_order_out _ x h) in
      leaf_out m x r.0 (number_out (2 ^ n) r.0 r.1) r.2
  list_out (join a b A) w x h =
      join_mono A (Entries (list_of n a)) (Listed n a) (Entries (list_of n b)) (Listed n b)
      (entries_out (list_of n a) (Listed n a) (list_out a w.0))
      (entries_out (list_of n b) (Listed n b) (list_out b w.1))
      (first_of x) (second_of x) (join_out A (list_of n a) (list_of n b) x (in_order_out _ x h))
  list_out (hide a A) w x h =
      let r = map_out (hide_candidate n A) (list_of n a) x (in_order_out _ x h) in (
        first_of r.0,
        second_of r.0,
        list_out a w.0 r.0 r.1,
        entry_first x _ _ r.2,
        entry_second x _ _
            r.2,
      )
  list_out (rename a f) w x h =
      let r = map_out (rename_candidate n f) (list_of n a) x (in_order_out _ x h) in (
        first_of r.0,
        second_of r.0,
        list_out a w.0 r.0 r.1,
        entry_first x _ _ r.2,
        entry_second x _ _
            r.2,
      )

  -- a candidate that moves a packed pair
  moved_in : (g h : ℕ → ℕ) (move : ℕ → ℕ) → ((x : ℕ) → move x ≡ pack (g (first_of x)) (h (second_of x)))
      → (xs : List ℕ) (F C : ℕ) → C < 2 ^ 16 → Mem (pack F C) xs → Mem (pack (g F) (h C)) (in_order (map move xs))
  moved_in g h move e xs F C l i =
      let q : move (pack F C) ≡ pack (g F) (h C) = e (pack F C) ∙ rw (first_pack F C l, second_pack F C l) in
      in_order_in (pack (g F) (h C)) (rw q at (map_in move i))

  -- a listed pair is in the node's list
  pub list_in : (t : Network) → Formed n t → (F C : ℕ) → Listed n t F C → Mem (pack F C) (list_of n t)
  unfolding Formed list_of Listed JoinRule Together Alone HideRule RenameRule join_candidates hide_candidate
      rename_candidate
  list_in (leaf m) w F C x =
      in_order_in (pack F C)
      (gather_in (leaf_candidate n m) (pack F C) (number_in (2 ^ n) F (listed_below n (leaf m) w F C x))
      (leaf_in m w F C x))
  list_in (join a b A) w F C (inl (F₁, C₁, F₂, C₂, x, y, p, q, z)) =
      rw (p, q) (in_order_in (pack (union n F₁ F₂) (joined_c n A C₁ C₂)) (Memᴰ.append_left _
      (gather_in (λ x. flat_map (together_candidate n A x) (list_of n b)) _ (list_in a w.0 F₁ C₁ x)
      (gather_in (together_candidate n A (pack F₁ C₁)) _ (list_in b w.1 F₂ C₂ y)
      (together_in A F₁ C₁ F₂ C₂ (listed_fits a F₁ C₁ x) (listed_fits b F₂ C₂ y) (rw (p, q) at z))))))
  list_in (join a b A) w F C (inr (inl (x, z))) =
      in_order_in (pack F C)
      (Memᴰ.append_right (flat_map (λ x. flat_map (together_candidate n A x) (list_of n b)) (list_of n a))
      (Memᴰ.append_left (flat_map (alone_candidate n A) (list_of n b))
      (alone_in A (list_of n a) F C (listed_fits a F C x) (list_in a w.0 F C x) z)))
  list_in (join a b A) w F C (inr (inr (y, z))) =
      in_order_in (pack F C)
      (Memᴰ.append_right (flat_map (λ x. flat_map (together_candidate n A x) (list_of n b)) (list_of n a))
      (Memᴰ.append_right (flat_map (alone_candidate n A) (list_of n a))
      (alone_in A (list_of n b) F C (listed_fits b F C y) (list_in b w.1 F C y) z)))
  list_in (hide a A) w F C (F', C', x, p, q) =
      rw (p, q) (moved_in (λ F. difference n F A) (λ C. union n C A) (hide_candidate n A) (λ x. refl)
      (list_of n a) F' C' (listed_fits a F' C' x) (list_in a w.0 F' C' x))
  list_in (rename a f) w F C (F', C', x, p, q) =
      rw (p, q) (moved_in (image n (sends f)) (all_sources n (sends f)) (rename_candidate n f) (λ x. refl)
      (list_of n a) F' C' (listed_fits a F' C' x) (list_in a w.0 F' C' x))

  list_ascending : (t : Network) → Ascending (list_of n t)
  unfolding list_of
  list_ascending (leaf m) = in_order_ascending _
  list_ascending (join a b A) = in_order_ascending _
  list_ascending (hide a A) = in_order_ascending _
  list_ascending (rename a f) = in_order_ascending _

  -- the computed list is the node's list, and the only one
  pub list_is : (t : Network) → Formed n t → IsListOf n t (list_of n t)
  list_is t w = record { ascending = list_ascending t; all_listed = list_in t w; only_listed = list_out t w }

  pub list_unique : (t : Network) → Formed n t → (xs : List ℕ) → IsListOf n t xs → xs ≡ list_of n t
  list_unique t w xs l =
      ascending_ext xs (list_of n t) l.ascending (list_ascending t)
      (λ z m. rw (pack_unpack z) at (list_in t w (first_of z) (second_of z) (l.only_listed z m)))
      (λ z m. rw (pack_unpack z) at (l.all_listed (first_of z) (second_of z) (list_out t w z m)))

  -- the computed flag is the rules' flag
  pub flag_iff : (t : Network) → Formed n t → T (flag_of n t) ↔ Flag n t
  unfolding flag_of Flag HideFlag Formed
  flag_iff (leaf m) w = (spins_out n m w, spins_in n m w)
  flag_iff (join a b A) w = (λ t. t, λ t. t)
  flag_iff (hide a A) w = (
    λ t.
        let r = any_of_out (λ x. included n (first_of x) A) (list_of n a) t in (
          first_of r.0,
          second_of r.0,
          list_out a w.0 r.0 r.1,
          eqb→eq (difference n (first_of r.0) A) 0
              r.2,
        ),
    λ h. swallowed h.0 h.1 h.2 h.3,
  )
    where
      swallowed : (F C : ℕ) → Listed n a F C → difference n F A ≡ empty
          → T (any_of (λ x. included n (first_of x) A) (list_of n a))
      swallowed F C x q =
          any_of_in (λ x. included n (first_of x) A) (list_in a w.0 F C x)
          (rw (first_pack F C (listed_fits a F C x), q) tt)
  flag_iff (rename a f) w = (λ t. t, λ t. t)

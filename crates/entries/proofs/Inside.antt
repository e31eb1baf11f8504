-- The lists of the rules for n events have entries of n events only, n at most 16.
-- Assumes nothing.
use Rattle.std.proofs.Common.{⊎_elim, not, ◌&&◌, List, map, ℕ, ◌^◌, ◌<◌, ◌≤◌, arith, pow_mono}
use mathlib.Core.List.Memᴰ
use mathlib.Core.List.{flat_map}
use Rattle.events.specs.Sets.{is_empty, union, disjoint, complement}
use Rattle.events.proofs.Members.{set_of_below}
use Rattle.network.specs.Network.{Network, leaf, join, hide, rename}
use Rattle.network.specs.Rules.{joined_c}
use Rattle.network.specs.Loops.{loops}
use Rattle.network.specs.Lists.{pack, first_of, second_of, numbers_below, leaf_candidate, together_candidate}
use Rattle.network.specs.Lists.{alone_candidate, join_candidates, hide_candidate, rename_candidate, list_of}
use Rattle.network.proofs.Sorting.{keep_out, map_out, gather_out, number_out, in_order_out}
use Rattle.network.proofs.Packing.{first_pack, second_pack}
use Rattle.entries.specs.Entries.{width, Inside, AllInside}

module _ (n : ℕ) (n≤16 : n ≤ width) where
  pub inside_pack : (F C : ℕ) → F < 2 ^ n → C < 2 ^ n → Inside n (pack F C)
  inside_pack F C p q =
      let l : C < 2 ^ width = omega (arith, pow_mono n≤16) in
      record { first_below = rw (first_pack F C l) p; second_below = rw (second_pack F C l) q }

  inside_alone : (A : ℕ) (xs : List ℕ) → AllInside n xs → AllInside n (flat_map (alone_candidate n A) xs)
  unfolding AllInside alone_candidate
  inside_alone A xs p z m =
      let r = gather_out (alone_candidate n A) xs z m in
      let o = keep_out (disjoint n (first_of r.0) A) r.0 z r.2 in
      rw o.1 (p r.0 r.1)

  inside_together : (A : ℕ) (xs ys : List ℕ) → AllInside n (flat_map (λ x. flat_map (together_candidate n A x) ys) xs)
  unfolding AllInside together_candidate
  inside_together A xs ys z m =
      let r = gather_out (λ x. flat_map (together_candidate n A x) ys) xs z m in
      let s = gather_out (together_candidate n A r.0) ys z r.2 in
      let F = union n (first_of r.0) (first_of s.0) in
      let C = joined_c n A (second_of r.0) (second_of s.0) in
      let o = keep_out (disjoint n F C) (pack F C) z s.2 in
      rw o.1 (inside_pack F C (set_of_below n _) (set_of_below n _))

  pub list_inside : (t : Network) → AllInside n (list_of n t)
  unfolding list_of AllInside leaf_candidate join_candidates hide_candidate rename_candidate
  list_inside (leaf m) z h =
      let r = gather_out (leaf_candidate n m) (numbers_below (2 ^ n)) z
      (in_order_out (flat_map (leaf_candidate n m) (numbers_below (2 ^ n))) z h) in
      let L = r.0 in
      let o = keep_out (not (is_empty L) && loops n m L) (pack L (complement n L)) z r.2 in
      rw o.1 (inside_pack L (complement n L) (number_out (2 ^ n) L r.1) (set_of_below n _))
  list_inside (join a b A) z h =
      let xs = list_of n a in
      let ys = list_of n b in
      ⊎_elim (λ k. inside_together A xs ys z k)
      (λ k. ⊎_elim (λ i. inside_alone A xs (list_inside a) z i) (λ i. inside_alone A ys (list_inside b) z i)
      (Memᴰ.append_cases (flat_map (alone_candidate n A) xs) k))
      (Memᴰ.append_cases (flat_map (λ x. flat_map (together_candidate n A x) ys) xs)
      (in_order_out (join_candidates n A xs ys) z h))
  list_inside (hide a A) z h =
      let r = map_out (hide_candidate n A) (list_of n a) z
      (in_order_out (map (hide_candidate n A) (list_of n a)) z h) in
      rw r.2 (inside_pack _ _ (set_of_below n _) (set_of_below n _))
  list_inside (rename a f) z h =
      let r = map_out (rename_candidate n f) (list_of n a) z
      (in_order_out (map (rename_candidate n f) (list_of n a)) z h)
      in
      rw r.2 (inside_pack _ _ (set_of_below n _) (set_of_below n _))

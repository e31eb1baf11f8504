-- The record that is handed in, by its kind; and the front of the bytes to be stored of a record of each kind.
-- Assumes nothing.
use Rattle.std.proofs.Common.{◌≡◌, refl, sym, Bool, true, false, cond, List, [], ◌∷◌, map, append-nil, ℕ}
use Rattle.std.proofs.Common.{zero, suc, ◌≤◌, arith, eqb, length, take, drop, length-take}
use Rattle.std.proofs.Common.{take_all, ne_eqb, eqb-true}
use native.Mathlib.Decide.{ℕ_discrete, dec_le}
use lib.ListN.{length-map}
use Rattle.records.specs.declared.Record.{Record}
use Rattle.records.specs.Kinds.{size_of, body_length, header_kind, machine_kind, step_kind, leaf_kind, join_kind}
use Rattle.records.specs.Kinds.{hide_kind}
use Rattle.records.specs.Kinds.{rename_kind, end_kind}
use Rattle.records.specs.Records.{header_record, machine_record, step_record, leaf_record, join_record, hide_record}
use Rattle.records.specs.Records.{rename_record, end_record, other_record, no_targets}
use Rattle.decoding.specs.Bytes.{bytes_of}
use Rattle.records.proofs.Sizes.{each_kind, size_beyond}
use Rattle.handing.specs.Handing.{low_byte, handed_in, record_array}

-- a number with a body is a kind's
some_kind : (k : ℕ) → (size_of k ≡ 1 → ⊥) → (1 ≤ k) × (k ≤ 8)
unfolding size_of body_length
some_kind zero p = absurd (p refl)
some_kind (suc k) p = (omega arith, at (dec_le 9 (suc k)))
  where
    at : Dec (9 ≤ suc k) → suc k ≤ 8
    at (yes l) = absurd (p (size_beyond (suc k) l))
    at (no l) = omega arith

module _ (r : Record) where
  targets_all : length r.targets ≤ 16 → take 16 (map low_byte r.targets) ≡ map low_byte r.targets
  targets_all few =
      let long : length (map low_byte r.targets) ≡ length r.targets = length-map r.targets low_byte in
      take_all 16 (map low_byte r.targets) (omega arith)

  -- a record of no kind is its kind's byte alone
  pub kind_alone : size_of r.kind ≡ 1 → bytes_of r ≡ r.kind ∷ []
  unfolding bytes_of size_of body_length
  kind_alone s =
      simp (
        none header_kind (omega arith),
        none machine_kind (omega arith),
        none leaf_kind (omega arith),
        none step_kind (omega arith),
        none join_kind (omega arith),
        none hide_kind (omega arith),
        none rename_kind (omega arith),
        none end_kind (omega arith),
      )
    where
      none : (j : ℕ) → 2 ≤ size_of j → eqb r.kind j ≡ false
      none j l = ne_eqb r.kind j (λ q. let z : size_of j ≡ 1 = rw q at s in omega arith)

  front_alone : size_of r.kind ≡ 1 → take (size_of r.kind) (record_array r) ≡ map low_byte (bytes_of r)
  unfolding record_array
  front_alone s = rw (s, kind_alone s)

  -- the array's front is the record's bytes
  pub array_front : length r.targets ≤ 16 → take (size_of r.kind) (record_array r) ≡ map low_byte (bytes_of r)
  unfolding record_array bytes_of size_of body_length
  array_front few = at (ℕ_discrete (size_of r.kind) 1)
    where
      at : Dec (size_of r.kind ≡ 1) → take (size_of r.kind) (record_array r) ≡ map low_byte (bytes_of r)
      at (yes s) = front_alone s
      at (no p) =
          let some = some_kind r.kind p in
          each_kind (λ k. r.kind ≡ k → take (size_of r.kind) (record_array r) ≡ map low_byte (bytes_of r))
          (λ q. rw q) (λ q. rw q) (λ q. rw q) (λ q. rw q) (λ q. rw q) (λ q. rw q)
          (λ q. rw (q, append-nil (map low_byte r.targets), targets_all few)) (λ q. rw q)
          r.kind some.0 some.1 refl

-- what holds of a record of each kind holds of one that is handed in
pub handed_any : (P : Record → Type 0) (used k : ℕ) (xs : List ℕ)
    → ((x : ℕ) → P (header_record x)) → ((x : ℕ) → P (machine_record x)) → ((x y z : ℕ) → P (step_record x y z))
    → ((x : ℕ) → P (leaf_record x)) → ((x y z : ℕ) → P (join_record x y z)) → ((x y : ℕ) → P (hide_record x y))
    → ((x : ℕ) → P (rename_record x (take 16 (drop 1 xs)))) → P (end_record used) → P (other_record k)
    → P (handed_in used k xs)
unfolding handed_in
handed_any P used k xs a b c d e f g h o =
    either (eqb k header_kind) _ _ (a _) (either (eqb k machine_kind) _ _ (b _) (either (eqb k step_kind) _ _ (c _ _ _)
    (either (eqb k leaf_kind) _ _ (d _) (either (eqb k join_kind) _ _ (e _ _ _) (either (eqb k hide_kind) _ _ (f _ _)
    (either (eqb k rename_kind) _ _ (g _) (either (eqb k end_kind) _ _ h o)))))))
  where
    either : (t : Bool) (x y : Record) → P x → P y → P (cond t x y)
    either true x y p q = p
    either false x y p q = q

pub handed_targets : (used k : ℕ) (xs : List ℕ) → length (handed_in used k xs).targets ≤ 16
unfolding no_targets
handed_targets used k xs =
    handed_any (λ r. length r.targets ≤ 16) used k xs (λ x. omega arith) (λ x. omega arith) (λ x y z. omega arith)
    (λ x. omega arith) (λ x y z. omega arith) (λ x y. omega arith) (λ x. simp length-take (omega arith)) (omega arith)
    (omega arith)

pub handed_kind : (used k : ℕ) (xs : List ℕ) → (handed_in used k xs).kind ≡ k
unfolding handed_in
handed_kind used k xs =
    pick header_kind _ _ sym (pick machine_kind _ _ sym (pick step_kind _ _ sym (pick leaf_kind _ _ sym
    (pick join_kind _ _ sym (pick hide_kind _ _ sym (pick rename_kind _ _ sym (pick end_kind _ _ sym refl)))))))
  where
    pick : (x : ℕ) (p q : Record) → (k ≡ x → p.kind ≡ k) → q.kind ≡ k → (cond (eqb k x) p q).kind ≡ k
    pick x p q f e = at (eqb k x) refl
      where
        at : (t : Bool) → eqb k x ≡ t → (cond t p q).kind ≡ k
        at true z = f (eqb-true k x z)
        at false z = e

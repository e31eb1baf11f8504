-- The numbers of a record that no test hits behind a clean stop fit their bytes: so what is stored is the record's
-- encoding. Assumes nothing.
use Rattle.std.proofs.Common.{◌≡◌, refl, ap, Bool, true, false, not, ◌&&◌, ◌||◌, ◌≢◌, ⊎_elim, List, [], ◌∷◌, map}
use Rattle.std.proofs.Common.{ℕ, suc, ◌+◌, ◌*◌, ◌/◌, ◌%◌, ◌^◌, ◌≤◌, ◌<◌, min, arith, mod-eq_of_lt, leb, ltb, eqb}
use Rattle.std.proofs.Common.{length, leb-false, ltb-false, eqb-true}
use borrow.Author.Tests.{not-false}
use Rattle.events.specs.Sets.{room, full, included}
use Rattle.events.proofs.Members.{member_below, below_of_members, set_of_below}
use Rattle.events.proofs.Tests.{included_iff}
use Rattle.records.specs.declared.Record.{Record}
use Rattle.progress.specs.declared.Progress.{Progress}
use Rattle.records.specs.Kinds.{header_kind, machine_kind, step_kind, end_kind, size_of, body_length, is, is_node}
use Rattle.decoding.specs.Bytes.{bytes_of}
use Rattle.progress.specs.Progress.{start, take_record}
use Rattle.ranges.specs.Ranges.{wrong_set, wrong_target, wrong_targets}
use Rattle.records.proofs.Choices.{or_none}
use Rattle.tests.proofs.Passing.{Passed}
use Rattle.records.proofs.Sizes.{size_most}
use Rattle.tests.proofs.MayStand.{NodeMay, Met, header_met, machine_met, step_met, leaf_met, join_met, hide_met}
use Rattle.tests.proofs.MayStand.{rename_met, end_met}
use Rattle.tests.proofs.Meeting.{met_out}
use Rattle.handing.specs.Handing.{low_byte}

-- what every scan keeps to before an end, of the numbers that the tests compare with, and of the place
pub record Kept (g : Progress) : Type 0 where
  pub n_most : g.n ≤ 16
  pub states_most : g.states ≤ 32
  pub machines_most : g.machines ≤ 12
  pub steps_most : g.steps ≤ 512
  pub nodes_most : g.nodes ≤ 32
  pub before_header : g.n ≡ 0 → g.place ≡ 0
  pub place_most : g.place ≤ 2 + 2 * g.machines + 4 * g.steps + 18 * g.nodes

pub kept_start : Kept start
unfolding start
kept_start =
    record {
      n_most = omega arith;
      states_most = omega arith;
      machines_most = omega arith;
      steps_most = omega arith;
      nodes_most = omega arith;
      before_header = λ q. refl;
      place_most = omega arith;
    }

-- a node takes one entry of the table, and has at most 18 bytes
kept_node : (g : Progress) (r : Record) → Kept g → NodeMay g → is_node r ≡ true → is header_kind r ≡ false
    → is machine_kind r ≡ false
    → is step_kind r ≡ false → Kept (take_record g r)
unfolding take_record
kept_node g r k m a b c d =
    record {
      n_most = rw b k.n_most;
      states_most = rw c k.states_most;
      machines_most = rw c k.machines_most;
      steps_most = rw d k.steps_most;
      nodes_most = rw a (omega (arith, m.node_room));
      before_header = λ q. absurd (m.has_header (rw b at q));
      place_most = rw (a, c, d) (omega (arith, k.place_most, size_most r.kind));
    }

pub kept_keeps : (g : Progress) (r : Record) (left : ℕ) → Passed g r left → r.kind ≢ end_kind → Kept g
    → Kept (take_record g r)
unfolding take_record size_of body_length
kept_keeps g r left p ne k = at (met_out g r left p)
  where
    at : Met g r → Kept (take_record g r)
    at (header_met q m) =
        record {
          n_most = rw q m.most;
          states_most = rw q k.states_most;
          machines_most = rw q k.machines_most;
          steps_most = rw q k.steps_most;
          nodes_most = rw q k.nodes_most;
          before_header = λ z. let w : r.number ≡ 0 = rw q at z in absurd (omega (arith, m.least));
          place_most = rw q (omega (arith, k.before_header m.first));
        }
    at (machine_met q m) =
        record {
          n_most = rw q k.n_most;
          states_most = rw q m.most;
          machines_most = rw q (omega (arith, m.machine_room));
          steps_most = rw q k.steps_most;
          nodes_most = rw q k.nodes_most;
          before_header = λ z. absurd (m.has_header (rw q at z));
          place_most = rw q (omega (arith, k.place_most));
        }
    at (step_met q m) =
        record {
          n_most = rw q k.n_most;
          states_most = rw q k.states_most;
          machines_most = rw q k.machines_most;
          steps_most = rw q (omega (arith, m.step_room));
          nodes_most = rw q k.nodes_most;
          before_header = λ z. absurd (m.has_header (rw q at z));
          place_most = rw q (omega (arith, k.place_most));
        }
    at (leaf_met q m) = kept_node g r k m.may (rw q) (rw q) (rw q) (rw q)
    at (join_met q m) = kept_node g r k m.may (rw q) (rw q) (rw q) (rw q)
    at (hide_met q m) = kept_node g r k m.may (rw q) (rw q) (rw q) (rw q)
    at (rename_met q m) = kept_node g r k m.may (rw q) (rw q) (rw q) (rw q)
    at (end_met q m) = absurd (ne q)

-- so a clean stop is at most at byte 2,650: no file that goes on from there meets the limit of 4,096
pub kept_short : (g : Progress) → Kept g → g.place ≤ 2650
kept_short g k = omega (arith, k.place_most, k.machines_most, k.steps_most, k.nodes_most)

-- a set without a bit at n or above is below 2 ^ 16, for n up to 16
set_small : (n s : ℕ) → n ≤ 16 → s < 2 ^ 32 → wrong_set n s ≡ false → s < 2 ^ 16
set_small n s h w q =
    below_of_members 16 s (λ e t.
    let l : e < room = member_below 32 s e w t in
    let inside = (included_iff room s (full (min n room))).0
    (rw (not-false (included room s (full (min n room))) q) tt) e l t in
    omega (arith, member_below (min n room) (full (min n room)) e (set_of_below (min n room) (λ e. true)) inside))

-- targets that are in range are their own low bytes
targets_low : (n i : ℕ) (ts : List ℕ) → n ≤ 16 → i + length ts ≤ 256 → wrong_targets n i ts ≡ false → map low_byte ts ≡ ts
unfolding wrong_targets
targets_low n i [] h l q = refl
targets_low n i (t ∷ ts) h l q =
    let w = or_none (wrong_target n i t) (wrong_targets n (suc i) ts) q in
    λ j. mod-eq_of_lt (small w.0) j ∷ targets_low n (suc i) ts h (omega arith) w.1 j
  where
    small : wrong_target n i t ≡ false → t < 256
    small e = at (ltb i n) refl (leb n t) refl e
      where
        at : (x : Bool) → ltb i n ≡ x → (y : Bool) → leb n t ≡ y → ((x && y) || (leb n i && not (eqb t i))) ≡ false
            → t < 256
        at x p false r e = let z : t < n = leb-false n t r in omega arith
        at true p true r e = let z : ◌≡◌ {A = ℕ} 0 1 = cc in absurd (omega arith)
        at false p true r e = other (leb n i) refl e
          where
            other : (z : Bool) → leb n i ≡ z → (z && not (eqb t i)) ≡ false → t < 256
            other true m e = let s : t ≡ i = eqb-true t i (not-false (eqb t i) e) in omega arith
            other false m e = let a : i < n = leb-false n i m in absurd (omega (arith, ltb-false i n p))

-- what a record that is handed in has by its form
pub record InForm (r : Record) : Type 0 where
  pub set_word : r.set < 2 ^ 32
  pub targets_few : length r.targets ≤ 16

pub bytes_fit : (g : Progress) (r : Record) (left : ℕ) → Passed g r left → Kept g → g.place ≤ 4096 → InForm r
    → map low_byte (bytes_of r) ≡ bytes_of r
unfolding bytes_of
bytes_fit g r left p k l form = at (met_out g r left p)
  where
    word : (s : ℕ) → s < 2 ^ 16 → (low_byte (s % 256) ≡ s % 256) × (low_byte (s / 256) ≡ s / 256)
    word s h = (omega arith, omega arith)

    at : Met g r → map low_byte (bytes_of r) ≡ bytes_of r
    at (header_met q m) = rw q (ap (λ (x : ℕ). 1 ∷ x ∷ []) (mod-eq_of_lt (omega (arith, m.most))))
    at (machine_met q m) = rw q (ap (λ (x : ℕ). 2 ∷ x ∷ []) (mod-eq_of_lt (omega (arith, m.most))))
    at (step_met q m) =
        let label : r.label < 256 = ⊎_elim (λ h. omega (arith, k.n_most)) (λ h. omega arith) m.label_known in
        let from : low_byte r.from ≡ r.from = mod-eq_of_lt (omega (arith, m.from_below, k.states_most)) in
        let to : low_byte r.to ≡ r.to = mod-eq_of_lt (omega (arith, m.to_below, k.states_most)) in
        rw q (λ i. 3 ∷ from i ∷ mod-eq_of_lt label i ∷ to i ∷ [])
    at (leaf_met q m) =
        rw q (ap (λ (x : ℕ). 4 ∷ x ∷ []) (mod-eq_of_lt (omega (arith, m.machine_below, k.machines_most))))
    at (join_met q m) =
        let w = word r.set (set_small g.n r.set k.n_most form.set_word m.set_known) in
        let left : low_byte r.left ≡ r.left = mod-eq_of_lt (omega (arith, m.left_free.earlier, k.nodes_most)) in
        let right : low_byte r.right ≡ r.right = mod-eq_of_lt
        (omega (arith, m.right_free.earlier, k.nodes_most)) in
        rw q (λ i. 5 ∷ left i ∷ right i ∷ w.0 i ∷ w.1 i ∷ [])
    at (hide_met q m) =
        let w = word r.set (set_small g.n r.set k.n_most form.set_word m.set_known) in
        let left : low_byte r.left ≡ r.left = mod-eq_of_lt (omega (arith, m.left_free.earlier, k.nodes_most)) in
        rw q (λ i. 6 ∷ left i ∷ w.0 i ∷ w.1 i ∷ [])
    at (rename_met q m) =
        let left : low_byte r.left ≡ r.left = mod-eq_of_lt (omega (arith, m.left_free.earlier, k.nodes_most)) in
        let targets = targets_low g.n 0 r.targets k.n_most (omega (arith, form.targets_few))
        m.targets_known in
        rw q (λ i. 7 ∷ left i ∷ targets i)
    at (end_met q m) =
        let w = word r.number (omega (arith, m.counted)) in
        rw q (λ i. 8 ∷ w.0 i ∷ w.1 i ∷ [])

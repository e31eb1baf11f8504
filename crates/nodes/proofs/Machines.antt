-- The bytes behind a machine's record in a readable file are its step records, and its model's machine is what they
-- say. Assumes nothing.
use Rattle.std.proofs.Common.{◌≡◌, refl, sym, ap, ap₂, ◌∙◌, Bool, true, false, List, [], ◌∷◌, ℕ, zero, suc, ◌+◌}
use Rattle.std.proofs.Common.{◌-◌, ◌*◌, ◌≤◌, ◌<◌, arith, length, take, drop, get_or, length-drop, eqb-true}
use Rattle.network.specs.Machine.{Step, Machine, MachineFormed}
use Rattle.network.specs.Model.{idle}
use Rattle.network.proofs.Nodes.{getD-member}
use Rattle.records.specs.Kinds.{body_length, size_of, step_kind, is}
use Rattle.records.specs.Records.{step_record}
use Rattle.decoding.specs.Bytes.{record_of, first_record}
use Rattle.decoding.proofs.Bytes.{first_kind}
use Rattle.records.proofs.Choices.{cond_false}
use Rattle.records.proofs.Sizes.{size_positive}
use Rattle.reader.specs.declared.model.Readable.{Readable}
use Rattle.decoding.specs.Labels.{label_of}
use Rattle.reader.specs.File.{records_from, records_of, step_of, steps_of, model_of, file_model}
use Rattle.places.specs.Finding.{machine_place, record_at, states_of, steps_at}
use Rattle.reader.proofs.Turns.{rest}
use Rattle.reader.proofs.Records.{none_left, records_next}
use Rattle.places.proofs.Found.{machine_found}
use Rattle.reader.proofs.ReadFiles.{readable_formed}
use Rattle.reach.specs.Steps.{steps_in, machine_of, AllEndBelow}
use Rattle.reach.specs.Table.{most_states}
use Rattle.reach.proofs.Records.{formed_ends}
use Rattle.places.proofs.Wholeness.{Whole, whole_next, machine_whole, whole_file}

-- the bytes b begin with step records that say the steps xs, four bytes each
pub record SaysSteps (b : List ℕ) (xs : List Step) : Type 0 where
  pub within : 4 * length xs ≤ length b
  pub steps_are : steps_in (take (4 * length xs) b) ≡ xs

none_said : (b : List ℕ) → SaysSteps b []
unfolding steps_in
none_said b = record { within = omega arith; steps_are = refl }

-- one step record more
step_said : (f x₀ x₁ x₂ x₃ : ℕ) (t : List ℕ) → x₀ ≡ step_kind
    → SaysSteps (rest (x₀ ∷ x₁ ∷ x₂ ∷ x₃ ∷ t)) (steps_of (records_from f (rest (x₀ ∷ x₁ ∷ x₂ ∷ x₃ ∷ t))))
    → SaysSteps (x₀ ∷ x₁ ∷ x₂ ∷ x₃ ∷ t)
    (steps_of (first_record (x₀ ∷ x₁ ∷ x₂ ∷ x₃ ∷ t) ∷ records_from f (rest (x₀ ∷ x₁ ∷ x₂ ∷ x₃ ∷ t))))
unfolding steps_in first_record record_of size_of body_length steps_of step_of label_of
step_said f x₀ x₁ x₂ x₃ t e = rw e (λ i. at (steps_of (records_from f t)) i)
  where
    at : (xs : List Step) → SaysSteps t xs
        → SaysSteps (3 ∷ x₁ ∷ x₂ ∷ x₃ ∷ t) (step_of (step_record x₁ x₂ x₃) ∷ xs)
    at xs i =
        let q : 4 * suc (length xs) ≡ suc (suc (suc (suc (4 * length xs)))) = omega arith in
        record {
          within = omega (arith, i.within);
          steps_are = rw q (ap (λ (ys : List Step). step_of (step_record x₁ x₂ x₃) ∷ ys) i.steps_are);
        }

steps_said : (f : ℕ) (b : List ℕ) → length b ≤ f → Whole b → SaysSteps b (steps_of (records_from f b))
unfolding records_from steps_of size_of body_length
steps_said zero b h w = none_said b
steps_said (suc f) b h w =
    go (length b) refl (λ some. steps_said f (rest b)
    (omega (arith, length-drop (size_of (first_record b).kind) b, size_positive (first_record b).kind))
    (whole_next b w some).1)
  where
    four : (c : List ℕ) → is step_kind (first_record c) ≡ true → size_of (first_record c).kind ≤ length c
        → SaysSteps (rest c) (steps_of (records_from f (rest c)))
        → SaysSteps c (steps_of (first_record c ∷ records_from f (rest c)))
    four c q l i = by c size q i
      where
        size : 4 ≤ length c
        size = omega (arith, l, ap size_of (eqb-true (first_record c).kind step_kind q))

        by : (c : List ℕ) → 4 ≤ length c → is step_kind (first_record c) ≡ true
            → SaysSteps (rest c) (steps_of (records_from f (rest c)))
            → SaysSteps c (steps_of (first_record c ∷ records_from f (rest c)))
        by [] l q i = absurd (omega arith)
        by (x₀ ∷ []) l q i = absurd (omega arith)
        by (x₀ ∷ x₁ ∷ []) l q i = absurd (omega arith)
        by (x₀ ∷ x₁ ∷ x₂ ∷ []) l q i = absurd (omega arith)
        by (x₀ ∷ x₁ ∷ x₂ ∷ x₃ ∷ t) l q i =
            step_said f x₀ x₁ x₂ x₃ t
            (sym (first_kind x₀ (x₁ ∷ x₂ ∷ x₃ ∷ t)) ∙ eqb-true (first_record (x₀ ∷ x₁ ∷ x₂ ∷ x₃ ∷ t)).kind step_kind q) i

    at : 0 < length b → (t : Bool) → is step_kind (first_record b) ≡ t
        → SaysSteps (rest b) (steps_of (records_from f (rest b)))
        → SaysSteps b (steps_of (first_record b ∷ records_from f (rest b)))
    at some true q i = four b q (whole_next b w some).0 i
    at some false q i =
        let z : steps_of (first_record b ∷ records_from f (rest b)) ≡ [] =
        cond_false (is step_kind (first_record b)) _ _ q in
        rw z (none_said b)

    go : (n : ℕ) → length b ≡ n → (0 < length b → SaysSteps (rest b) (steps_of (records_from f (rest b))))
        → SaysSteps b (steps_of (records_from (suc f) b))
    go zero e ih =
        let z : steps_of (records_from (suc f) b) ≡ [] = ap steps_of (none_left (suc f) b e) in rw z (none_said b)
    go (suc n) e ih =
        let some : 0 < length b = omega arith in
        rw (records_next f b some) (at some (is step_kind (first_record b)) refl (ih some))

module _ (f : Readable) (m : ℕ) (h : m < length (file_model f.bytes.now).machines) where
  -- the machine that number m names
  abbrev pub named : Machine
  named = get_or (file_model f.bytes.now).machines m idle

  whole_at : (machine_place f.bytes.now m + 2 ≤ length f.bytes.now) × Whole (drop (machine_place f.bytes.now m + 2) f.bytes.now)
  unfolding machine_place file_model model_of records_of
  whole_at = machine_whole (length f.bytes.now) f.bytes.now m (omega arith) (whole_file f.bytes.now f.is_read) h

  pub place_within : machine_place f.bytes.now m + 2 ≤ length f.bytes.now
  place_within = whole_at.0

  said_at : SaysSteps (drop (machine_place f.bytes.now m + 2) f.bytes.now) named.steps
  unfolding records_of
  said_at =
      let b : List ℕ = drop (machine_place f.bytes.now m + 2) f.bytes.now in
      rw (← (machine_found f.bytes.now m h).steps_found) (steps_said (length b) b (omega arith) whole_at.1)

  module _ (p c : ℕ) (ep : p ≡ machine_place f.bytes.now m) (ec : c ≡ steps_at f.bytes.now (p + 2)) where
    count_is : c ≡ length named.steps
    count_is = ec ∙ rw ep (machine_found f.bytes.now m h).count_found

    -- its steps end within the file
    pub steps_within : p + 2 + 4 * c ≤ length f.bytes.now
    steps_within =
        omega (arith, ep, count_is, said_at.within, whole_at.0, length-drop (machine_place f.bytes.now m + 2) f.bytes.now)

    -- the machine that its bytes say
    pub machine_is : (x : ℕ) → x ≡ (record_at f.bytes.now p).number
        → machine_of x (take (p + 2 + 4 * c - (p + 2)) (drop (p + 2) f.bytes.now)) ≡ named
    unfolding machine_of states_of
    machine_is x ex =
        let states_is : x ≡ named.states =
        ex ∙ ap (λ (q : ℕ). (record_at f.bytes.now q).number) ep ∙ (machine_found f.bytes.now m h).states_found in
        let e : p + 2 + 4 * c - (p + 2) ≡ 4 * length named.steps = omega (arith, count_is) in
        rw (e, ep) (ap₂ (λ (x : ℕ) (xs : List Step). record { states = x; steps = xs }) states_is said_at.steps_are)

  pub formed_named : MachineFormed (file_model f.bytes.now).events named
  formed_named =
      (readable_formed f).well_formed.machine_formed named (getD-member (file_model f.bytes.now).machines m idle h)

  -- what a machine made of its bytes asks
  module _ (states : ℕ) (steps : List ℕ) (e : machine_of states steps ≡ named) where
    pub few_states : states ≤ most_states
    unfolding machine_of
    few_states =
        let q : states ≡ named.states = ap (λ (m : Machine). m.states) e in
        omega (
          arith,
          q,
          ((readable_formed f).within_limits.states_limit named (getD-member (file_model f.bytes.now).machines m idle h)).1,
        )

    pub steps_end : AllEndBelow most_states (steps_in steps)
    unfolding machine_of
    steps_end =
        let formed : MachineFormed (file_model f.bytes.now).events (machine_of states steps) = rw e formed_named in
        formed_ends (file_model f.bytes.now).events most_states (machine_of states steps) few_states formed

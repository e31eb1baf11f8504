-- The events that steps add to a set one by one are the set of the events that the machine uses; and how many they are.
-- Assumes nothing.
use Rattle.std.proofs.lemmas.Bool.Decides.{nat_tests}
use Rattle.std.proofs.Common.{◌≡◌, refl, sym, ap, ◌∙◌, Bool, false, ◌||◌, List, [], ◌∷◌, ℕ, zero, suc, ◌^◌}
use Rattle.std.proofs.Common.{◌≤◌, ◌<◌, arith, T, eqb, pow_mono}
use mathlib.Core.List.{Memᴰ}
use native.Mathlib.Decide.{dec_lt}
use Rattle.events.specs.Sets.{room, has, digit, set_of, single, count}
use Rattle.events.proofs.Booleans.{or_left}
use Rattle.events.proofs.Members.{set_of_has, set_of_below, has_ext}
use Rattle.events.proofs.Machine.{has_beyond, has_empty}
use Rattle.events.proofs.Widths.{count_widen}
use Rattle.network.specs.Machine.{Label, silent, event, Step, step, Machine, LabelBelow, StepFormed}
use Rattle.network.specs.Machine.{is_label}
use Rattle.network.specs.Limits.{labels, events_of}
use Rattle.progress.specs.Progress.{with}
use Rattle.records.proofs.Choices.{or_assoc, or_false}
use Rattle.reader.specs.Encoding.{code_of}

-- the set s with the events of the steps
unfoldable pub events_with : ℕ → List Step → ℕ
events_with s [] = s
events_with s (step x l y ∷ xs) = events_with (with s (code_of l)) xs

pub with_has : (s d e : ℕ) → e < room → has (with s d) e ≡ (has s e || eqb e d)
with_has s d e h =
    set_of_has room (λ e. has s e || has (single room d) e) e h
    ∙ ap (λ (b : Bool). has s e || b) (set_of_has room (λ e. eqb e d) e h)

pub with_below : (s d : ℕ) → with s d < 2 ^ room
with_below s d = set_of_below room (λ e. has s e || has (single room d) e)

label_test : (l : Label) (e : ℕ) → e < room → eqb e (code_of l) ≡ is_label e l
unfolding code_of is_label
label_test silent e h = grind (arith, nat_tests)
label_test (event d) e h = grind (arith, nat_tests)

events_has : (xs : List Step) (s e : ℕ) → e < room → has (events_with s xs) e ≡ (has s e || labels e xs)
unfolding events_with labels
events_has [] s e h = sym (or_false (has s e))
events_has (step x l y ∷ xs) s e h =
    events_has xs (with s (code_of l)) e h
    ∙ ap (λ (b : Bool). b || labels e xs) (with_has s (code_of l) e h
    ∙ ap (λ (b : Bool). has s e || b) (label_test l e h))
    ∙ or_assoc (has s e) (is_label e l) (labels e xs)

events_below : (xs : List Step) (s : ℕ) → s < 2 ^ room → events_with s xs < 2 ^ room
unfolding events_with
events_below [] s h = h
events_below (step x l y ∷ xs) s h = events_below xs (with s (code_of l)) (with_below s (code_of l))

-- an event that is not below n labels no step in range
other_label : (n : ℕ) (l : Label) (e : ℕ) → n ≤ e → LabelBelow n l → is_label e l ≡ false
unfolding is_label LabelBelow
other_label n silent e h b = refl
other_label n (event d) e h b = grind (arith, nat_tests)

no_label : (n c : ℕ) (xs : List Step) (e : ℕ) → n ≤ e → ((x : Step) → Memᴰ x xs → StepFormed n c x)
    → labels e xs ≡ false
unfolding labels StepFormed
no_label n c [] e h f = refl
no_label n c (step x l y ∷ xs) e h f =
    rw (other_label n l e h (f (step x l y) (Memᴰ.head refl)).2)
    (no_label n c xs e h (λ z m. f z (Memᴰ.tail m)))

-- a machine's events, added to the empty set one by one
module _ (n : ℕ) (m : Machine) (hn : n ≤ 16) (f : (x : Step) → Memᴰ x m.steps → StepFormed n m.states x)
  where
    pub events_are : events_with 0 m.steps ≡ events_of n m
    unfolding events_of
    events_are =
        has_ext room (events_with 0 m.steps) (set_of n (λ e. labels e m.steps))
        (events_below m.steps 0 (omega arith)) wide same
      where
        wide : set_of n (λ e. labels e m.steps) < 2 ^ room
        wide = omega (arith, set_of_below n (λ e. labels e m.steps), pow_mono {i = n} {j = room} (omega arith))

        same : (e : ℕ) → e < room → has (events_with 0 m.steps) e ≡ has (set_of n (λ e. labels e m.steps)) e
        same e h = events_has m.steps 0 e h ∙ rw (has_empty e) (inside (dec_lt e n))
          where
            inside : Dec (e < n) → labels e m.steps ≡ has (set_of n (λ e. labels e m.steps)) e
            inside (yes l) = sym (set_of_has n (λ e. labels e m.steps) e l)
            inside (no l) =
                no_label n m.states m.steps e (omega (arith, l)) f
                ∙ sym (has_beyond n (set_of n (λ e. labels e m.steps)) e (set_of_below n (λ e. labels e m.steps))
                (omega (arith, l)))

    pub events_count : count room (events_with 0 m.steps) ≡ count n (events_of n m)
    unfolding events_of
    events_count = ap (count room) events_are
        ∙ count_widen n room (events_of n m) (omega arith) (set_of_below n (λ e. labels e m.steps))

-- more events, a greater count
digit_mono : (a b : Bool) → (T a → T b) → digit a ≤ digit b
digit_mono a b h = grind arith

count_mono : (n s t : ℕ) → ((e : ℕ) → e < n → T (has s e) → T (has t e)) → count n s ≤ count n t
unfolding count
count_mono zero s t h = omega arith
count_mono (suc n) s t h =
    omega (arith, digit_mono (has s n) (has t n) (h n (omega arith)), count_mono n s t (λ e l. h e (omega arith)))

pub count_grows : (xs : List Step) (s : ℕ) → count room s ≤ count room (events_with s xs)
count_grows xs s =
    count_mono room s (events_with s xs) (λ e l t. rw (events_has xs s e l) (or_left (has s e) (labels e xs) t))

-- The steps of one machine: records that meet no test are steps in range, ascending, few enough, and the other way
-- round. Assumes nothing.
use Rattle.std.proofs.Common.{◌≡◌, refl, sym, ap, ◌∙◌, ◌≢◌, ◌⊎◌, inl, inr, List, [], ◌∷◌, ℕ, ◌+◌, ◌≤◌, ◌<◌}
use Rattle.std.proofs.Common.{arith, length}
use mathlib.Core.List.Memᴰ
use mathlib.Core.List.{map, Memᴰ}
use Rattle.events.specs.Sets.{room, count}
use Rattle.network.specs.Machine.{Label, silent, event, Step, step, LabelBelow, StepFormed}
use Rattle.progress.specs.declared.Progress.{Progress}
use Rattle.records.specs.Kinds.{size_of, silent_label}
use Rattle.records.specs.Records.{step_record}
use Rattle.progress.specs.Progress.{with, used_with, take_record}
use Rattle.tests.proofs.Passing.{passed_out}
use Rattle.tests.proofs.MayStand.{StepMet, step_met}
use Rattle.tests.proofs.Meeting.{step_out}
use Rattle.tests.proofs.Passes.{met_in}
use Rattle.decoding.specs.Labels.{label_of}
use Rattle.reader.specs.Encoding.{code_of, record_of_step, StepsAscend}
use Rattle.reader.proofs.Passes.{after, Passes}
use Rattle.reader.proofs.StepKeys.{key, step_below_in, step_below_out}
use Rattle.reader.proofs.StepEvents.{events_with, count_grows}

-- a label that comes back when its code is read
unfoldable pub Back : Step → Type 0
Back (step s l t) = label_of (code_of l) ≡ l

-- what is read once the steps are taken
pub record AfterSteps (g : Progress) (xs : List Step) (h : Progress) : Type 0 where
  pub n_same : h.n ≡ g.n
  pub machines_same : h.machines ≡ g.machines
  pub steps_more : h.steps ≡ g.steps + length xs
  pub nodes_same : h.nodes ≡ g.nodes
  pub leaves_same : h.leaves ≡ g.leaves
  pub used_same : h.used ≡ g.used

pub after_steps : (xs : List Step) (g : Progress) → AfterSteps g xs (after g (map record_of_step xs))
unfolding after record_of_step take_record used_with
after_steps [] g =
    record {
      n_same = refl;
      machines_same = refl;
      steps_more = omega arith;
      nodes_same = refl;
      leaves_same =
          refl;
      used_same = refl;
    }
after_steps (step s l t ∷ xs) g =
    let i = after_steps xs (take_record g (step_record s (code_of l) t)) in
    record {
      n_same = i.n_same;
      machines_same = i.machines_same;
      steps_more = omega (arith, i.steps_more);
      nodes_same = i.nodes_same;
      leaves_same = omega (arith, i.leaves_same);
      used_same = i.used_same;
    }

-- the steps may stand behind g
pub record StepsFit (g : Progress) (xs : List Step) : Type 0 where
  pub formed : (x : Step) → Memᴰ x xs → StepFormed g.n g.states x
  pub ascend : StepsAscend xs
  pub above : (x : Step) → Memᴰ x xs → g.floor ≤ key x
  pub eight : count room (events_with g.events xs) ≤ 8

-- a fact of the first and of the others is a fact of all
pub all_cons : {A : Type 0} (P : A → Type 0) (x : A) (xs : List A) → P x → ((y : A) → Memᴰ y xs → P y)
    → (y : A) → Memᴰ y (x ∷ xs) → P y
all_cons P x xs p q y m = go (Memᴰ.cases_cons m)
  where
    go : (y ≡ x) ⊎ Memᴰ y xs → P y
    go (inl e) = rw e p
    go (inr k) = q y k

-- a label that comes back and whose code is known
label_below : (n : ℕ) (l : Label) → label_of (code_of l) ≡ l → (code_of l < n) ⊎ (code_of l ≡ silent_label) → LabelBelow n l
unfolding LabelBelow code_of label_of
label_below n silent b h = tt
label_below n (event e) b (inl h) = h
label_below n (event e) b (inr q) = absurd (no e q b)
  where
    no : (e : ℕ) → e ≡ 255 → label_of e ≡ event e → ⊥
    no e q b = let z : label_of 255 ≡ event e = sym (ap label_of q) ∙ b in let w : ◌≡◌ {A = ℕ} 0 1 = cc in omega arith

label_code : (n : ℕ) (l : Label) → LabelBelow n l → (code_of l < n) ⊎ (code_of l ≡ silent_label)
unfolding LabelBelow code_of
label_code n silent b = inr refl
label_code n (event e) b = inl b

-- steps that pass fit; of their machine at most 32 states are known, and n is at most 16
pub steps_out : (xs : List Step) (g : Progress) → g.n ≤ 16 → g.states ≤ 32 → count room g.events ≤ 8
    → ((x : Step) → Memᴰ x xs → Back x) → Passes g (map record_of_step xs) → StepsFit g xs
unfolding Passes record_of_step take_record StepsAscend StepFormed Back events_with
steps_out [] g hn hc he b w =
    record {
      formed = λ x m. absurd (Memᴰ.not-nil m);
      ascend = tt;
      above = λ x m. absurd (Memᴰ.not-nil m);
      eight = he;
    }
steps_out (step s l t ∷ xs) g hn hc he b w =
    let r = step_record s (code_of l) t in
    let m = step_out g r (size_of r.kind) (passed_out g r (size_of r.kind) w.0) refl in
    let i = steps_out xs (take_record g r) hn hc m.eight_events (λ x k. b x (Memᴰ.tail k)) w.1 in
    let f : StepFormed g.n g.states (step s l t) = formed_in s l t m (b (step s l t) (Memᴰ.head refl)) in
    record {
      formed = all_cons (StepFormed g.n g.states) (step s l t) xs f i.formed;
      ascend = (
        λ y k. step_below_out g.n g.states hn hc (step s l t) y f (i.formed y k)
            (next (key (step s l t)) (key y) (i.above y k)),
        i.ascend,
      );
      above = all_cons (λ x. g.floor ≤ key x) (step s l t) xs m.above
          (λ y k. skip (key (step s l t)) (key y) m.above (i.above y k));
      eight = i.eight;
    }
  where
    next : (a c : ℕ) → a + 1 ≤ c → a < c
    next a c h = omega arith

    skip : (a c : ℕ) → g.floor ≤ a → a + 1 ≤ c → g.floor ≤ c
    skip a c h k = omega arith

    formed_in : (s : ℕ) (l : Label) (t : ℕ) → StepMet g (step_record s (code_of l) t) → Back (step s l t)
        → StepFormed g.n g.states (step s l t)
    formed_in s l t m q = (m.from_below, m.to_below, label_below g.n l q m.label_known)

-- steps that fit pass, where there is room for them
pub steps_in : (xs : List Step) (g : Progress) → g.n ≢ 0 → g.machines ≢ 0 → g.nodes ≡ 0 → g.n ≤ 16 → g.states ≤ 32
    → g.steps + length xs ≤ 512 → StepsFit g xs → Passes g (map record_of_step xs)
unfolding Passes record_of_step take_record StepsAscend StepFormed events_with
steps_in [] g n0 ms nn hn hc room f = tt
steps_in (step s l t ∷ xs) g n0 ms nn hn hc few f =
    let r = step_record s (code_of l) t in
    let head = f.formed (step s l t) (Memᴰ.head refl) in
    let tail : (y : Step) → Memᴰ y xs → StepFormed g.n g.states y = λ y k. f.formed y (Memᴰ.tail k) in
    let e = f.eight in (
      met_in g r
          (step_met refl
          (record {
            has_header = n0;
            some_machine = ms;
            before_nodes = nn;
            step_room = omega arith;
            from_below = head.0;
            to_below = head.1;
            label_known = label_code g.n l head.2;
            above = f.above (step s l t) (Memᴰ.head refl);
            eight_events = grows e;
          })),
      steps_in xs (take_record g r) n0 ms nn hn hc (omega arith)
          (record {
            formed = tail;
            ascend = f.ascend.1;
            above = λ y k. one_up (key (step s l t)) (key y)
                (step_below_in g.n g.states hn hc (step s l t) y head (tail y k) (f.ascend.0 y k));
            eight = e;
          }),
    )
  where
    one_up : (a c : ℕ) → a < c → a + 1 ≤ c
    one_up a c h = omega arith

    grows : count room (events_with (with g.events (code_of l)) xs) ≤ 8 → count room (with g.events (code_of l)) ≤ 8
    grows e = omega (arith, e, count_grows xs (with g.events (code_of l)))

-- The promises of the analysis, each from the verdict on the file's model. Assumes nothing.
use Rattle.std.proofs.Common.{◌≡◌, sym, ap, ◌∙◌, false, ◌↔◌, List, [], ◌∷◌, ◌++◌, ℕ, zero, suc, ◌-◌, ◌<◌, ◌≤◌}
use Rattle.std.proofs.Common.{arith, length, take, drop, get_or, ltb-true, ltb-false}
use lib.Seq.{drop-append_seam}
use Rattle.network.specs.Network.{Network, Formed}
use Rattle.network.specs.Walks.{SilenceBelow}
use Rattle.network.specs.Rules.{Flag}
use Rattle.network.specs.Model.{Model, nowhere, networks, node_network, root, bound, WellFormed}
use Rattle.network.specs.Lists.{list_of, flag_of, IsListOf}
use Rattle.network.specs.Verdict.{Verdict, pass, inconclusive, refused, most_pairs, is_over, verdict}
use Rattle.network.specs.Promise.{NodePasses}
use Rattle.network.proofs.Lists.{list_is, list_unique, flag_iff}
use Rattle.network.proofs.Nodes.{networks_length, nodes_formed}
use Rattle.network.proofs.Stops.{Quiet, gives_12, gives_flag, gives_11, PassOver, all_quiet, stopped_at}
use Rattle.network.proofs.Stops.{pass_over, gives_no_pass}
use Rattle.network.proofs.Verdict.{pass_exactly, twelve_never, pass_bounds_silence}
use Rattle.decoding.specs.Bytes.{AreBytes}
use Rattle.reader.specs.Scan.{readable, says}
use Rattle.reader.specs.File.{file_model}
use Rattle.reader.proofs.Formed.{model_formed}
use Rattle.filling.specs.Building.{zeros, padded}
use Rattle.filling.proofs.Fillings.{padded_take}
use Rattle.verdict.specs.Answers.{needed, sections_for}
use Rattle.analysis.specs.Analysis.{area_after}
use Rattle.analysis.specs.Promise.{verdict_on, section, PassExactly, SectionsAreLists, PassBoundsSilence}
use Rattle.analysis.specs.Promise.{InconclusiveIsFirst, ElevenIsFirst, TwelveNever}
use Rattle.verdict.proofs.Sections.{AllFit, fit_at, section_at}
use Rattle.analysis.proofs.Outcomes.{Outcome, unread, roomless, judged, outcome, read_not}
use Rattle.tests.specs.Reasons.{number_of}

-- lists of which none is over fit their sections
fit_all : (n : ℕ) (ts : List Network) → ((j : ℕ) → j < length ts → is_over n (get_or ts j nowhere) ≡ false) → AllFit n ts
unfolding AllFit is_over
fit_all n [] f = tt
fit_all n (t ∷ ts) f =
    (ltb-false most_pairs (length (list_of n t)) (f zero (omega arith)), fit_all n ts (λ j l. f (suc j) (omega arith)))

-- a list stands in its padded section: its pairs, then zeros
padded_parts : (xs : List ℕ) → (take (length xs) (padded xs) ≡ xs) ×
    (drop (length xs) (padded xs) ≡ zeros (most_pairs - length xs))
unfolding padded
padded_parts xs = (padded_take xs, drop-append_seam xs (zeros (most_pairs - length xs)))

module _ (M : Model) (w : WellFormed M) (few : M.events ≤ 16) where
  formed : (k : ℕ) → k < length M.nodes → Formed M.events (node_network M k)
  formed = nodes_formed M w

  -- a node that gives nothing raises no flag, and its list does not pass its limit
  no_flag_at : (k : ℕ) → k < length M.nodes → flag_of M.events (node_network M k) ≡ false
      → ¬ Flag M.events (node_network M k)
  no_flag_at k l q f = rw q at ((flag_iff M.events few (node_network M k) (formed k l)).1 f)

  quiet_passes : (k : ℕ) → k < length M.nodes → Quiet M.events (node_network M k) → NodePasses M k
  unfolding NodePasses is_over
  quiet_passes k l h = (
    no_flag_at k l h.no_flag,
    λ xs x. rw (list_unique M.events few (node_network M k) (formed k l) xs x)
        (ltb-false most_pairs (length (list_of M.events (node_network M k))) h.not_over),
  )

  -- after a pass every list fits, and the bound is the model's
  passed_fits : (b : ℕ) → verdict M ≡ pass b → AllFit M.events (networks M) × (b ≡ bound M)
  unfolding node_network
  passed_fits b p = at (pass_over M w)
    where
      at : PassOver M → AllFit M.events (networks M) × (b ≡ bound M)
      at (all_quiet q quiet) = (
        fit_all M.events (networks M) (λ j l. (quiet j (rw (networks_length M) at l)).not_over),
        cc,
      )
      at (stopped_at j l before g) =
          absurd (gives_no_pass M.events j b (node_network M j) (verdict M) g p)

  first_flag : (k : ℕ) → verdict M ≡ inconclusive k
      → (k < length M.nodes) × Flag M.events (node_network M k) × ((j : ℕ) → j < k → NodePasses M j)
  first_flag k p = at (pass_over M w)
    where
      at : PassOver M
          → (k < length M.nodes) × Flag M.events (node_network M k) × ((j : ℕ) → j < k → NodePasses M j)
      at (all_quiet q quiet) = let z : ◌≡◌ {A = ℕ} 0 1 = cc in absurd (omega arith)
      at (stopped_at j l before (gives_12 e q)) = let z : ◌≡◌ {A = ℕ} 0 1 = cc in absurd (omega arith)
      at (stopped_at j l before (gives_flag e f q)) =
          let same : k ≡ j = cc in
          rw same (
            l,
            (flag_iff M.events few (node_network M j) (formed j l)).0 (rw f tt),
            λ i h. quiet_passes i (omega arith) (before i h),
          )
      at (stopped_at j l before (gives_11 e f o q)) = let z : ◌≡◌ {A = ℕ} 0 1 = cc in absurd (omega arith)

  first_over : (k : ℕ) → verdict M ≡ refused 11 k
      → (k < length M.nodes) × (¬ Flag M.events (node_network M k))
      × ((xs : List ℕ) → IsListOf M.events (node_network M k) xs → most_pairs < length xs)
      × ((j : ℕ) → j < k → NodePasses M j)
  unfolding is_over
  first_over k p = at (pass_over M w)
    where
      at : PassOver M
          → (k < length M.nodes) × (¬ Flag M.events (node_network M k))
          × ((xs : List ℕ) → IsListOf M.events (node_network M k) xs → most_pairs < length xs)
          × ((j : ℕ) → j < k → NodePasses M j)
      at (all_quiet q quiet) = let z : ◌≡◌ {A = ℕ} 0 1 = cc in absurd (omega arith)
      at (stopped_at j l before (gives_12 e q)) = let z : ◌≡◌ {A = ℕ} 12 11 = cc in absurd (omega arith)
      at (stopped_at j l before (gives_flag e f q)) = let z : ◌≡◌ {A = ℕ} 0 1 = cc in absurd (omega arith)
      at (stopped_at j l before (gives_11 e f o q)) =
          let same : k ≡ j = cc in
          rw same (
            l,
            no_flag_at j l f,
            λ xs x. rw (list_unique M.events few (node_network M j) (formed j l) xs x)
                (ltb-true most_pairs (length (list_of M.events (node_network M j))) o),
            λ i h. quiet_passes i (omega arith) (before i h),
          )

-- the model of a readable file
module _ (s : List ℕ) (y : AreBytes s) (e : says s ≡ readable) where
  well : WellFormed (file_model s)
  well = (model_formed s y e).well_formed

  few_events : (file_model s).events ≤ 16
  few_events = (model_formed s y e).within_limits.events_limit.1

pub passes_exactly : PassExactly
unfolding PassExactly
passes_exactly s area y e r = at (outcome s area)
  where
    at : Outcome s area
        → (verdict_on s area ≡ pass (bound (file_model s)))
        ↔ ((k : ℕ) → k < length (file_model s).nodes → NodePasses (file_model s) k)
    at (unread f q m v) = absurd (read_not s f e q)
    at (roomless a l v) = absurd (omega arith)
    at (judged a l v z) = rw v (pass_exactly (file_model s) (well s y e) (few_events s y e))

pub sections_are_lists : SectionsAreLists
unfolding SectionsAreLists sections_for node_network
sections_are_lists s area y b p k h = at (outcome s area)
  where
    at : Outcome s area → (count : ℕ) × (count ≤ most_pairs)
        × IsListOf (file_model s).events (node_network (file_model s) k) (take count (section (area_after s area) k))
        × (drop count (section (area_after s area) k) ≡ zeros (most_pairs - count))
    at (unread f q m v) = let z : ◌≡◌ {A = ℕ} 0 1 = cc in absurd (omega arith)
    at (roomless a l v) = let z : ◌≡◌ {A = ℕ} 0 1 = cc in absurd (omega arith)
    at (judged a l v z) =
        let M = file_model s in
        let passed : verdict M ≡ pass b = sym v ∙ p in
        let fits = (passed_fits M (well s y a) (few_events s y a) b passed).0 in
        let long : k < length (networks M) = rw (networks_length M) h in
        let xs = list_of M.events (node_network M k) in
        let there : section (area_after s area) k ≡ padded xs =
        ap (λ (t : List ℕ). section t k)
        (z ∙ ap (λ (u : Verdict). sections_for M u ++ drop (needed M) area) passed)
        ∙ section_at M.events (networks M) k (drop (needed M) area) fits long in
        rw there (
          length xs,
          fit_at M.events (networks M) k fits long,
          rw (padded_parts xs).0
              (list_is M.events (few_events s y a) (node_network M k) (nodes_formed M (well s y a) k h)),
          (padded_parts xs).1,
        )

pub pass_bounds : PassBoundsSilence
unfolding PassBoundsSilence
pass_bounds s area y b p = at (outcome s area)
  where
    at : Outcome s area → SilenceBelow (root (file_model s)) b × (b ≡ bound (file_model s))
    at (unread f q m v) = let z : ◌≡◌ {A = ℕ} 0 1 = cc in absurd (omega arith)
    at (roomless a l v) = let z : ◌≡◌ {A = ℕ} 0 1 = cc in absurd (omega arith)
    at (judged a l v z) = (
      pass_bounds_silence (file_model s) (well s y a) (few_events s y a) b (sym v ∙ p),
      (passed_fits (file_model s) (well s y a) (few_events s y a) b (sym v ∙ p)).1,
    )

pub inconclusive_is_first : InconclusiveIsFirst
unfolding InconclusiveIsFirst
inconclusive_is_first s area y k p = at (outcome s area)
  where
    at : Outcome s area
        → (k < length (file_model s).nodes) × Flag (file_model s).events (node_network (file_model s) k)
        × ((j : ℕ) → j < k → NodePasses (file_model s) j)
    at (unread f q m v) = let z : ◌≡◌ {A = ℕ} 0 1 = cc in absurd (omega arith)
    at (roomless a l v) = let z : ◌≡◌ {A = ℕ} 0 1 = cc in absurd (omega arith)
    at (judged a l v z) = first_flag (file_model s) (well s y a) (few_events s y a) k (sym v ∙ p)

pub eleven_is_first : ElevenIsFirst
unfolding ElevenIsFirst
eleven_is_first s area y k p = at (outcome s area)
  where
    at : Outcome s area
        → (k < length (file_model s).nodes) × (¬ Flag (file_model s).events (node_network (file_model s) k))
        × ((xs : List ℕ) → IsListOf (file_model s).events (node_network (file_model s) k) xs → most_pairs < length xs)
        × ((j : ℕ) → j < k → NodePasses (file_model s) j)
    at (unread f q m v) = let z : number_of f.reason ≡ 11 = cc in absurd (omega arith)
    at (roomless a l v) = let z : ◌≡◌ {A = ℕ} 13 11 = cc in absurd (omega arith)
    at (judged a l v z) = first_over (file_model s) (well s y a) (few_events s y a) k (sym v ∙ p)

pub twelve_is_never : TwelveNever
unfolding TwelveNever
twelve_is_never s area y k p = at (outcome s area)
  where
    at : Outcome s area → ⊥
    at (unread f q m v) = let z : number_of f.reason ≡ 12 = cc in omega arith
    at (roomless a l v) = let z : ◌≡◌ {A = ℕ} 13 12 = cc in omega arith
    at (judged a l v z) = twelve_never (file_model s) (well s y a) (few_events s y a) k (sym v ∙ p)

-- The answer and the area at the end: without room, after a pass, after a stop, and for a file that is not readable.
-- Assumes nothing.
use Rattle.std.proofs.Common.{◌≡◌, refl, sym, subst, ap, ◌∙◌, true, false, List, ◌++◌, ℕ, ◌*◌, ◌≤◌, ◌<◌, arith, length}
use Rattle.std.proofs.Common.{take, drop, length-take-le, take_all, lt-ltb, le-ltb}
use Rattle.network.specs.Network.{Network}
use Rattle.network.specs.Model.{Model, networks}
use Rattle.network.specs.Verdict.{Verdict, most_pairs, verdict}
use Rattle.network.proofs.Nodes.{networks_length}
use Rattle.records.proofs.Choices.{true_not_false}
use Rattle.progress.specs.declared.Progress.{Progress}
use Rattle.tests.specs.declared.Refusal.{Refusal}
use Rattle.reader.specs.Scan.{reading_of, said_of, says, readable}
use Rattle.reader.specs.File.{file_model}
use Rattle.filling.specs.Building.{zeros}
use Rattle.verdict.specs.declared.Verdict.TheVariants.{Pass, Inconclusive}
use Rattle.verdict.specs.Answers.{verdict_of, needed, sections_of, sections_for, Answer}
use Rattle.analysis.specs.Analysis.{is_pass, pass_of, sections_after, answer_at, area_at, analysis_of, area_after}
use Rattle.verdict.specs.Sweeping.{swept_to, through, BehindKept}
use Rattle.tests.specs.Reasons.{refusal}
use Rattle.std.specs.Prelude.{Result, Ok, Err}
use Rattle.tests.specs.declared.Reason.TheVariants.{NoRoom}

pub need_is : (M : Model) (nodes : ℕ) → nodes ≡ length M.nodes → 256 * nodes ≡ needed M
unfolding needed
need_is M nodes e = ap (λ (x : ℕ). 256 * x) e

module _ (M : Model) (area : List ℕ) where
  pub no_room : length area < needed M → (r : Answer) → r ≡ Err (refusal NoRoom 0)
      → (verdict_of r ≡ pass_of M area) × (area ≡ sections_after M area)
  unfolding verdict_of pass_of sections_after
  no_room h r e = rw (lt-ltb (length area) (needed M) h) (ap verdict_of e, refl)

  has_room : needed M ≤ length area → (r : Answer) (area' : List ℕ) → verdict_of r ≡ verdict M
      → area' ≡ sections_for M (verdict M) ++ drop (needed M) area
      → (verdict_of r ≡ pass_of M area) × (area' ≡ sections_after M area)
  unfolding pass_of sections_after
  has_room h r area' e f = rw (le-ltb (length area) (needed M) h) (e, f)

  all_swept : swept_to M (length M.nodes) area ≡ sections_of M.events (networks M) ++ drop (needed M) area
  unfolding swept_to needed
  all_swept =
      ap (λ (ts : List Network). sections_of M.events ts ++ drop (most_pairs * length M.nodes) area)
      (take_all (length M.nodes) (networks M) (omega (arith, networks_length M)))

  swept_pass : (area' : List ℕ) (r : Answer) (v : Verdict) → is_pass r ≡ true → verdict_of r ≡ v
      → area' ≡ swept_to M (through M v) area → area' ≡ sections_for M v ++ drop (needed M) area
  unfolding verdict_of through sections_for is_pass
  swept_pass area' (Ok (Pass b)) v h e w =
      subst (λ u. area' ≡ swept_to M (through M u) area → area' ≡ sections_for M u ++ drop (needed M) area) e
      (λ w. w ∙ all_swept) w
  swept_pass area' (Ok (Inconclusive k)) v h e w = absurd (true_not_false (sym h))
  swept_pass area' (Err f) v h e w = absurd (true_not_false (sym h))

  stop_clears : (r : Answer) (v : Verdict) → is_pass r ≡ false → verdict_of r ≡ v → sections_for M v ≡ zeros (needed M)
  unfolding verdict_of sections_for is_pass
  stop_clears (Ok (Pass b)) v h e = absurd (true_not_false h)
  stop_clears (Ok (Inconclusive k)) v h e = subst (λ u. sections_for M u ≡ zeros (needed M)) e refl
  stop_clears (Err f) v h e = subst (λ u. sections_for M u ≡ zeros (needed M)) e refl

  -- after a pass
  pub ends_pass : needed M ≤ length area → (r : Answer) (area' : List ℕ) → is_pass r ≡ true
      → verdict_of r ≡ verdict M → area' ≡ swept_to M (through M (verdict M)) area
      → (verdict_of r ≡ pass_of M area) × (area' ≡ sections_after M area)
  ends_pass h r area' q e w = has_room h r area' e (swept_pass area' r (verdict M) q e w)

  -- after a stop, with the sections cleared
  pub ends_stop : needed M ≤ length area → (r : Answer) (part area' : List ℕ) (n : ℕ) → is_pass r ≡ false
      → verdict_of r ≡ verdict M → BehindKept M area area' → n ≡ needed M
      → part ≡ zeros (length (take n area'))
      → (verdict_of r ≡ pass_of M area) × (part ++ drop n area' ≡ sections_after M area)
  ends_stop h r part area' n q e w z p =
      let s = stop_clears r (verdict M) q e in
      let k : length (take n area') ≡ needed M =
      length-take-le n area' (omega (arith, z, w.0)) ∙ z in
      has_room h r (part ++ drop n area') e (rw (s, p, k, z, w.1) refl)

-- a file that is not readable, and one that is
module _ (s area : List ℕ) where
  pub ends_unreadable : (f : Refusal) → reading_of s ≡ Err f
      → (verdict_of (Err f) ≡ analysis_of s area) × (area ≡ area_after s area)
  unfolding analysis_of area_after answer_at area_at
  ends_unreadable f q = rw q (refl, refl)

  -- read as the bytes b, which are those of the file
  pub ends_readable : (b : List ℕ) → b ≡ s → says b ≡ readable
      → (pass_of (file_model b) area ≡ analysis_of s area) × (sections_after (file_model b) area ≡ area_after s area)
  unfolding says said_of analysis_of area_after answer_at area_at
  ends_readable b q e = rw q (at (reading_of s) (sym (ap says q) ∙ e))
    where
      at : (v : Result Progress Refusal) → said_of v ≡ readable
          → (pass_of (file_model s) area ≡ answer_at v s area) × (sections_after (file_model s) area ≡ area_at v s area)
      at (Ok g) e = (refl, refl)
      at (Err f) e = let z : ◌≡◌ {A = ℕ} 0 1 = cc in absurd (omega arith)

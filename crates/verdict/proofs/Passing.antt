-- The pass over the nodes of a readable file: what holds when it comes to node k, what it sees there, and how it goes
-- on or stops. Assumes nothing.
use Rattle.std.proofs.Common.{◌≡◌, refl, sym, ap, ap₂, ◌∙◌, Bool, true, false, cond, ◌≢◌, List, [], ◌∷◌, ◌++◌, append_assoc}
use Rattle.std.proofs.Common.{ℕ, suc, ◌+◌, ◌-◌, ◌*◌, ◌≤◌, ◌<◌, not-suc-le-zero, add-one, arith, ltb, length}
use Rattle.std.proofs.Common.{take, drop, get_or, set, replicate, length-append, length-drop, length-set}
use Rattle.std.proofs.Common.{take-suc, drop-cons, take_at, take_all, drop-drop, length-take-le, get_or-take}
use Rattle.std.proofs.Common.{get_or-set_same, get_or-set_other, ltb-false}
use mathlib.Core.List.{flat_map}
use native.Mathlib.Decide.{dec_lt}
use lib.ListN.{length-replicate}
use lib.Seq.{drop-append-add}
use Rattle.network.specs.Network.{Network}
use Rattle.network.specs.Model.{Model, nowhere, networks, node_network, bound}
use Rattle.network.specs.Lists.{list_of, flag_of}
use Rattle.network.specs.Verdict.{pass, inconclusive, refused, most_pairs, operand_empty, is_over, verdict_from}
use Rattle.network.specs.Verdict.{verdict}
use Rattle.filling.specs.Building.{padded, stored}
use Rattle.filling.proofs.Fillings.{padded_length}
use Rattle.verdict.specs.declared.Verdict.TheVariants.{Inconclusive}
use Rattle.verdict.specs.Answers.{verdict_of, needed, sections_of, Answer}
use Rattle.verdict.specs.Sweeping.{swept_to, through, BehindKept}
use Rattle.nodes.specs.Nodes.{list_at, built_count, built_in}
use Rattle.verdict.proofs.Sections.{AllFit, fit_more, sections_more, sections_length, list_there}
use Rattle.tests.specs.Reasons.{refusal}
use Rattle.std.specs.Prelude.{Ok, Err, Some, None}
use Rattle.tests.specs.declared.Reason.TheVariants.{EmptyFirst, TooManyPairs}

-- the pass over model M's nodes has come to node k with this area and these counts, from area₀: the sections before k
-- are the lists, none of which is over, and what is behind them is as it was
pub record Passing (M : Model) (area₀ : List ℕ) (k : ℕ) (area counts : List ℕ) : Type 0 where
  pub upto : k ≤ length (networks M)
  pub fits : AllFit M.events (take k (networks M))
  pub whole : area ≡ sections_of M.events (take k (networks M)) ++ drop (most_pairs * k) area₀
  pub counted : (i : ℕ) → i < k → get_or counts i 0 ≡ length (list_of M.events (node_network M i))
  pub full : length counts ≡ 32
  pub so_far : verdict M ≡ verdict_from M.events (bound M) k (drop k (networks M))

-- the pass over model M's nodes ends with an answer and an area, from area₀
abbrev pub Ends : Model → List ℕ → Answer → List ℕ → Type 0
Ends M area₀ r area =
    (verdict_of r ≡ verdict M) × ((area ≡ swept_to M (through M (verdict M)) area₀) × BehindKept M area₀ area)

pub pass_start : (M : Model) (area : List ℕ) → Passing M area 0 area (replicate 32 0)
unfolding AllFit sections_of verdict flat_map
pass_start M area =
    record {
      upto = omega arith;
      fits = tt;
      whole = refl;
      counted = λ i h. absurd (not-suc-le-zero h);
      full = length-replicate {A = ℕ} 32 0;
      so_far = refl;
    }

module _ (M : Model) (area₀ : List ℕ) (k : ℕ) (area counts : List ℕ) (P : Passing M area₀ k area counts) where
  -- the networks before node k
  abbrev before : List Network
  before = take k (networks M)

  before_length : length before ≡ k
  before_length = length-take-le k (networks M) P.upto

  front_length : length (sections_of M.events before) ≡ most_pairs * k
  front_length =
      sections_length M.events before P.fits ∙ ap (λ (x : ℕ). most_pairs * x) before_length

  pub same_length : most_pairs * k ≤ length area₀ → length area ≡ length area₀
  same_length h =
      ap length P.whole ∙ length-append (sections_of M.events before) (drop (most_pairs * k) area₀)
      ∙ omega (arith, front_length, length-drop (most_pairs * k) area₀)

  -- the sections of the nodes before k
  pub front : take (most_pairs * k) area ≡ sections_of M.events before
  front =
      ap (take (most_pairs * k)) P.whole
      ∙ take_at (sections_of M.events before) (drop (most_pairs * k) area₀) (most_pairs * k) front_length

  -- the list of a node before k stands in its section
  pub list_before : (i : ℕ) → i < k
      → list_at counts (take (most_pairs * k) area) i ≡ list_of M.events (node_network M i)
  unfolding list_at node_network
  list_before i h =
      let e : get_or before i nowhere ≡ node_network M i = get_or-take k (networks M) i nowhere h in
      let w = list_there M.events before i P.fits (omega (arith, before_length)) in
      rw (P.counted i h, front, ← e) w

  behind : (n : ℕ) → k ≤ n → drop (most_pairs * n) area ≡ drop (most_pairs * n) area₀
  behind n h =
      let q : most_pairs * n ≡ length (sections_of M.events before) + (most_pairs * n - most_pairs * k) =
      omega (arith, front_length) in
      let r : most_pairs * k + (most_pairs * n - most_pairs * k) ≡ most_pairs * n = omega arith in
      ap₂ (λ (m : ℕ) (l : List ℕ). drop m l) q P.whole
      ∙ drop-append-add (sections_of M.events before) (drop (most_pairs * k) area₀) (most_pairs * n - most_pairs * k)
      ∙ drop-drop (most_pairs * n - most_pairs * k) (most_pairs * k) area₀ ∙ ap (λ (m : ℕ). drop m area₀) r

  kept : k ≤ length M.nodes → most_pairs * length M.nodes ≤ length area₀ → BehindKept M area₀ area
  unfolding needed
  kept h r = (same_length (omega arith), behind (length M.nodes) h)

  -- all nodes are through: a pass
  pub pass_ends : length (networks M) ≡ length M.nodes → length M.nodes ≤ k
      → most_pairs * length M.nodes ≤ length area₀ → (r : Answer) → verdict_of r ≡ pass (bound M)
      → Ends M area₀ r area
  unfolding swept_to through verdict_from
  pass_ends l h room r e =
      let q : k ≡ length (networks M) = omega (arith, P.upto) in
      let m : length M.nodes ≡ k = omega (arith, P.upto) in
      let v : verdict M ≡ pass (bound M) =
      P.so_far ∙ ap (λ (x : ℕ). verdict_from M.events (bound M) k (drop x (networks M))) q
      ∙ ap (verdict_from M.events (bound M) k) (drop_all (networks M)) in
      let b = kept (omega (arith, m)) room in
      rw v (e, (rw m P.whole, b))
    where
      drop_all : (ts : List Network) → drop (length ts) ts ≡ []
      drop_all [] = refl
      drop_all (t ∷ ts) = drop_all ts

  module _ (l : length (networks M) ≡ length M.nodes) (h : k < length M.nodes) where
    -- node k's own turn
    turn : verdict M ≡ verdict_from M.events (bound M) k (node_network M k ∷ drop (suc k) (networks M))
    unfolding node_network
    turn =
        P.so_far
        ∙ ap (verdict_from M.events (bound M) k) (drop-cons (networks M) k nowhere (omega (arith, l)))

    quiet_turn : operand_empty M.events (node_network M k) ≡ false → flag_of M.events (node_network M k) ≡ false
        → ltb most_pairs (length (list_of M.events (node_network M k))) ≡ false
        → verdict M ≡ verdict_from M.events (bound M) (suc k) (drop (suc k) (networks M))
    unfolding verdict_from is_over
    quiet_turn e f o = turn ∙ rw (e, f, o) refl

    taken_more : take (suc k) (networks M) ≡ before ++ (node_network M k ∷ [])
    unfolding node_network
    taken_more = take-suc (networks M) k nowhere (omega (arith, l))

    -- 12 at node k
    pub stop_empty : most_pairs * length M.nodes ≤ length area₀
        → operand_empty M.events (node_network M k) ≡ true
        → Ends M area₀ (Err (refusal EmptyFirst k)) area
    unfolding verdict_of swept_to through verdict_from
    stop_empty r e =
        let v : verdict M ≡ refused 12 k = turn ∙ rw e in rw v (refl, (P.whole, kept (omega arith) r))

    -- the flag at node k
    pub stop_flag : most_pairs * length M.nodes ≤ length area₀
        → operand_empty M.events (node_network M k) ≡ false → flag_of M.events (node_network M k) ≡ true
        → Ends M area₀ (Ok (Inconclusive k)) area
    unfolding verdict_of swept_to through verdict_from
    stop_flag r e f =
        let v : verdict M ≡ inconclusive k = turn ∙ rw (e, f) in rw v (refl, (P.whole, kept (omega arith) r))

    -- 11 at node k: its list xs does not count, and the rest of the area stays
    pub stop_over : most_pairs * length M.nodes ≤ length area₀
        → operand_empty M.events (node_network M k) ≡ false → flag_of M.events (node_network M k) ≡ false
        → (xs : List ℕ) → xs ≡ list_of M.events (node_network M k) → None ≡ built_count xs
        → (before' rest rest' : List ℕ) → before' ++ rest ≡ area → rest' ≡ built_in xs rest
        → Ends M area₀ (Err (refusal TooManyPairs k)) (before' ++ rest')
    unfolding verdict_of swept_to through verdict_from is_over built_count built_in
    stop_over r e f xs x c before' rest rest' p w =
        let o : ltb most_pairs (length xs) ≡ true = by (ltb most_pairs (length xs)) c in
        let v : verdict M ≡ refused 11 k = turn ∙ rw (e, f, ← x, o) in
        rw (w, o, p, v) (refl, (P.whole, kept (omega arith) r))
      where
        by : (b : Bool) → None ≡ cond b None (Some (length xs)) → b ≡ true
        by true c = refl
        by false c = let z : ◌≡◌ {A = ℕ} 0 1 = cc in absurd (omega arith)

    -- node k gives nothing: its list xs is stored in the rest of the area, and counts
    module _ (few : k < 32) (room : most_pairs * length M.nodes ≤ length area₀)
        (e : operand_empty M.events (node_network M k) ≡ false) (f : flag_of M.events (node_network M k) ≡ false)
        (xs : List ℕ) (x : xs ≡ list_of M.events (node_network M k)) (count : ℕ) (c : Some count ≡ built_count xs) where
      kept_few : ltb most_pairs (length xs) ≡ false
      unfolding built_count
      kept_few = by (ltb most_pairs (length xs)) c
        where
          by : (b : Bool) → Some count ≡ cond b None (Some (length xs)) → b ≡ false
          by true c = let z : ◌≡◌ {A = ℕ} 0 1 = cc in absurd (omega arith)
          by false c = refl

      fit : length xs ≤ most_pairs
      fit = ltb-false most_pairs (length xs) kept_few

      count_is : count ≡ length xs
      unfolding built_count
      count_is = let z : Some count ≡ Some (length xs) = rw kept_few at c in cc

      stored_whole : (rest : List ℕ) → most_pairs ≤ length rest
          → built_in xs rest ≡ padded xs ++ drop most_pairs rest
      unfolding built_in stored
      stored_whole rest l =
          let q : length (padded xs) ≡ most_pairs = padded_length xs fit in
          rw kept_few (ap₂ (λ (us vs : List ℕ). us ++ vs) (take_all (length rest) (padded xs) (omega arith))
          (ap (λ (m : ℕ). drop m rest) q))

      count_more : (i : ℕ) → i < k + 1 → get_or (set counts k count) i 0 ≡ length (list_of M.events (node_network M i))
      count_more i g = go (dec_lt i k)
        where
          go : Dec (i < k) → get_or (set counts k count) i 0 ≡ length (list_of M.events (node_network M i))
          go (yes p) = let ne : i ≢ k = λ z. omega arith in get_or-set_other counts k i count 0 ne ∙ P.counted i p
          go (no p) =
              let z : i ≡ k = omega arith in
              rw z (get_or-set_same counts k count 0 (omega (arith, P.full, few)) ∙ count_is ∙ ap length x)

      pub go_on : (before' rest rest' : List ℕ) → before' ≡ take (most_pairs * k) area
          → rest ≡ drop (most_pairs * k) area → rest' ≡ built_in xs rest
          → Passing M area₀ (k + 1) (before' ++ rest') (set counts k count)
      unfolding is_over
      go_on before' rest rest' p q w =
          record {
            upto = omega (arith, l);
            fits = rw (add-one k, taken_more) (fit_more M.events before (node_network M k) P.fits (rw (← x) fit));
            whole = whole_more;
            counted = count_more;
            full = length-set counts k count ∙ P.full;
            so_far = rw (add-one k) (quiet_turn e f (rw (← x) kept_few));
          }
        where
          m : most_pairs * (k + 1) ≡ most_pairs * k + most_pairs
          m = omega arith

          back : drop most_pairs rest ≡ drop (most_pairs * (k + 1)) area₀
          back =
              ap (drop most_pairs) q ∙ drop-drop most_pairs (most_pairs * k) area
              ∙ ap (λ (n : ℕ). drop n area) (sym m) ∙ behind (k + 1) (omega arith)

          long : most_pairs ≤ length rest
          long =
              omega (
                arith,
                ap length q,
                length-drop (most_pairs * k) area,
                same_length (omega (arith, room)),
                room,
                m,
              )

          whole_more : before' ++ rest'
              ≡ sections_of M.events (take (k + 1) (networks M)) ++ drop (most_pairs * (k + 1)) area₀
          whole_more =
              rw (
                p,
                front,
                w,
                stored_whole rest long,
                back,
                add-one k,
                taken_more,
                sections_more M.events before (node_network M k),
                append_assoc (sections_of M.events before) (padded (list_of M.events (node_network M k)))
                    (drop (most_pairs * suc k) area₀),
              ) (ap (λ (t : List ℕ). sections_of M.events before ++ (padded t ++ drop (most_pairs * suc k) area₀)) x)

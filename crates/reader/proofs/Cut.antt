-- Demand 1, first half: a readable file cut anywhere is refused with 2 at the start of the record that the cut is in.
-- Assumes nothing.
use Rattle.std.proofs.lemmas.List.{drop-take}
use Rattle.std.proofs.Common.{◌≡◌, refl, sym, ap, ◌∙◌, Bool, true, false, cond, List, ◌++◌, ◌≢◌, ◌⊎◌}
use Rattle.std.proofs.Common.{inl, inr, ℕ, zero, suc, ◌+◌, ◌-◌, ◌≤◌, ◌<◌, arith, ltb, length, take, drop}
use Rattle.std.proofs.Common.{length-drop, take-append-drop, length-take-le, lt-ltb, le-ltb, ltb-true, ltb-false}
use Rattle.std.proofs.Common.{ne_eqb}
use Rattle.records.specs.declared.Record.{Record}
use Rattle.progress.specs.declared.Progress.{Progress}
use Rattle.records.specs.Kinds.{body_length, size_of, end_kind}
use Rattle.decoding.specs.Bytes.{first_record}
use Rattle.progress.specs.Progress.{start, take_record}
use Rattle.tests.specs.Tests.{bad_kind, cut_short}
use Rattle.tests.specs.FirstHit.{first_hit}
use Rattle.records.proofs.Sizes.{size_positive}
use Rattle.decoding.proofs.Bytes.{same_first, cut_kind}
use Rattle.tests.proofs.Passing.{Passed, hit_cut, pass_with}
use Rattle.reader.specs.declared.Scan.{Scan}
use Rattle.reader.specs.declared.Scan.TheVariants.{Stopped, Finished}
use Rattle.reader.specs.Scan.{scan_from, scan_of, readable, refused, says}
use Rattle.reader.specs.File.{records_from, records_of}
use Rattle.reader.specs.Promise.{start_of}
use Rattle.reader.proofs.Turns.{rest, Then, Turn, turn_out, turn_passed, none_finished}
use Rattle.reader.proofs.Turns.{scan_stopped, scan_refused, scan_next}
use Rattle.reader.proofs.Records.{records_next, end_known}
use Rattle.reader.proofs.Readings.{Finishes, readable_out, stopped_says, refused_says}
use Rattle.tests.specs.Reasons.{refusal}
use Rattle.std.specs.Prelude.{Result, Ok, Err}
use Rattle.tests.specs.declared.Reason.TheVariants.{CutShort}
use Rattle.tests.specs.declared.Refusal.{Refusal}

-- the scan of a cut file: it stops where a record should begin, or is refused with 2
abbrev pub Cut : Result Scan Refusal → ℕ → Type 0
Cut v place = ((g : Progress) × (v ≡ Ok (Stopped g)) × (g.place ≡ place)) ⊎ (v ≡ Err (refusal CutShort place))

drop_take : (n k : ℕ) (b : List ℕ) → n ≤ k → drop n (take k b) ≡ take (k - n) (drop n b)
drop_take n k b h = let z : n + (k - n) ≡ k = omega arith in rw z at (drop-take n (k - n) b)

-- a first record that passes, and a cut before the end of the bytes
module _ (g : Progress) (b : List ℕ) (k : ℕ) (some : 0 < length b) (p : Passed g (first_record b) (length b))
    (l : k < length b) where
  taken : length (take k b) ≡ k
  taken = length-take-le k b (omega arith)

  -- the cut is in the first record
  pub inside_first : (f' : ℕ) → k ≤ f' → k < size_of (first_record b).kind
      → Cut (scan_from f' g (take k b)) (g.place + 0)
  inside_first f' e c = go k f' refl e
    where
      go : (j : ℕ) (f' : ℕ) → k ≡ j → k ≤ f' → Cut (scan_from f' g (take k b)) (g.place + 0)
      go zero f' q e = inl (g, scan_stopped f' g (take k b) (taken ∙ q), omega arith)
      go (suc j) zero q e = absurd (omega arith)
      go (suc j) (suc f') q e =
          let kind : (first_record (take k b)).kind ≡ (first_record b).kind = cut_kind k b (omega arith) some in
          let known : bad_kind (first_record (take k b)) ≡ false = rw kind p.kind_known in
          let cut : cut_short (first_record (take k b)) (length (take k b)) ≡ true =
          rw (kind, taken) (lt-ltb k (size_of (first_record b).kind) c) in
          let place : g.place ≡ g.place + 0 = omega arith in
          inr
          (scan_refused f' g (take k b) CutShort (omega (arith, taken))
          (hit_cut g (first_record (take k b)) (length (take k b)) known cut)
          ∙ ap (λ (x : ℕ). Err (refusal CutShort x)) place)

  -- the cut is behind the first record, which is then no end
  module _ (c : size_of (first_record b).kind ≤ k) where
    no_end : (first_record b).kind ≢ end_kind
    unfolding size_of body_length
    no_end q =
        let z : length b ≡ 3 = (end_known g b p q).0 in
        let size : size_of (first_record b).kind ≡ 3 = ap size_of q in
        omega arith

    same : first_record (take k b) ≡ first_record b
    same = go (take k b) (drop k b) (take-append-drop k b) (omega (arith, taken, size_positive (first_record b).kind))
        kind
      where
        kind : (first_record (take k b)).kind ≡ (first_record b).kind
        kind = cut_kind k b (omega (arith, size_positive (first_record b).kind)) some

        go : (x y : List ℕ) → x ++ y ≡ b → size_of (first_record b).kind ≤ length x
            → (first_record x).kind ≡ (first_record b).kind
            → first_record x ≡ first_record b
        go x y q m e =
            sym (same_first x y (omega (arith, size_positive (first_record b).kind)) (rw e m)) ∙ ap first_record q

    pub behind_first : (f' : ℕ) → scan_from (suc f') g (take k b)
        ≡ scan_from f' (take_record g (first_record b)) (take (k - size_of (first_record b).kind) (rest b))
    behind_first f' =
        let tested : first_hit g (first_record (take k b)) (length (take k b)) ≡ Ok tt =
        rw (same, taken)
        (pass_with g (first_record b) k (length b) p (le-ltb k (size_of (first_record b).kind) c)
        (rw (ne_eqb (first_record b).kind end_kind no_end))) in
        scan_next f' g (take k b) (omega (arith, taken, size_positive (first_record b).kind)) tested
        (λ q. no_end (sym (ap (λ (x : Record). x.kind) same) ∙ q))
        ∙ rw (same, drop_take (size_of (first_record b).kind) k b c)

pub cut_scan : (f f' : ℕ) (g h : Progress) (b : List ℕ) (k : ℕ) → k < length b → k ≤ f' → scan_from f g b ≡ Ok (Finished h)
    → Cut (scan_from f' g (take k b)) (g.place + start_of (records_from f b) k)
unfolding start_of take_record
cut_scan zero f' g h b k l m e = none_finished g h b e
cut_scan (suc f) f' g h b k l m e =
    rw (records_next f b t.some_left)
    (go (ltb k size) refl f' m (λ f'' g' b' k'. cut_scan f f'' g' h b' k'))
  where
    t : Turn f g b h
    t = turn_out f g b h e

    passed : Passed g (first_record b) (length b)
    passed = turn_passed f g b h t

    size : ℕ
    size = size_of (first_record b).kind

    go : (x : Bool) → ltb k (size_of (first_record b).kind) ≡ x → (f' : ℕ) → k ≤ f'
        → ((f'' : ℕ) (g' : Progress) (b' : List ℕ) (k' : ℕ) → k' < length b' → k' ≤ f'' → scan_from f g' b' ≡ Ok (Finished h)
        → Cut (scan_from f'' g' (take k' b')) (g'.place + start_of (records_from f b') k'))
        → Cut (scan_from f' g (take k b))
        (g.place + cond x 0
        (size_of (first_record b).kind + start_of (records_from f (rest b)) (k - size_of (first_record b).kind)))
    go true q f' m again = inside_first g b k t.some_left passed l f' m (ltb-true k (size_of (first_record b).kind) q)
    go false q zero m again =
        absurd (omega (arith, ltb-false k (size_of (first_record b).kind) q, size_positive (first_record b).kind))
    go false q (suc f') m again = later (ltb-false k (size_of (first_record b).kind) q) t.then
      where
        later : size_of (first_record b).kind ≤ k → Then f g b h
            → Cut (scan_from (suc f') g (take k b))
            (g.place
            + (size_of (first_record b).kind + start_of (records_from f (rest b)) (k - size_of (first_record b).kind)))
        later c (inl w) = absurd (no_end g b k t.some_left passed l c w.0)
        later c (inr w) =
            let place : g.place + size_of (first_record b).kind + start_of (records_from f (rest b))
            (k - size_of (first_record b).kind)
            ≡ g.place
            + (size_of (first_record b).kind + start_of (records_from f (rest b)) (k - size_of (first_record b).kind)) =
            omega arith in
            rw (behind_first g b k t.some_left passed l c f', ← place)
            (again f' (take_record g (first_record b)) (rest b) (k - size_of (first_record b).kind)
            (omega (arith, length-drop (size_of (first_record b).kind) b))
            (omega (arith, size_positive (first_record b).kind)) w.1)

pub cut_refused : (s : List ℕ) → says s ≡ readable → (k : ℕ) → k < length s
    → says (take k s) ≡ refused 2 (start_of (records_of s) k)
unfolding scan_of records_of start
cut_refused s e k l =
    go (cut_scan (length s) (length (take k s)) start w.at_end s k l (omega (arith, taken)) w.finished)
  where
    w : Finishes s
    w = readable_out s e

    taken : length (take k s) ≡ k
    taken = length-take-le k s (omega arith)

    short : length (take k s) ≤ 4096
    short = omega (arith, taken, w.short)

    zero_add : (x : ℕ) → 0 + x ≡ x
    zero_add x = omega arith

    go : Cut (scan_of (take k s)) (0 + start_of (records_from (length s) s) k)
        → says (take k s) ≡ refused 2 (start_of (records_from (length s) s) k)
    go (inl (g, q, place)) = stopped_says (take k s) short g q ∙ ap (refused 2) (place ∙ zero_add _)
    go (inr q) = refused_says (take k s) short CutShort _ q ∙ ap (refused 2) (zero_add _)

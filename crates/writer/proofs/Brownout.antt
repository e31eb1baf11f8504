-- A brownout at any point: a used part that a success left, cut anywhere, is refused with 2 at the record that the cut
-- is in; and the writer adds nothing behind a record that is cut inside. Assumes nothing.
use Rattle.std.proofs.Common.{◌≡◌, refl, sym, ap, ◌∙◌, Bool, true, false, cond, ◌⊎◌, inl, inr, List, ℕ, zero}
use Rattle.std.proofs.Common.{suc, ◌+◌, ◌-◌, ◌≤◌, ◌<◌, arith, ltb, length, take, length-take, length-take-le}
use Rattle.std.proofs.Common.{take-take, ltb-true, ltb-false}
use Rattle.records.specs.declared.Record.{Record}
use Rattle.progress.specs.declared.Progress.{Progress}
use Rattle.records.specs.Kinds.{end_kind, size_of}
use Rattle.decoding.specs.Bytes.{first_record}
use Rattle.progress.specs.Progress.{start, take_record}
use Rattle.records.proofs.Sizes.{size_positive}
use Rattle.reader.specs.declared.Scan.TheVariants.{Stopped, Finished}
use Rattle.reader.specs.Scan.{scan_from, scan_of, refused, says}
use Rattle.reader.specs.File.{records_from, records_of}
use Rattle.reader.specs.Promise.{start_of}
use Rattle.reader.proofs.Turns.{rest}
use Rattle.reader.proofs.Readings.{stopped_says, refused_says}
use Rattle.reader.proofs.Records.{records_next}
use Rattle.reader.proofs.Cut.{Cut, inside_first, behind_first, cut_scan}
use Rattle.writer.specs.Append.{after_scan, answer_of, buffer_of}
use Rattle.handing.specs.Handing.{handed_in}
use Rattle.writer.specs.Promise.{Succeeds, used_part}
use Rattle.writer.proofs.Answers.{rejected}
use Rattle.writer.proofs.Clean.{CleanTurn, at_end, goes_on, clean_turn, clean_place, rest_length}
use Rattle.writer.proofs.Success.{used_part_scan, used_part_length, used_part_short}
use Rattle.tests.specs.Reasons.{refusal}
use Rattle.std.specs.Prelude.{Ok, Err}
use Rattle.tests.specs.declared.Reason.TheVariants.{CutShort}

-- a scan that stopped cleanly, of bytes that are cut
cut_clean : (f f' : ℕ) (g h : Progress) (b : List ℕ) (k : ℕ) → k < length b → k ≤ f' → length b ≤ f
    → scan_from f g b ≡ Ok (Stopped h)
    → Cut (scan_from f' g (take k b)) (g.place + start_of (records_from f b) k)
unfolding start_of take_record
cut_clean zero f' g h b k l m n e = absurd (omega arith)
cut_clean (suc f) f' g h b k l m n e = at (clean_turn f g b h e) f' m (λ f'' g' b' k'. cut_clean f f'' g' h b' k')
  where
    at : CleanTurn f g b h → (f' : ℕ) → k ≤ f'
        → ((f'' : ℕ) (g' : Progress) (b' : List ℕ) (k' : ℕ) → k' < length b' → k' ≤ f'' → length b' ≤ f
        → scan_from f g' b' ≡ Ok (Stopped h)
        → Cut (scan_from f'' g' (take k' b')) (g'.place + start_of (records_from f b') k'))
        → Cut (scan_from f' g (take k b)) (g.place + start_of (records_from (suc f) b) k)
    at (at_end z q) f' m ih = absurd (omega arith)
    at (goes_on s p ne e') f' m ih = rw (records_next f b s) (by (ltb k (size_of (first_record b).kind)) refl f' m)
      where
        by : (x : Bool) → ltb k (size_of (first_record b).kind) ≡ x → (f' : ℕ) → k ≤ f'
            → Cut (scan_from f' g (take k b))
            (g.place + cond x 0
            (size_of (first_record b).kind + start_of (records_from f (rest b)) (k - size_of (first_record b).kind)))
        by true q f' m = inside_first g b k s p l f' m (ltb-true k (size_of (first_record b).kind) q)
        by false q zero m =
            absurd (omega (arith, ltb-false k (size_of (first_record b).kind) q, size_positive (first_record b).kind))
        by false q (suc f') m =
            let size = size_of (first_record b).kind in
            let c : size ≤ k = ltb-false k size q in
            let r = rest_length g b p in
            let place : g.place + size + start_of (records_from f (rest b)) (k - size)
            ≡ g.place + (size + start_of (records_from f (rest b)) (k - size)) = omega arith in
            rw (behind_first g b k s p l c f', ← place)
            (ih f' (take_record g (first_record b)) (rest b) (k - size) (omega (arith, r.1))
            (omega (arith, size_positive (first_record b).kind))
            (omega (arith, r.1, size_positive (first_record b).kind)) e')

module _ (b : List ℕ) (used k : ℕ) (xs : List ℕ) (end : ℕ) (s : Succeeds b used k xs end) (cut : ℕ)
    (l : cut < end) where
  abbrev u : List ℕ
  u = used_part b used k xs end

  abbrev place : ℕ
  place = start_of (records_of u) cut

  before : cut < length u
  before = omega (arith, used_part_length b used k xs end s)

  taken : length (take cut u) ≡ cut
  taken = length-take-le cut u (omega (arith, before))

  short : length (take cut u) ≤ 4096
  short = omega (arith, taken, before, used_part_short b used k xs end s)

  -- what the scan of the cut part comes to
  cut_comes : Cut (scan_of (take cut u)) place
  unfolding scan_of records_of start
  cut_comes = at (used_part_scan b used k xs end s).0 (used_part_scan b used k xs end s).1
    where
      zero_add : (x : ℕ) → 0 + x ≡ x
      zero_add x = omega arith

      at : (h : Progress) → ((k ≡ end_kind) × (scan_of u ≡ Ok (Finished h))) ⊎ (scan_of u ≡ Ok (Stopped h))
          → Cut (scan_of (take cut u)) place
      at h (inl (q, e)) =
          rw (zero_add place) at
          (cut_scan (length u) (length (take cut u)) start h u cut before (omega (arith, taken)) e)
      at h (inr e) =
          rw (zero_add place) at
          (cut_clean (length u) (length (take cut u)) start h u cut before (omega (arith, taken)) (omega arith) e)

  pub brownout_refused : says (take cut u) ≡ refused 2 place
  brownout_refused = at cut_comes
    where
      at : Cut (scan_of (take cut u)) place → says (take cut u) ≡ refused 2 place
      at (inl (g, q, p)) = stopped_says (take cut u) short g q ∙ ap (refused 2) p
      at (inr q) = refused_says (take cut u) short CutShort place q

  -- behind a record that is cut inside, 2 at that record, and nothing changes
  pub nothing_behind_cut : place < cut → (r : Record)
      → (answer_of (buffer_of b used (handed_in used k xs)) cut r ≡ Err (refusal CutShort place))
      × (buffer_of (buffer_of b used (handed_in used k xs)) cut r ≡ buffer_of b used (handed_in used k xs))
  unfolding after_scan used_part scan_of start
  nothing_behind_cut inner r = at cut_comes
    where
      b' : List ℕ
      b' = buffer_of b used (handed_in used k xs)

      same : take cut b' ≡ take cut u
      same = sym (take-take cut end b' (omega arith))

      fits : cut ≤ length b'
      fits = omega (arith, before, length-take end b')

      at : Cut (scan_of (take cut u)) place
          → (answer_of b' cut r ≡ Err (refusal CutShort place)) × (buffer_of b' cut r ≡ b')
      at (inl (g, q, p)) =
          absurd (omega (arith, clean_place (length (take cut u)) start (take cut u) g (omega arith) q, taken))
      at (inr q) =
          let z = rejected b' cut r fits (omega (arith, short, taken)) (refusal CutShort place) (rw (same, q)) in
          (sym z.0, sym z.1)

-- After a success: the used part is the old one with the record's encoding behind it, and the scan of it finishes or
-- stops cleanly. Assumes nothing.
use Rattle.std.proofs.Common.{◌≡◌, refl, sym, ap, ◌∙◌, Bool, true, false, cond, ◌⊎◌, inl, inr, List, ◌++◌}
use Rattle.std.proofs.Common.{append_assoc, ℕ, ◌≤◌, arith, ltb, length, take, drop, length-append, length-take}
use Rattle.std.proofs.Common.{length-drop, take_at, length-take-le, ltb-false}
use native.Mathlib.Decide.{ℕ_discrete}
use Rattle.records.specs.declared.Record.{Record}
use Rattle.progress.specs.declared.Progress.{Progress}
use Rattle.records.specs.Kinds.{end_kind, size_of}
use Rattle.records.specs.Records.{no_targets, other_record}
use Rattle.decoding.specs.Bytes.{bytes_of}
use Rattle.progress.specs.Progress.{start, take_record}
use Rattle.tests.specs.Tests.{bad_kind}
use Rattle.decoding.proofs.Decodes.{Decodes, decodes_header, decodes_machine, decodes_step, decodes_leaf}
use Rattle.decoding.proofs.Decodes.{decodes_join, decodes_hide, decodes_rename, decodes_end}
use Rattle.tests.proofs.Passing.{passed_out}
use Rattle.records.proofs.Sizes.{each_kind, size_most}
use Rattle.tests.proofs.Meeting.{kind_range}
use Rattle.reader.specs.declared.Scan.TheVariants.{Stopped, Finished}
use Rattle.reader.specs.Scan.{scan_of, readable, refused, says}
use Rattle.reader.proofs.Readings.{readable_in, stopped_says}
use Rattle.writer.specs.Append.{after_scan, answer_of, buffer_after, buffer_of}
use Rattle.handing.specs.Handing.{handed_in}
use Rattle.writer.specs.Promise.{Succeeds, used_part}
use Rattle.handing.proofs.Handing.{handed_any, handed_kind}
use Rattle.writer.proofs.Answers.{Success, success_out, answer_is}
use Rattle.writer.proofs.Appending.{end_finishes, other_stops}
use Rattle.writer.proofs.Clean.{clean_keeps, clean_place}
use Rattle.writer.proofs.Fitting.{Kept, kept_start, kept_keeps, kept_short}
use Rattle.tests.specs.Reasons.{refusal}
use Rattle.std.specs.Prelude.{Ok, Err}
use Rattle.tests.specs.declared.Reason.TheVariants.{TooLong, NoRoom}

-- a record that is handed in with seventeen numbers decodes from its encoding, if its kind is one of the eight
handed_decodes : (used k : ℕ) (xs : List ℕ) → length xs ≡ 17 → bad_kind (handed_in used k xs) ≡ false
    → Decodes (handed_in used k xs)
unfolding no_targets
handed_decodes used k xs l =
    handed_any (λ r. bad_kind r ≡ false → Decodes r) used k xs (λ x b. decodes_header x) (λ x b. decodes_machine x)
    (λ x y z b. decodes_step x y z) (λ x b. decodes_leaf x) (λ x y z b. decodes_join x y z) (λ x y b. decodes_hide x y)
    (λ x b. decodes_rename x (take 16 (drop 1 xs)) (simp (length-take, length-drop) (omega arith)))
    (λ b. decodes_end used) (other k)
  where
    other : (k : ℕ) → bad_kind (other_record k) ≡ false → Decodes (other_record k)
    other k b =
        let w = kind_range (other_record k) b in
        each_kind (λ k. Decodes (other_record k)) (decodes_header 0) (decodes_machine 0) (decodes_step 0 0 0)
        (decodes_leaf 0)
        (decodes_join 0 0 0) (decodes_hide 0 0) (decodes_rename 0 no_targets refl) (decodes_end 0) k w.0 w.1

module _ (b : List ℕ) (used k : ℕ) (xs : List ℕ) (end : ℕ) (s : Succeeds b used k xs end) where
  -- the record, and that the call went as far as testing it
  abbrev pub r : Record
  r = handed_in used k xs

  inside : (used ≤ length b) × (used ≤ 4096)
  unfolding answer_of
  inside = at (ltb (length b) used) refl (ltb 4096 used) refl s.answered
    where
      at : (x : Bool) → ltb (length b) used ≡ x → (y : Bool) → ltb 4096 used ≡ y
          → cond x (Err (refusal NoRoom 0)) (cond y (Err (refusal TooLong 0)) (after_scan (length b) used r (scan_of (take used b)))) ≡ Ok end
          → (used ≤ length b) × (used ≤ 4096)
      at true p y q e = let z : ◌≡◌ {A = ℕ} 0 1 = cc in absurd (omega arith)
      at false p true q e = let z : ◌≡◌ {A = ℕ} 0 1 = cc in absurd (omega arith)
      at false p false q e = (ltb-false (length b) used p, ltb-false 4096 used q)

  won : Success (length b) used r (scan_of (take used b)) end
  won =
      success_out (length b) used r (scan_of (take used b)) end
      (sym s.answered ∙ answer_is b used r inside.0 inside.1)

  decodes : Decodes r
  decodes =
      handed_decodes used k xs s.seventeen
      (passed_out won.progress r (size_of r.kind) won.no_hit).kind_known

  long : length (take used b ++ bytes_of r) ≡ end
  long =
      length-append (take used b) (bytes_of r) ∙ omega
      (arith, length-take-le used b inside.0, decodes.sized, won.ends_at)

  pub used_part_is : used_part b used k xs end ≡ take used b ++ bytes_of r
  unfolding used_part buffer_of buffer_after
  used_part_is =
      rw s.answered (ap (take end) (sym (append_assoc (take used b) (bytes_of r) (drop end b)))
      ∙ take_at (take used b ++ bytes_of r) (drop end b) end long)

  -- the scan of the used part: finished behind an end, stopped cleanly behind anything else
  pub used_part_scan : (h : Progress)
      × (((k ≡ end_kind) × (scan_of (used_part b used k xs end) ≡ Ok (Finished h))) ⊎
      (scan_of (used_part b used k xs end) ≡ Ok (Stopped h)))
  used_part_scan = (take_record won.progress r, at (ℕ_discrete r.kind end_kind))
    where
      at : Dec (r.kind ≡ end_kind)
          → ((k ≡ end_kind) × (scan_of (used_part b used k xs end) ≡ Ok (Finished (take_record won.progress r))))
          ⊎ (scan_of (used_part b used k xs end) ≡ Ok (Stopped (take_record won.progress r)))
      at (yes q) =
          inl (
            sym (handed_kind used k xs) ∙ q,
            ap scan_of used_part_is ∙ end_finishes (take used b) won.progress r won.stopped
                won.no_hit decodes q,
          )
      at (no q) =
          inr (ap scan_of used_part_is ∙ other_stops (take used b) won.progress r won.stopped
          won.no_hit decodes q)

  pub used_part_length : length (used_part b used k xs end) ≡ end
  used_part_length = ap length used_part_is ∙ long

  -- it is far from the limit of a file
  pub used_part_short : length (used_part b used k xs end) ≤ 4096
  unfolding scan_of start
  used_part_short =
      let g = won.progress in
      let u = take used b in
      let l = length-take-le used b inside.0 in
      let kept = clean_keeps Kept kept_keeps (length u) start u g won.stopped kept_start in
      let place = clean_place (length u) start u g (omega arith) won.stopped in
      omega (arith, used_part_length, won.ends_at, size_most r.kind, kept_short g kept, place, l)

  -- the reader accepts it behind an end, and otherwise stops cleanly at its end
  pub used_part_says : ((k ≡ end_kind) × (says (used_part b used k xs end) ≡ readable))
      ⊎ (says (used_part b used k xs end) ≡ refused 2 end)
  unfolding scan_of start
  used_part_says = at used_part_scan.1
    where
      u : List ℕ
      u = used_part b used k xs end

      at : ((k ≡ end_kind) × (scan_of (used_part b used k xs end) ≡ Ok (Finished used_part_scan.0)))
          ⊎ (scan_of (used_part b used k xs end) ≡ Ok (Stopped used_part_scan.0))
          → ((k ≡ end_kind) × (says (used_part b used k xs end) ≡ readable))
          ⊎ (says (used_part b used k xs end) ≡ refused 2 end)
      at (inl (q, e)) = inl (q, readable_in u used_part_short used_part_scan.0 e)
      at (inr e) =
          let place : used_part_scan.0.place ≡ end =
          clean_place (length u) start u used_part_scan.0 (omega arith) e ∙ omega (arith, used_part_length) in
          inr (stopped_says u used_part_short used_part_scan.0 e ∙ ap (refused 2) place)

-- What a record's encoding decodes to is the record, whatever stands behind it.
-- Assumes nothing.
use Rattle.std.proofs.Common.{◌≡◌, refl, ap, ◌∙◌, List, ◌∷◌, ◌++◌, ℕ, arith, length, take}
use Rattle.std.proofs.Math.Seq.{take-append_seam}
use Rattle.records.specs.declared.Record.{Record}
use Rattle.records.specs.Kinds.{body_length, size_of}
use Rattle.decoding.specs.Bytes.{targets_in, record_of, first_record, bytes_of}
use Rattle.records.specs.Records.{header_record, machine_record, step_record, leaf_record, join_record, hide_record}
use Rattle.records.specs.Records.{rename_record, end_record}
use Rattle.decoding.proofs.Bytes.{two_back, spelled}

pub record Decodes (r : Record) : Type 0 where
  pub comes_back : (u : List ℕ) → first_record (bytes_of r ++ u) ≡ r
  pub sized : length (bytes_of r) ≡ size_of r.kind

pub decodes_header : (n : ℕ) → Decodes (header_record n)
unfolding first_record record_of size_of body_length bytes_of
decodes_header n = record { comes_back = λ u. refl; sized = refl }

pub decodes_machine : (c : ℕ) → Decodes (machine_record c)
unfolding first_record record_of size_of body_length bytes_of
decodes_machine c = record { comes_back = λ u. refl; sized = refl }

pub decodes_step : (s l t : ℕ) → Decodes (step_record s l t)
unfolding first_record record_of size_of body_length bytes_of
decodes_step s l t = record { comes_back = λ u. refl; sized = refl }

pub decodes_leaf : (m : ℕ) → Decodes (leaf_record m)
unfolding first_record record_of size_of body_length bytes_of
decodes_leaf m = record { comes_back = λ u. refl; sized = refl }

pub decodes_join : (i j A : ℕ) → Decodes (join_record i j A)
unfolding first_record record_of size_of body_length bytes_of
decodes_join i j A = record { comes_back = λ u. ap (join_record i j) (two_back A); sized = refl }

pub decodes_hide : (i A : ℕ) → Decodes (hide_record i A)
unfolding first_record record_of size_of body_length bytes_of
decodes_hide i A = record { comes_back = λ u. ap (hide_record i) (two_back A); sized = refl }

pub decodes_rename : (i : ℕ) (f : List ℕ) → length f ≡ 16 → Decodes (rename_record i f)
unfolding first_record record_of size_of body_length bytes_of targets_in
decodes_rename i f h = record {
  comes_back = λ u.
      let e : take 16 (f ++ u) ≡ f = rw (← h) (take-append_seam f u) in
      ap (λ (t : List ℕ). rename_record i (targets_in (7 ∷ i ∷ t))) e ∙ ap (rename_record i) (spelled 16 f h);
  sized = omega arith;
}

pub decodes_end : (x : ℕ) → Decodes (end_record x)
unfolding first_record record_of size_of body_length bytes_of
decodes_end x = record { comes_back = λ u. ap end_record (two_back x); sized = refl }

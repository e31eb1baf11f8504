-- One encoding: the records of a readable file are those of its model and an end; so the file is its model's encoding.
-- Assumes nothing.
use Rattle.std.proofs.Common.{◌≡◌, refl, sym, ap, ◌∙◌, List, [], ◌∷◌, ◌++◌, append_assoc, append-nil, ◌≢◌, ℕ}
use Rattle.std.proofs.Common.{◌+◌, ◌≤◌, arith, length, length-append}
use mathlib.Core.List.{map, flat_map}
use Rattle.records.specs.declared.Record.{Record}
use Rattle.progress.specs.declared.Progress.{Progress}
use Rattle.records.specs.Kinds.{size_of}
use Rattle.decoding.specs.Bytes.{AreBytes, bytes_of}
use Rattle.records.specs.Records.{header_record, end_record}
use Rattle.progress.specs.Progress.{start, take_record}
use Rattle.tests.proofs.Passing.{passed_out}
use Rattle.tests.proofs.MayStand.{Met, HeaderMet, header_met, machine_met, step_met, leaf_met, join_met, hide_met}
use Rattle.tests.proofs.MayStand.{rename_met, end_met}
use Rattle.tests.proofs.Meeting.{met_out}
use Rattle.decoding.proofs.Shapes.{header_is}
use Rattle.reader.specs.Scan.{scan_of, readable, says}
use Rattle.reader.specs.File.{records_from, records_of, machines_of, nodes_of, event_count, model_of}
use Rattle.reader.specs.File.{file_model}
use Rattle.reader.specs.Encoding.{records_of_machine, record_of_node, model_records, bytes_of_all}
use Rattle.reader.specs.Encoding.{encode}
use Rattle.reader.proofs.Readings.{readable_out}
use Rattle.reader.proofs.Records.{Runs, EndsOnce, Run, runs}
use Rattle.reader.proofs.Plain.{AllPlain, records_plain, finish_place}
use Rattle.reader.proofs.Listing.{Listed, listing, along, run_listed}
use Rattle.reader.proofs.Bytes.{file_bytes}

-- the first record is a header
first_header : (r : Record) → Met start r → (r.kind ≡ 1) × HeaderMet start r
unfolding start
first_header r (header_met k m) = (k, m)
first_header r (machine_met k m) = absurd (m.has_header refl)
first_header r (step_met k m) = absurd (m.has_header refl)
first_header r (leaf_met k m) = absurd (m.may.has_header refl)
first_header r (join_met k m) = absurd (m.may.has_header refl)
first_header r (hide_met k m) = absurd (m.may.has_header refl)
first_header r (rename_met k m) = absurd (m.may.has_header refl)
first_header r (end_met k m) = absurd (m.has_header refl)

-- some records are those of the model that they say, and an end behind `count` bytes
pub record IsListing (rs : List Record) (h : Progress) : Type 0 where
  pub count : ℕ
  pub listed : rs ≡ model_records (model_of rs) ++ (end_record count ∷ [])
  pub counted : count + 3 ≡ h.place

behind_header : (n : ℕ) (rs : List Record) (h : Progress) → n ≢ 0 → Listed (take_record start (header_record n)) rs h
    → IsListing (header_record n ∷ rs) h
unfolding model_records model_of event_count machines_of nodes_of take_record start
behind_header n rs h some i =
    let q : rs ≡ listing [] (machines_of rs) (nodes_of rs) i.count =
    i.listed ∙ ap (λ xs. listing xs (machines_of rs) (nodes_of rs) i.count) (i.no_step_first refl) in
    record {
      count = i.count;
      listed =
          ap (λ (x : List Record). header_record n ∷ x)
          (q ∙ sym (append_assoc (flat_map records_of_machine (machines_of rs)) (map record_of_node (nodes_of rs))
          (end_record i.count ∷ [])));
      counted = i.counted;
    }

run_listing : (rs : List Record) (h : Progress) → Run start rs h → AllPlain rs → IsListing rs h
unfolding Runs EndsOnce AllPlain take_record start
run_listing [] h w p = absurd w.ends_once
run_listing (r ∷ rs) h w p =
    go (first_header r (met_out start r (size_of r.kind) (passed_out start r (size_of r.kind) w.taken.0)))
  where
    later : (rs : List Record) → r.kind ≡ 1 → EndsOnce (r ∷ rs) → EndsOnce rs
    later [] k e = absurd (omega (arith, k, e))
    later (r' ∷ rs) k e = e.1

    some : (x : ℕ) → r.number ≡ x → 1 ≤ r.number → x ≢ 0
    some x q l z = omega arith

    go : (r.kind ≡ 1) × HeaderMet start r → IsListing (r ∷ rs) h
    go (k, m) =
        let q : r ≡ header_record r.number = header_is r p.0 k in
        let run : Runs (take_record start (header_record r.number)) rs h =
        along (λ x. Runs (take_record start x) rs h) r (header_record r.number) q w.taken.1 in
        along (λ x. IsListing (x ∷ rs) h) (header_record r.number) r (sym q)
        (behind_header r.number rs h (some r.number refl m.least)
        (run_listed h rs (take_record start (header_record r.number)) (some r.number refl m.least) run
        (later rs k w.ends_once) p.1))

pub record FileListing (s : List ℕ) : Type 0 where
  pub at_end : Progress
  pub run : Run start (records_of s) at_end
  pub listing : IsListing (records_of s) at_end
  pub plain : AllPlain (records_of s)
  pub place : at_end.place ≡ length s

pub file_listing : (s : List ℕ) → AreBytes s → says s ≡ readable → FileListing s
unfolding scan_of records_of start
file_listing s y e =
    let w = readable_out s e in
    let r = runs (length s) start w.at_end s w.finished in
    let p = records_plain (length s) s y in
    record {
      at_end = w.at_end;
      run = r;
      listing = run_listing (records_from (length s) s) w.at_end r p;
      plain = p;
      place = finish_place (length s) start w.at_end s w.finished ∙ omega arith;
    }

pub bytes_append : (rs qs : List Record) → bytes_of_all (rs ++ qs) ≡ bytes_of_all rs ++ bytes_of_all qs
unfolding flat_map
bytes_append [] qs = refl
bytes_append (r ∷ rs) qs = ap (λ (x : List ℕ). bytes_of r ++ x) (bytes_append rs qs)
    ∙ sym (append_assoc (bytes_of r) (bytes_of_all rs) (bytes_of_all qs))

end_length : (x : ℕ) → length (bytes_of (end_record x)) ≡ 3
unfolding bytes_of
end_length x = refl

-- the bytes of a model's records with an end behind them
pub with_end : (rs : List Record) (x : ℕ)
    → bytes_of_all (rs ++ (end_record x ∷ [])) ≡ bytes_of_all rs ++ bytes_of (end_record x)
unfolding flat_map
with_end rs x = bytes_append rs (end_record x ∷ [])
    ∙ ap (λ (b : List ℕ). bytes_of_all rs ++ b) (append-nil (bytes_of (end_record x)))

pub one_encoding : (s : List ℕ) → AreBytes s → says s ≡ readable → encode (file_model s) ≡ s
unfolding encode file_model
one_encoding s y e =
    let f = file_listing s y e in
    let l = f.listing in
    let b = bytes_of_all (model_records (model_of (records_of s))) in
    let q : s ≡ b ++ bytes_of (end_record l.count) =
    sym (file_bytes s y e) ∙ ap (λ (rs : List Record). bytes_of_all rs) l.listed
    ∙ with_end (model_records (model_of (records_of s))) l.count in
    let n : length s ≡ length b + length (bytes_of (end_record l.count)) = ap length q
    ∙ length-append b (bytes_of (end_record l.count)) in
    let c : length b ≡ l.count = omega (arith, n, end_length l.count, l.counted, f.place) in
    ap (λ (x : ℕ). b ++ bytes_of (end_record x)) c ∙ sym q

pub model_determines : (s t : List ℕ) → AreBytes s → AreBytes t → says s ≡ readable → says t ≡ readable
    → file_model s ≡ file_model t → s ≡ t
model_determines s t ys yt es et q = sym (one_encoding s ys es) ∙ ap encode q ∙ one_encoding t yt et

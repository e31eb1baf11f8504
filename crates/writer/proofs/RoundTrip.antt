-- The round trips: handing in the records of a readable file, or of a model, one after another rebuilds the file, byte
-- for byte. Assumes nothing.
use Rattle.std.proofs.Common.{◌≡◌, refl, sym, ap, ◌∙◌, subst, List, [], ◌∷◌, ◌++◌, append-nil, append_assoc, ℕ}
use Rattle.std.proofs.Common.{◌+◌, ◌-◌, ◌≤◌, arith, length, take, drop, length-append, length-drop, drop-drop, take_all}
use mathlib.Core.List.{flat_map}
use Rattle.network.specs.Model.{Model}
use Rattle.records.specs.declared.Record.{Record}
use Rattle.progress.specs.declared.Progress.{Progress}
use Rattle.records.specs.Kinds.{size_of}
use Rattle.records.specs.Records.{end_record}
use Rattle.decoding.specs.Bytes.{AreBytes, bytes_of}
use Rattle.progress.specs.Progress.{start, take_record}
use Rattle.tests.specs.FirstHit.{first_hit}
use Rattle.decoding.proofs.Decodes.{Decodes, decodes_header, decodes_machine, decodes_step, decodes_leaf}
use Rattle.decoding.proofs.Decodes.{decodes_join, decodes_hide, decodes_rename, decodes_end}
use Rattle.tests.proofs.Passing.{passed_out}
use Rattle.tests.proofs.MayStand.{Met, header_met, machine_met, step_met, leaf_met, join_met, hide_met, rename_met}
use Rattle.tests.proofs.MayStand.{end_met}
use Rattle.tests.proofs.Meeting.{met_out}
use Rattle.decoding.proofs.Shapes.{Plain, trimmed, header_is, machine_is, step_is, leaf_is, join_is, hide_is, rename_is}
use Rattle.decoding.proofs.Shapes.{end_is}
use Rattle.reader.specs.declared.Scan.TheVariants.{Stopped}
use Rattle.reader.specs.Scan.{scan_from, scan_of, readable, says}
use Rattle.reader.specs.File.{records_of, file_model}
use Rattle.reader.specs.Encoding.{bytes_of_all, model_records, encode, Encodable}
use Rattle.reader.proofs.Records.{Runs, EndsOnce}
use Rattle.reader.proofs.Plain.{AllPlain}
use Rattle.reader.proofs.Readings.{readable_out}
use Rattle.reader.proofs.Bytes.{file_bytes}
use Rattle.reader.proofs.OneEncoding.{file_listing}
use Rattle.reader.proofs.EncodingReads.{encoding_reads}
use Rattle.writer.specs.Append.{answer_of, buffer_of}
use Rattle.handing.specs.Handing.{handed_in, numbers_of}
use Rattle.writer.specs.Writing.{calls, and_then, write_all}
use Rattle.writer.proofs.Clean.{clean_place}
use Rattle.writer.proofs.Appending.{other_stops, appends, appends_buffer}
use Rattle.std.specs.Prelude.{Ok}

-- what is handed in for a plain record that no test hits is the record: an end's count is the place where it stands
handed_back : (g : Progress) (r : Record) → Plain r → first_hit g r (size_of r.kind) ≡ Ok tt
    → handed_in g.place r.kind (numbers_of r) ≡ r
unfolding handed_in numbers_of trimmed
handed_back g r p w = at (met_out g r (size_of r.kind) (passed_out g r (size_of r.kind) w)) ∙ sym p.own
  where
    sixteen : take 16 r.targets ≡ r.targets
    sixteen = take_all 16 r.targets (omega (arith, p.sixteen))

    at : Met g r → handed_in g.place r.kind (numbers_of r) ≡ trimmed r
    at (header_met k m) = rw k
    at (machine_met k m) = rw k
    at (step_met k m) = rw k
    at (leaf_met k m) = rw k
    at (join_met k m) = rw k
    at (hide_met k m) = rw k
    at (rename_met k m) = rw (k, sixteen)
    at (end_met k m) = rw (k, m.counted)

-- and its encoding decodes to it
pub plain_decodes : (g : Progress) (r : Record) → Plain r → first_hit g r (size_of r.kind) ≡ Ok tt → Decodes r
plain_decodes g r p w = at (met_out g r (size_of r.kind) (passed_out g r (size_of r.kind) w))
  where
    from : (x : Record) → r ≡ x → Decodes x → Decodes r
    from x q d = subst Decodes (sym q) d

    at : Met g r → Decodes r
    at (header_met k m) = from _ (header_is r p k) (decodes_header r.number)
    at (machine_met k m) = from _ (machine_is r p k) (decodes_machine r.number)
    at (step_met k m) = from _ (step_is r p k) (decodes_step r.from r.label r.to)
    at (leaf_met k m) = from _ (leaf_is r p k) (decodes_leaf r.number)
    at (join_met k m) = from _ (join_is r p k) (decodes_join r.left r.right r.set)
    at (hide_met k m) = from _ (hide_is r p k) (decodes_hide r.left r.set)
    at (rename_met k m) = from _ (rename_is r p k) (decodes_rename r.left r.targets p.sixteen)
    at (end_met k m) = from _ (end_is r p k) (decodes_end r.number)

-- one record behind a clean used part p of the buffer p ++ t, and then the further calls
module _ (p t : List ℕ) (g : Progress) (r : Record) (clean : scan_of p ≡ Ok (Stopped g)) (short : length p ≤ 4096)
    (plain : Plain r)
    (no_hit : first_hit g r (size_of r.kind) ≡ Ok tt) (room : size_of r.kind ≤ length t) where
  one_call : (rs : List Record) → write_all (r ∷ rs) (p ++ t) (length p)
      ≡ write_all rs ((p ++ bytes_of r) ++ drop (size_of r.kind) t) (length p + size_of r.kind)
  unfolding write_all and_then scan_of start
  one_call rs =
      let place : g.place ≡ length p = clean_place (length p) start p g (omega arith) clean ∙ omega arith in
      let same : handed_in (length p) r.kind (numbers_of r) ≡ r = rw (← place) (handed_back g r plain no_hit) in
      rw (same, appends p t g r clean short no_hit room, appends_buffer p t g r clean short no_hit room)

-- the sizes of two parts, one behind the other, in a buffer
behind_both : (p x y t : List ℕ)
    → ((p ++ x) ++ y) ++ drop (length y) (drop (length x) t) ≡ (p ++ (x ++ y)) ++ drop (length (x ++ y)) t
behind_both p x y t =
    rw (length-append x y, ← append_assoc p x y, drop-drop (length y) (length x) t)

-- the last record, with nothing behind it
last_call : (p t : List ℕ) (g : Progress) (r : Record) → scan_of p ≡ Ok (Stopped g) → length p ≤ 4096 → Plain r
    → first_hit g r (size_of r.kind) ≡ Ok tt → size_of r.kind ≤ length t
    → write_all (r ∷ []) (p ++ t) (length p)
    ≡ calls (Ok (length p + length (bytes_of r ++ [])))
    ((p ++ (bytes_of r ++ [])) ++ drop (length (bytes_of r ++ [])) t)
unfolding write_all
last_call p t g r c short plain w room =
    one_call p t g r c short plain w room []
    ∙ ap (λ (n : ℕ). calls (Ok (length p + n)) ((p ++ bytes_of r) ++ drop n t))
    (sym (plain_decodes g r plain w).sized)
    ∙ ap (λ (x : List ℕ). calls (Ok (length p + length x)) ((p ++ x) ++ drop (length x) t))
    (sym (append-nil (bytes_of r)))

-- the calls for two parts, one behind the other
calls_behind : (p x y t : List ℕ)
    → calls (Ok (length (p ++ x) + length y)) (((p ++ x) ++ y) ++ drop (length y) (drop (length x) t))
    ≡ calls (Ok (length p + length (x ++ y))) ((p ++ (x ++ y)) ++ drop (length (x ++ y)) t)
calls_behind p x y t =
    let n : length (p ++ x) + length y ≡ length p + length (x ++ y) =
    omega (arith, length-append p x, length-append x y) in
    λ i. calls (Ok (n i)) (behind_both p x y t i)

pub rewrites : (rs : List Record) (g h : Progress) (p t : List ℕ) → scan_of p ≡ Ok (Stopped g) → Runs g rs h → EndsOnce rs
    → AllPlain rs
    → length p + length (bytes_of_all rs) ≤ 4096 → length (bytes_of_all rs) ≤ length t
    → write_all rs (p ++ t) (length p)
    ≡ calls (Ok (length p + length (bytes_of_all rs))) ((p ++ bytes_of_all rs) ++ drop (length (bytes_of_all rs)) t)
unfolding Runs EndsOnce AllPlain flat_map
rewrites [] g h p t c w e a l m = absurd e
rewrites (r ∷ []) g h p t c w e a l m =
    let size = (plain_decodes g r a.0 w.0).sized in
    last_call p t g r c (omega arith) a.0 w.0 (omega (arith, size, length-append (bytes_of r) []))
rewrites (r ∷ r' ∷ rs) g h p t c w e a l m =
    let d = plain_decodes g r a.0 w.0 in
    let x = bytes_of r in
    let y = bytes_of_all (r' ∷ rs) in
    let long : length (x ++ y) ≡ size_of r.kind + length y = length-append x y ∙ omega (arith, d.sized) in
    let used : length p + size_of r.kind ≡ length (p ++ x) = omega (arith, d.sized, length-append p x) in
    let less : length (drop (size_of r.kind) t) ≡ length t - size_of r.kind = length-drop (size_of r.kind) t in
    one_call p t g r c (omega arith) a.0 w.0 (omega arith) (r' ∷ rs)
    ∙ ap (λ (u : ℕ). write_all (r' ∷ rs) ((p ++ x) ++ drop (size_of r.kind) t) u) used
    ∙ rewrites (r' ∷ rs) (take_record g r) h (p ++ x) (drop (size_of r.kind) t) (other_stops p g r c w.0 d e.0)
    w.1 e.1 a.1
    (omega (arith, length-append p x, d.sized)) (omega arith)
    ∙ ap (λ (n : ℕ). calls (Ok (length (p ++ x) + length y)) (((p ++ x) ++ y) ++ drop (length y) (drop n t)))
    (sym d.sized)
    ∙ calls_behind p x y t

nothing_scanned : scan_of [] ≡ Ok (Stopped start)
unfolding scan_of scan_from
nothing_scanned = refl

-- reading a file and writing its records gives the same bytes
pub file_round_trip : (s : List ℕ) → AreBytes s → says s ≡ readable → (b : List ℕ) → length s ≤ length b
    → write_all (records_of s) b 0 ≡ calls (Ok (length s)) (s ++ drop (length s) b)
file_round_trip s y e b m =
    let f = file_listing s y e in
    let short = (readable_out s e).short in
    let bytes = file_bytes s y e in
    let long : length (bytes_of_all (records_of s)) ≡ length s = ap length bytes in
    rewrites (records_of s) start f.at_end [] b nothing_scanned f.run.taken f.run.ends_once f.plain
    (omega arith) (omega arith)
    ∙ ap (λ (x : List ℕ). calls (Ok (0 + length x)) (x ++ drop (length x) b)) bytes
    ∙ ap (λ (n : ℕ). calls (Ok n) (s ++ drop (length s) b)) (omega arith)

-- an end's own number is ignored
end_alike : (rs : List Record) (x y : ℕ) (b : List ℕ) (used : ℕ)
    → write_all (rs ++ (end_record x ∷ [])) b used ≡ write_all (rs ++ (end_record y ∷ [])) b used
unfolding write_all handed_in
end_alike [] x y b used = refl
end_alike (r ∷ rs) x y b used =
    let h = handed_in used r.kind (numbers_of r) in
    λ i. and_then (answer_of b used h) (buffer_of b used h) (λ c u. end_alike rs x y c u i)

-- writing a model gives its encoding
pub model_round_trip : (M : Model) → Encodable M → (b : List ℕ) → length (encode M) ≤ length b
    → write_all (model_records M ++ (end_record 0 ∷ [])) b 0
    ≡ calls (Ok (length (encode M))) (encode M ++ drop (length (encode M)) b)
unfolding file_model
model_round_trip M e b m =
    let r = encoding_reads M e in
    let l = (file_listing (encode M) r.0 r.1).listing in
    let listed : records_of (encode M) ≡ model_records M ++ (end_record l.count ∷ []) =
    l.listed ∙ ap (λ (x : Model). model_records x ++ (end_record l.count ∷ [])) r.2 in
    end_alike (model_records M) 0 l.count b 0
    ∙ ap (λ (rs : List Record). write_all rs b 0) (sym listed)
    ∙ file_round_trip (encode M) r.0 r.1 b m

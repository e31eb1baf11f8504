-- The bytes of a readable file are the bytes of its records, one behind another.
-- Assumes nothing.
use Rattle.std.proofs.Common.{◌≡◌, refl, ap, ◌∙◌, List, [], ◌++◌, inl, inr, ℕ, zero, suc, ◌+◌, ◌≤◌, arith}
use Rattle.std.proofs.Common.{length, take, drop, take-append-drop, drop_of_length-le, get_or-drop}
use mathlib.Core.List.{flat_map}
use Rattle.progress.specs.declared.Progress.{Progress}
use Rattle.records.specs.Kinds.{body_length, size_of, end_kind}
use Rattle.decoding.specs.Bytes.{AreBytes, first_record, bytes_of}
use Rattle.progress.specs.Progress.{start, take_record}
use Rattle.decoding.proofs.Bytes.{first_bytes}
use Rattle.tests.proofs.Meeting.{kind_range}
use Rattle.tests.proofs.Passing.{Passed}
use Rattle.reader.specs.declared.Scan.TheVariants.{Finished}
use Rattle.reader.specs.Scan.{scan_from, scan_of, readable, says}
use Rattle.reader.specs.File.{records_from, records_of}
use Rattle.reader.specs.Encoding.{bytes_of_all}
use Rattle.reader.proofs.Turns.{rest, Then, Turn, turn_out, turn_passed, turn_whole, none_finished}
use Rattle.reader.proofs.Records.{none_left, records_next, end_known}
use Rattle.reader.proofs.Readings.{readable_out}
use Rattle.std.specs.Prelude.{Ok}

pub bytes_drop : (n : ℕ) (b : List ℕ) → AreBytes b → AreBytes (drop n b)
unfolding AreBytes
bytes_drop n b w i = rw (get_or-drop n b i 0) (w (n + i))

bytes_of_lem : (f : ℕ) (g h : Progress) (b : List ℕ) → AreBytes b → scan_from f g b ≡ Ok (Finished h)
    → bytes_of_all (records_from f b) ≡ b
unfolding flat_map size_of body_length
bytes_of_lem zero g h b y e = none_finished g h b e
bytes_of_lem (suc f) g h b y e =
    rw (records_next f b k.some_left, first) (go k.then (λ g' b' y' e'. bytes_of_lem f g' h b' y' e')
    ∙ take-append-drop n b)
  where
    n : ℕ
    n = size_of (first_record b).kind

    k : Turn f g b h
    k = turn_out f g b h e

    p : Passed g (first_record b) (length b)
    p = turn_passed f g b h k

    first : bytes_of (first_record b) ≡ take (size_of (first_record b).kind) b
    first =
        let w = kind_range (first_record b) p.kind_known in
        first_bytes b y k.some_left w.0 w.1 (turn_whole f g b h k)

    go : Then f g b h
        → ((g' : Progress) (b' : List ℕ) → AreBytes b' → scan_from f g' b' ≡ Ok (Finished h)
        → bytes_of_all (records_from f b') ≡ b')
        → (take n b ++ bytes_of_all (records_from f (rest b))) ≡ take n b ++ drop n b
    go (inl w) again =
        let z : length b ≤ size_of (first_record b).kind =
        omega (arith, (end_known g b p w.0).0, end_size (first_record b).kind w.0) in
        let d : rest b ≡ [] = drop_of_length-le b z in
        rw d (rw (none_left f [] refl))
      where
        end_size : (k : ℕ) → k ≡ end_kind → size_of k ≡ 3
        end_size k q = rw q
    go (inr w) again =
        ap (λ (x : List ℕ). take n b ++ x) (again (take_record g (first_record b)) (rest b) (bytes_drop n b y) w.1)

pub file_bytes : (s : List ℕ) → AreBytes s → says s ≡ readable → bytes_of_all (records_of s) ≡ s
unfolding scan_of records_of
file_bytes s y e = let w = readable_out s e in bytes_of_lem (length s) start w.at_end s y w.finished

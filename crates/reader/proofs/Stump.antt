-- Demand 1, second half: bytes with a whole readable file behind them are refused. An end record's count is the
-- number of bytes before it and nothing follows it: so the last two bytes settle how long a readable file is. Assumes
-- nothing.
use Rattle.std.proofs.lemmas.Bool.Decides.{nat_tests}
use Rattle.std.proofs.Common.{◌≡◌, ap, ◌∙◌, List, ◌++◌, inl, inr, ℕ, zero, suc, ◌+◌, ◌-◌, ◌≤◌, ◌<◌}
use Rattle.std.proofs.Common.{arith, length, drop, length-drop, length-append, get_or-append-add, get_or-drop}
use Rattle.progress.specs.declared.Progress.{Progress}
use Rattle.records.specs.Kinds.{body_length, size_of, end_kind}
use Rattle.decoding.specs.Bytes.{byte, two, record_of, first_record}
use Rattle.progress.specs.Progress.{start, take_record}
use Rattle.reader.specs.declared.Scan.TheVariants.{Finished}
use Rattle.reader.specs.Scan.{scan_from, scan_of, readable, refused, says}
use Rattle.reader.proofs.Turns.{rest, Then, Turn, turn_out, turn_passed, turn_whole, none_finished}
use Rattle.reader.proofs.Records.{end_known}
use Rattle.reader.proofs.Readings.{readable_out, refused_in}
use Rattle.std.specs.Prelude.{Ok}

-- the number that the last two bytes say
abbrev last_two : List ℕ → ℕ
last_two b = two (byte b (length b - 2)) (byte b (length b - 1))

-- an end record's number stands in its last two bytes
end_number : (b : List ℕ) → length b ≡ 3 → (first_record b).kind ≡ end_kind → (first_record b).number ≡ last_two b
unfolding first_record record_of size_of body_length
end_number b h k = grind (arith, nat_tests)

-- what is claimed of a scan that finished: the last two bytes are the number of bytes before the last three
abbrev Counted : Progress → List ℕ → Type 0
Counted g b = (3 ≤ length b) × (last_two b + 3 ≡ g.place + length b)

-- behind a part of b
counted_later : (p n : ℕ) (b : List ℕ) → n ≤ length b
    → (3 ≤ length (drop n b)) × (last_two (drop n b) + 3 ≡ p + n + length (drop n b)) → (3 ≤ length b)
    × (last_two b + 3 ≡ p + length b)
counted_later p n b l z =
    let d : length (drop n b) ≡ length b - n = length-drop n b in
    let i : n + (length (drop n b) - 2) ≡ length b - 2 = omega (arith, z.0) in
    let j : n + (length (drop n b) - 1) ≡ length b - 1 = omega (arith, z.0) in
    let low : byte (drop n b) (length (drop n b) - 2) ≡ byte b (length b - 2) =
    get_or-drop n b (length (drop n b) - 2) 0 ∙ ap (λ (m : ℕ). byte b m) i in
    let high : byte (drop n b) (length (drop n b) - 1) ≡ byte b (length b - 1) =
    get_or-drop n b (length (drop n b) - 1) 0 ∙ ap (λ (m : ℕ). byte b m) j in
    (omega (arith, z.0), omega (arith, z.0, z.1))

counted : (f : ℕ) (g h : Progress) (b : List ℕ) → scan_from f g b ≡ Ok (Finished h) → Counted g b
unfolding take_record
counted zero g h b e = none_finished g h b e
counted (suc f) g h b e = go k.then (λ g' b' e'. counted f g' h b' e')
  where
    k : Turn f g b h
    k = turn_out f g b h e

    go : Then f g b h → ((g' : Progress) (b' : List ℕ) → scan_from f g' b' ≡ Ok (Finished h) → Counted g' b') → Counted g b
    go (inl w) again =
        let z = end_known g b (turn_passed f g b h k) w.0 in
        let q = end_number b z.0 w.0 in
        (omega (arith, z.0), omega (arith, q, z.0, z.1))
    go (inr w) again =
        counted_later g.place (size_of (first_record b).kind) b (turn_whole f g b h k)
        (again (take_record g (first_record b)) (rest b) w.1)

pub file_counted : (s : List ℕ) → says s ≡ readable → (3 ≤ length s) × (last_two s + 3 ≡ length s)
unfolding scan_of start
file_counted s e =
    let w = readable_out s e in
    let c = counted (length s) start w.at_end s w.finished in
    (c.0, omega (arith, c.1))

pub stump_refused : (t s : List ℕ) → 0 < length t → says s ≡ readable → (number : ℕ) × (place : ℕ)
    × (says (t ++ s) ≡ refused number place)
stump_refused t s m e = refused_in (t ++ s) no_way
  where
    no_way : says (t ++ s) ≡ readable → ⊥
    no_way d =
        let a = file_counted s e in
        let b = file_counted (t ++ s) d in
        let l : length (t ++ s) ≡ length t + length s = length-append t s in
        let i : length (t ++ s) - 2 ≡ length t + (length s - 2) = omega (arith, a.0) in
        let j : length (t ++ s) - 1 ≡ length t + (length s - 1) = omega (arith, a.0) in
        let low : byte (t ++ s) (length (t ++ s) - 2) ≡ byte s (length s - 2) =
        ap (λ (k : ℕ). byte (t ++ s) k) i ∙ get_or-append-add t s (length s - 2) 0 in
        let high : byte (t ++ s) (length (t ++ s) - 1) ≡ byte s (length s - 1) =
        ap (λ (k : ℕ). byte (t ++ s) k) j ∙ get_or-append-add t s (length s - 1) 0 in
        omega (arith, a.1, b.1)

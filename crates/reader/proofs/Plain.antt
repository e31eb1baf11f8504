-- The records of a file of bytes are plain, each of them; and where a scan finishes is behind the last byte.
-- Assumes nothing.
use Rattle.std.proofs.Common.{◌≡◌, sym, ap, ◌∙◌, Bool, true, false, cond, List, [], ◌∷◌, inl, inr, ℕ, zero, suc}
use Rattle.std.proofs.Common.{◌+◌, arith, eqb, length, length-drop}
use Rattle.records.specs.declared.Record.{Record}
use Rattle.progress.specs.declared.Progress.{Progress}
use Rattle.records.specs.Kinds.{body_length, size_of}
use Rattle.decoding.specs.Bytes.{AreBytes, first_record}
use Rattle.progress.specs.Progress.{take_record}
use Rattle.decoding.proofs.Shapes.{Plain, first_plain}
use Rattle.reader.specs.declared.Scan.TheVariants.{Finished}
use Rattle.reader.specs.Scan.{scan_from}
use Rattle.reader.specs.File.{records_from}
use Rattle.reader.proofs.Turns.{rest, Then, Turn, turn_out, turn_passed, turn_whole, none_finished}
use Rattle.reader.proofs.Records.{end_known}
use Rattle.reader.proofs.Bytes.{bytes_drop}
use Rattle.std.specs.Prelude.{Ok}

unfoldable pub AllPlain : List Record → Type 0
AllPlain [] = Unit {0}
AllPlain (r ∷ rs) = Plain r × AllPlain rs

pub records_plain : (f : ℕ) (b : List ℕ) → AreBytes b → AllPlain (records_from f b)
unfolding AllPlain records_from
records_plain zero b w = tt
records_plain (suc f) b w =
    go (eqb (length b) 0) (records_plain f (rest b) (bytes_drop (size_of (first_record b).kind) b w))
  where
    go : (x : Bool) → AllPlain (records_from f (rest b)) → AllPlain (cond x [] (first_record b ∷ records_from f (rest b)))
    go true ih = tt
    go false ih = (first_plain b w, ih)

pub finish_place : (f : ℕ) (g h : Progress) (b : List ℕ) → scan_from f g b ≡ Ok (Finished h) → h.place ≡ g.place + length b
unfolding take_record size_of body_length
finish_place zero g h b e = none_finished g h b e
finish_place (suc f) g h b e = go k.then (λ g' b' e'. finish_place f g' h b' e')
  where
    k : Turn f g b h
    k = turn_out f g b h e

    go : Then f g b h
        → ((g' : Progress) (b' : List ℕ) → scan_from f g' b' ≡ Ok (Finished h) → h.place ≡ g'.place + length b')
        → h.place ≡ g.place + length b
    go (inl w) again =
        let size : size_of (first_record b).kind ≡ 3 = ap size_of w.0 in
        sym (ap (λ (x : Progress). x.place) w.1)
        ∙ omega (arith, size, (end_known g b (turn_passed f g b h k) w.0).0)
    go (inr w) again =
        again (take_record g (first_record b)) (rest b) w.1
        ∙ omega (arith, length-drop (size_of (first_record b).kind) b, turn_whole f g b h k)

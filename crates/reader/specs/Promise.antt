-- What is promised of the reader, over the bytes of a file. Document 01, demand 1 and "The model file".
-- Assumes nothing.
use Rattle.std.specs.Prelude.{◌≡◌, cond, List, [], ◌∷◌, ◌++◌, ℕ, ◌+◌, ◌-◌, ◌<◌, ◌≤◌, ltb, length, take}
use Rattle.network.specs.Model.{Model}
use Rattle.records.specs.declared.Record.{Record}
use Rattle.records.specs.Kinds.{size_of}
use Rattle.decoding.specs.Bytes.{AreBytes}
use Rattle.reader.specs.Scan.{readable, refused, says}
use Rattle.reader.specs.File.{records_of, file_model}
use Rattle.reader.specs.Encoding.{encode, Encodable}

-- the start of the record, among some that stand one behind another, that has byte k
unfoldable pub start_of : List Record → ℕ → ℕ
start_of [] k = 0
start_of (r ∷ rs) k = cond (ltb k (size_of r.kind)) 0 (size_of r.kind + start_of rs (k - size_of r.kind))

-- demand 1: a readable file s cut to any k bytes is refused with 2 at the start of the record that it cuts, or that
-- is missing
unfoldable pub CutRefused : Type 0
CutRefused = (s : List ℕ) → says s ≡ readable → (k : ℕ) → k < length s
    → says (take k s) ≡ refused 2 (start_of (records_of s) k)

-- demand 1: bytes with a whole readable file behind them are refused; so is a cut file with the same or another
-- behind it
unfoldable pub StumpRefused : Type 0
StumpRefused =
    (t s : List ℕ) → 0 < length t → says s ≡ readable → (number : ℕ) × (place : ℕ)
    × (says (t ++ s) ≡ refused number place)

-- the model of a readable file is well formed and within the limits, its steps ascend, its renames have sixteen targets
unfoldable pub ModelFormed : Type 0
ModelFormed = (s : List ℕ) → AreBytes s → says s ≡ readable → Encodable (file_model s)

-- a readable file is the encoding of its model
unfoldable pub OneEncoding : Type 0
OneEncoding = (s : List ℕ) → AreBytes s → says s ≡ readable → encode (file_model s) ≡ s

-- so two readable files with the same model are equal
unfoldable pub ModelDetermines : Type 0
ModelDetermines =
    (s t : List ℕ) → AreBytes s → AreBytes t → says s ≡ readable → says t ≡ readable → file_model s ≡ file_model t → s ≡ t

-- a model that a file can say has a readable encoding, of bytes, whose model it is
unfoldable pub EncodingReads : Type 0
EncodingReads =
    (M : Model) → Encodable M → AreBytes (encode M) × (says (encode M) ≡ readable) × (file_model (encode M) ≡ M)

-- a readable file has from 9 to 2,637 bytes
unfoldable pub SizeLimits : Type 0
SizeLimits = (s : List ℕ) → AreBytes s → says s ≡ readable → (9 ≤ length s) × (length s ≤ 2637)

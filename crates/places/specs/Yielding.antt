-- One step of an iterator over the records of a file. Assumes nothing.
use Rattle.std.specs.Prelude.{◌≡◌, ℕ, ◌+◌, ◌<◌, ◌≤◌, length, Option, MatchOption}
use Rattle.std.specs.declared.ops.Range.{Range}
use Rattle.records.specs.Kinds.{size_of}
use Rattle.decoding.specs.Bytes.{byte}
use Rattle.places.specs.declared.Records.{Records}

-- a call from s gave r and left t: a record that begins where s stood, and t stands where it ends; or nothing, behind
-- the end of the file, and t stands there too
abbrev pub GivesRecord : Records → Option (Range ℕ) → Records → Type 0
GivesRecord s r t =
    (t.bytes.now ≡ s.bytes.now)
    × MatchOption r ((length s.bytes.now ≤ s.place) × (t.place ≡ s.place))
    (λ x. (s.place < length s.bytes.now) × (x.start ≡ s.place) × (x.end ≡ s.place + size_of (byte s.bytes.now s.place))
    × (t.place ≡ x.end))

-- What is promised of the writer. Document 01, "The writer adds one record ..", demand 1 and "Writing and reading are
-- inverse". Assumes nothing.
use Rattle.std.specs.Prelude.{◌≡◌, ◌⊎◌, List, [], ◌∷◌, ◌++◌, ℕ, ◌<◌, ◌≤◌, length, take, drop, Ok, Err}
use Rattle.network.specs.Model.{Model}
use Rattle.records.specs.declared.Record.{Record}
use Rattle.records.specs.Kinds.{end_kind}
use Rattle.records.specs.Records.{end_record}
use Rattle.decoding.specs.Bytes.{AreBytes, bytes_of}
use Rattle.reader.specs.Scan.{readable, refused, says}
use Rattle.reader.specs.File.{records_of, file_model}
use Rattle.reader.specs.Encoding.{model_records, encode, Encodable}
use Rattle.reader.specs.Promise.{start_of}
use Rattle.writer.specs.Append.{answer_of, buffer_of}
use Rattle.handing.specs.Handing.{handed_in}
use Rattle.writer.specs.Writing.{calls, write_all}
use Rattle.tests.specs.Reasons.{refusal}
use Rattle.tests.specs.declared.Reason.TheVariants.{CutShort}

-- a call with kind k and numbers xs behind `used` bytes of b was a success and left `end` used bytes
pub record Succeeds (b : List ℕ) (used k : ℕ) (xs : List ℕ) (end : ℕ) : Type 0 where
  pub seventeen : length xs ≡ 17
  pub answered : answer_of b used (handed_in used k xs) ≡ Ok end

-- the used part after it
unfoldable pub used_part : List ℕ → ℕ → ℕ → List ℕ → ℕ → List ℕ
used_part b used k xs end = take end (buffer_of b used (handed_in used k xs))

-- after a success the used part is the old one with the record's encoding behind it, and the reader accepts it (behind
-- an end) or stops cleanly at its end
unfoldable pub SuccessAppends : Type 0
SuccessAppends =
    (b : List ℕ) (used k : ℕ) (xs : List ℕ) (end : ℕ) → Succeeds b used k xs end
    → (used_part b used k xs end ≡ take used b ++ bytes_of (handed_in used k xs))
    × (((k ≡ end_kind) × (says (used_part b used k xs end) ≡ readable)) ⊎
    (says (used_part b used k xs end) ≡ refused 2 end))

-- writing a model and reading it gives the same model: in any buffer with room each append succeeds, what is written is
-- the model's encoding, and reading that gives the model
unfoldable pub ModelRoundTrip : Type 0
ModelRoundTrip =
    (M : Model) → Encodable M → (b : List ℕ) → length (encode M) ≤ length b
    → (write_all (model_records M ++ (end_record 0 ∷ [])) b 0
    ≡ calls (Ok (length (encode M))) (encode M ++ drop (length (encode M)) b))
    × (says (encode M) ≡ readable) × (file_model (encode M) ≡ M)

-- reading a file and writing its records gives the same bytes
unfoldable pub FileRoundTrip : Type 0
FileRoundTrip =
    (s : List ℕ) → AreBytes s → says s ≡ readable → (b : List ℕ) → length s ≤ length b
    → write_all (records_of s) b 0 ≡ calls (Ok (length s)) (s ++ drop (length s) b)

-- a brownout: what a success left, cut before its end, is refused with 2 at the record that is cut or missing
unfoldable pub BrownoutRefused : Type 0
BrownoutRefused =
    (b : List ℕ) (used k : ℕ) (xs : List ℕ) (end : ℕ) → Succeeds b used k xs end
    → (cut : ℕ) → cut < end
    → says (take cut (used_part b used k xs end)) ≡ refused 2 (start_of (records_of (used_part b used k xs end)) cut)

-- and behind a record that is cut inside the writer adds nothing: 2 at that record, and the buffer as it was
unfoldable pub NothingBehindCut : Type 0
NothingBehindCut =
    (b : List ℕ) (used k : ℕ) (xs : List ℕ) (end : ℕ) → Succeeds b used k xs end
    → (cut : ℕ) → cut < end → start_of (records_of (used_part b used k xs end)) cut < cut
    → (r : Record) → (answer_of (buffer_of b used (handed_in used k xs)) cut r
    ≡ Err (refusal CutShort (start_of (records_of (used_part b used k xs end)) cut)))
    × (buffer_of (buffer_of b used (handed_in used k xs)) cut r ≡ buffer_of b used (handed_in used k xs))

-- The walk over the nodes of a file: they stand one behind another up to the end record, so a node's place and its
-- record's size give the next one's. Assumes nothing.
use Rattle.std.specs.Prelude.{cond, List, [], ◌++◌, ℕ, zero, suc, eqb, length, drop}
use Rattle.records.specs.Kinds.{end_kind, size_of}
use Rattle.decoding.specs.Bytes.{byte}
use Rattle.analysis.specs.Promise.{section}
use Rattle.console.specs.Output.{text_of}

-- the texts of the records that stand one behind another in the bytes b, up to an end record or the last byte, `fuel`
-- of them at most: the first is node k's, and each has its section of the area
unfoldable pub walked : ℕ → List ℕ → List ℕ → ℕ → List ℕ
walked zero area b k = []
walked (suc fuel) area b k =
    cond (eqb (length b) 0) []
    (cond (eqb (byte b 0) end_kind) []
    (text_of k (byte b 0) (section area k) ++ walked fuel area (drop (size_of (byte b 0)) b) (suc k)))

-- more records than a file of at most 4,096 bytes has
abbrev pub most_records : ℕ
most_records = 4097

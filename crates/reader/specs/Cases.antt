-- Document 01's example, and its cases 12 and 13, with what it says of each: one table, a row a file.
-- Assumes nothing.
use Rattle.std.specs.Prelude.{List, [], ◌∷◌, ◌++◌, ℕ, take}
use Rattle.reader.specs.Scan.{Said, readable, refused}

-- the example of "The printed result", 28 bytes
unfoldable pub example : List ℕ
example =
    0x01 ∷ 0x02 ∷ 0x02 ∷ 0x02 ∷ 0x03 ∷ 0x00 ∷ 0x00 ∷ 0x01 ∷ 0x03 ∷ 0x01 ∷ 0x01 ∷ 0x00 ∷ 0x04 ∷ 0x00 ∷ 0x04 ∷ 0x00
    ∷ 0x05 ∷ 0x00 ∷ 0x01 ∷ 0x03 ∷ 0x00 ∷ 0x06 ∷ 0x02 ∷ 0x02 ∷ 0x00 ∷ 0x08 ∷ 0x19 ∷ 0x00 ∷ []

-- a header of 16 events and a machine of one state that loops on eight different events
unfoldable pub eight : List ℕ
eight =
    1 ∷ 16 ∷ 2 ∷ 1 ∷ 3 ∷ 0 ∷ 0 ∷ 0 ∷ 3 ∷ 0 ∷ 1 ∷ 0 ∷ 3 ∷ 0 ∷ 2 ∷ 0 ∷ 3 ∷ 0 ∷ 3 ∷ 0
    ∷ 3 ∷ 0 ∷ 4 ∷ 0 ∷ 3 ∷ 0 ∷ 5 ∷ 0 ∷ 3 ∷ 0 ∷ 6 ∷ 0 ∷ 3 ∷ 0 ∷ 7 ∷ 0 ∷ []

-- the files of the table
unfoldable pub files : List (List ℕ)
files =
    example
    ∷ []
    ∷ take 25 example
    ∷ take 27 example
    ∷ (take 5 example ++ example)
    ∷ (1 ∷ 1 ∷ 2 ∷ 1 ∷ 4 ∷ 0 ∷ 5 ∷ 0 ∷ 0 ∷ 1 ∷ 0 ∷ 8 ∷ 11 ∷ 0 ∷ [])
    ∷ (eight ++ (4 ∷ 0 ∷ 8 ∷ 38 ∷ 0 ∷ []))
    ∷ (eight ++ (3 ∷ 0 ∷ 8 ∷ 0 ∷ 4 ∷ 0 ∷ 8 ∷ 42 ∷ 0 ∷ []))
    ∷ []

-- the example is read; case 12: 2 at 0, 2 at 25, 2 at 25, 5 at 4; case 13: 6, read, 10
unfoldable pub said : List Said
said =
    readable ∷ refused 2 0 ∷ refused 2 25 ∷ refused 2 25 ∷ refused 5 4 ∷ refused 6 6 ∷ readable ∷ refused 10 36 ∷ []

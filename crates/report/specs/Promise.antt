-- What is promised of the printed result, over the bytes of a file. Document 01, "The printed result".
-- Assumes nothing.
use Rattle.std.specs.Prelude.{◌≡◌, List, ℕ, ◌<◌, length, take}
use Rattle.reader.specs.Cases.{example}
use Rattle.report.specs.Printed.{printed}
use Rattle.report.specs.Example.{nine_lines, too_long}

-- document 01's example prints document 01's nine lines
unfoldable pub ExampleIsPrinted : Type 0
ExampleIsPrinted = printed example ≡ nine_lines

-- a longer input than 4,096 bytes prints `refused 1 0`, and so do its first 4,097 bytes
unfoldable pub LongIsRefused : Type 0
LongIsRefused = (s : List ℕ) → 4096 < length s → (printed s ≡ too_long) × (printed (take 4097 s) ≡ too_long)

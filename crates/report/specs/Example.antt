-- What document 01 says that its example prints, and an input of more than 4,096 bytes. Document 01, "The printed
-- result". Assumes nothing.
use Rattle.std.specs.Prelude.{List, [], ◌∷◌, ℕ}

-- the nine lines of the example, a line of bytes for each: `pass 4`, `0 leaf 1`, `0003 0000`, `1 leaf 1`, `0003 0000`,
-- `2 join 1`, `0003 0000`, `3 hide 1`, `0001 0002`
unfoldable pub nine_lines : List ℕ
nine_lines =
    112 ∷ 97 ∷ 115 ∷ 115 ∷ 32 ∷ 52 ∷ 10
    ∷ 48 ∷ 32 ∷ 108 ∷ 101 ∷ 97 ∷ 102 ∷ 32 ∷ 49 ∷ 10
    ∷ 48 ∷ 48 ∷ 48 ∷ 51 ∷ 32 ∷ 48 ∷ 48 ∷ 48 ∷ 48 ∷ 10
    ∷ 49 ∷ 32 ∷ 108 ∷ 101 ∷ 97 ∷ 102 ∷ 32 ∷ 49 ∷ 10
    ∷ 48 ∷ 48 ∷ 48 ∷ 51 ∷ 32 ∷ 48 ∷ 48 ∷ 48 ∷ 48 ∷ 10
    ∷ 50 ∷ 32 ∷ 106 ∷ 111 ∷ 105 ∷ 110 ∷ 32 ∷ 49 ∷ 10
    ∷ 48 ∷ 48 ∷ 48 ∷ 51 ∷ 32 ∷ 48 ∷ 48 ∷ 48 ∷ 48 ∷ 10
    ∷ 51 ∷ 32 ∷ 104 ∷ 105 ∷ 100 ∷ 101 ∷ 32 ∷ 49 ∷ 10
    ∷ 48 ∷ 48 ∷ 48 ∷ 49 ∷ 32 ∷ 48 ∷ 48 ∷ 48 ∷ 50 ∷ 10 ∷ []

-- the line of a longer input than 4,096 bytes: `refused 1 0`
unfoldable pub too_long : List ℕ
too_long = 114 ∷ 101 ∷ 102 ∷ 117 ∷ 115 ∷ 101 ∷ 100 ∷ 32 ∷ 49 ∷ 32 ∷ 48 ∷ 10 ∷ []

-- Some rows of a table, by their numbers, whether or not they are in use.
use Rattle.std.specs.Prelude.{ℕ, zero, suc, ◌-◌, List, [], ◌∷◌}
use Rattle.iff.specs.Tables.{Row, row_at}

-- k rows from row i on
unfoldable pub block_of_rows : ℕ → List ℕ → ℕ → ℕ → List Row
block_of_rows w t i zero = []
block_of_rows w t i (suc k) = row_at w t i ∷ block_of_rows w t (suc i) k

-- the rows from `from` on and before `to`
abbrev pub rows_between : ℕ → List ℕ → ℕ → ℕ → List Row
rows_between w t from to = block_of_rows w t from (to - from)

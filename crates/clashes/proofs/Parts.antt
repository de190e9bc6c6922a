-- A row as a part of its table. Assumes nothing.
use Prim.Native.Nat.{ℕ, ◌+◌, ◌-◌, ◌*◌}
use mathlib.Core.Path.{◌≡◌}
use mathlib.Core.List.{List}
use mathlib.Core.Bool.{Bool}
use native.Mathlib.Omega.{arith}
use lib.ListN.{take, drop}
use Rattle.iff.specs.declared.GroupFile.{GroupFile}
use Rattle.iff.specs.Tables.{Row, row_at}
use Rattle.iff_rules.specs.Unique.{clash}

-- a part of the table that is as long as a row
pub part_row : (f : GroupFile) (w i : ℕ) (t : List ℕ) (row : Row) (b : Bool)
    → b ≡ clash f row (take (i * w + w - i * w) (drop (i * w) t))
    → b ≡ clash f row (row_at w t i)
part_row f w i t row b e =
    let z : i * w + w - i * w ≡ w = omega arith in
    rw z at e

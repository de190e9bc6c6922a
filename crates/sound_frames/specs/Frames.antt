-- What soundness asks of a table apart from its rows behind the first line's: that first row, distinct keys, the file's implied length, unused places.
use Rattle.std.specs.Prelude.{ℕ, ◌+◌, ◌*◌, List, [], ◌∷◌, Bool, true, ◌&&◌, length, drop, leb}
use Rattle.iff.specs.Lists.{total}
use Rattle.iff.specs.Files.{limit}
use Rattle.iff.specs.Tables.{Row, row_width, rows_in, all_zero, keys_of}
use Rattle.iff.specs.declared.File.{File}
use Rattle.iff.specs.declared.Form.{Form}
use Rattle.iff_desk.specs.Sound.{sound_first, distinct, row_size, first_size}

-- of the rows in use, in a delivery of some form whose first row in DELIVERY is `delivery`
unfoldable pub framed_rows : Form → Row → File → List Row → Bool
framed_rows form delivery f [] = true
framed_rows form delivery f (r ∷ rs) =
    sound_first f delivery r rs && (distinct (keys_of f rs) && leb (first_size + total (row_size form f) rs) limit)

unfoldable pub framed : Form → Row → File → List ℕ → Bool
framed form delivery f t = framed_rows form delivery f (rows_in f t) && all_zero (drop (length (rows_in f t) * row_width f) t)

-- The tests of a row of a file of rows, as the code makes them once its line's layout and values are right; and by which way its file is read.
use Rattle.std.specs.Prelude.{ℕ, Bool, true, false, List, [], ◌∷◌, map, length}
use Rattle.iff.specs.Refusals.{first_test, unless, Test}
use Rattle.iff.specs.Lines.{Line}
use Rattle.iff.specs.Tables.{Row, keys_of}
use Rattle.iff.specs.declared.RowFile.{RowFile}
use Rattle.iff.specs.declared.RowFile.TheVariants.{Company, Country, Trnsmode, Stations}
use Rattle.iff.specs.declared.File.TheVariants.{Rows}
use Rattle.iff.specs.declared.Reason.TheVariants.{Value, Duplicate, Reference}
use Rattle.iff_rules.specs.Rows.{row_of, Context}
use Rattle.iff_rules.specs.Meaning.{row_meaning}
use Rattle.iff_rules.specs.Unique.{fresh_key, fresh_texts}
use Rattle.iff_rules.specs.References.{met_by_row}

-- a row, after some lines
unfoldable pub plain_row_test : Context → RowFile → List Line → Line → Row → Test
plain_row_test c f earlier l r =
    first_test
    (unless (row_meaning f (length earlier) r) Value
    ∷ unless (fresh_key (Rows f) (keys_of (Rows f) (map (row_of c.form (Rows f)) earlier)) r) Duplicate
    ∷ unless (fresh_texts f earlier l) Duplicate
    ∷ unless (met_by_row c f r) Reference
    ∷ [])

-- from so many bytes on a file's lines are marked, which is a matter of time alone
abbrev pub long_from : RowFile → ℕ
long_from Company = 2048
long_from Country = 2048
long_from Trnsmode = 2048
long_from Stations = 65536

abbrev pub names_others : RowFile → Bool
names_others Company = false
names_others Country = false
names_others Trnsmode = false
names_others Stations = true

-- The tests of a line, split. Assumes nothing.
use mathlib.Core.Path.{◌≡◌, refl}
use mathlib.Core.List.{List, [], ◌∷◌, map}
use mathlib.Core.Bool.{Bool, true, false, ◌&&◌}
use lib.ListN.{length}
use Rattle.iff.specs.Refusals.{or_test, first_test, unless}
use Rattle.iff.specs.Lines.{Line, letter}
use Rattle.iff.specs.Columns.{fields_of, laid}
use Rattle.iff.specs.Values.{readable}
use Rattle.iff.specs.Tables.{keys_of}
use Rattle.iff.specs.declared.RowFile.{RowFile}
use Rattle.iff.specs.declared.File.TheVariants.{Rows}
use Rattle.iff.specs.declared.Reason.TheVariants.{Layout, Value, Duplicate, Reference}
use Rattle.iff_rules.specs.Order.{line_test}
use Rattle.iff_rules.specs.Rows.{row_of, Context}
use Rattle.iff_rules.specs.Meaning.{row_meaning}
use Rattle.iff_rules.specs.Unique.{fresh_key, fresh_texts}
use Rattle.iff_rules.specs.References.{met_by_row}
use Rattle.iff_rules.specs.Load.{plain_test}
use Rattle.records.specs.Layouts.{layout_test}
use Rattle.file_rows.specs.Tests.{plain_row_test}

-- the tests in their order, the values and the duplicates each in two parts
split : (l v m k x r : Bool)
    → first_test (unless l Layout ∷ unless true Value ∷ unless (v && m) Value ∷ unless (k && x) Duplicate ∷ unless r Reference ∷ [])
    ≡ or_test (or_test (unless l Layout) (unless v Value)) (first_test (unless m Value ∷ unless k Duplicate ∷ unless x Duplicate ∷ unless r Reference ∷ []))
unfolding first_test
split false v m k x r = refl
split true false m k x r = refl
split true true false k x r = refl
split true true true false x r = refl
split true true true true false r = refl
split true true true true true r = refl

pub plain_split : (c : Context) (f : RowFile) (earlier : List Line) (l : Line)
    → plain_test c f earlier l ≡ or_test (layout_test l (fields_of c.form (Rows f) (letter l)))
    (plain_row_test c f earlier l (row_of c.form (Rows f) l))
unfolding plain_test plain_row_test line_test first_test
plain_split c f earlier l =
    split
    (laid l (fields_of c.form (Rows f) (letter l)))
    (readable l.body (fields_of c.form (Rows f) (letter l)))
    (row_meaning f (length earlier) (row_of c.form (Rows f) l))
    (fresh_key (Rows f) (keys_of (Rows f) (map (row_of c.form (Rows f)) earlier)) (row_of c.form (Rows f) l))
    (fresh_texts f earlier l)
    (met_by_row c f (row_of c.form (Rows f) l))

-- The tests of a line, split. Assumes nothing.
use Prim.Native.Nat.{ℕ}
use mathlib.Core.Path.{◌≡◌, refl}
use mathlib.Core.List.{List, [], ◌∷◌}
use mathlib.Core.Bool.{Bool, true, false, ◌&&◌}
use lib.ListN.{drop}
use Rattle.iff.specs.Refusals.{or_test, first_test, unless}
use Rattle.iff.specs.Lines.{Line, letter}
use Rattle.iff.specs.Columns.{fields_of, laid}
use Rattle.iff.specs.Values.{readable}
use Rattle.iff.specs.Tables.{Row}
use Rattle.iff.specs.declared.GroupFile.{GroupFile}
use Rattle.iff.specs.declared.File.TheVariants.{Groups}
use Rattle.iff.specs.declared.Reason.TheVariants.{Layout, Value, Duplicate, Reference, Order}
use Rattle.iff_rules.specs.Order.{line_test, known_in_group, group_tag, may_follow, group_stand}
use Rattle.iff_rules.specs.Rows.{row_of, Context}
use Rattle.iff_rules.specs.Meaning.{group_meaning}
use Rattle.iff_rules.specs.Unique.{fresh_key, fresh_in_group}
use Rattle.iff_rules.specs.References.{met_in_group}
use Rattle.iff_rules.specs.Load.{group_test}
use Rattle.records.specs.Layouts.{layout_test}
use Rattle.group_tests.specs.Tests.{place_test, group_row_test}

-- the tests in their order, the values in two parts
split : (n h l v m x r : Bool)
    → first_test
    (unless n Layout ∷ unless h Order ∷ unless l Layout ∷ unless true Value ∷ unless (v && m) Value ∷ unless x Duplicate
    ∷ unless r Reference ∷ [])
    ≡ or_test
    (or_test (or_test (unless n Layout) (unless h Order)) (or_test (unless l Layout) (unless v Value)))
    (first_test (unless m Value ∷ unless x Duplicate ∷ unless r Reference ∷ []))
unfolding first_test
split false h l v m x r = refl
split true false l v m x r = refl
split true true false v m x r = refl
split true true true false m x r = refl
split true true true true false x r = refl
split true true true true true false r = refl
split true true true true true true r = refl

-- a line of a group: its first byte, its layout and values, and the tests of its row
pub group_split : (c : Context) (f : GroupFile) (seen : List ℕ) (earlier : List Row) (l : Line)
    → group_test c f seen earlier l
    ≡ or_test
    (or_test (place_test f (group_stand earlier) (letter l)) (layout_test l (fields_of c.form (Groups f) (letter l))))
    (group_row_test c f seen earlier (row_of c.form (Groups f) l))
unfolding group_test group_row_test line_test first_test
group_split c f seen earlier l =
    split
    (known_in_group f (letter l))
    (may_follow f (group_stand earlier) (group_tag f (letter l)))
    (laid l (fields_of c.form (Groups f) (letter l)))
    (readable l.body (fields_of c.form (Groups f) (letter l)))
    (group_meaning f (row_of c.form (Groups f) l))
    (fresh_key (Groups f) seen (row_of c.form (Groups f) l) && fresh_in_group f (drop 1 earlier) (row_of c.form (Groups f) l))
    (met_in_group c f (row_of c.form (Groups f) l))

-- What the functions of this crate tell, by name.
use Rattle.std.specs.Prelude.{ℕ, ◌≡◌, List, false, eqb, length, Ok}
use Rattle.iff.specs.Refusals.{or_test, Test}
use Rattle.iff.specs.Lines.{Line, letter}
use Rattle.iff.specs.Columns.{fields_of}
use Rattle.iff.specs.Tables.{tag}
use Rattle.iff.specs.declared.GroupFile.{GroupFile}
use Rattle.iff.specs.declared.File.TheVariants.{Groups}
use Rattle.iff.specs.declared.Form.{Form}
use Rattle.iff.specs.declared.GroupStand.{GroupStand}
use Rattle.iff_rules.specs.Rows.{row_of, Context}
use Rattle.iff_rules.specs.Load.{group_test}
use Rattle.records.specs.Layouts.{layout_test}
use Rattle.keys.specs.Lookup.{keys_in}
use Rattle.group_tests.specs.Tests.{place_test}
use Rattle.open_groups.specs.Open.{open_rows}
use Rattle.open_groups.specs.declared.Open.{Open}

-- the tests of a line alone, where its group stands; a row that is in use
pub record RowMade (f : GroupFile) (form : Form) (s : GroupStand) (l : Line) (was is : List ℕ) (r : Test) : Type 0 where
  pub test : r ≡ or_test (place_test f s (letter l)) (layout_test l (fields_of form (Groups f) (letter l)))
  pub row : r ≡ Ok tt → is ≡ row_of form (Groups f) l
  pub used : r ≡ Ok tt → eqb (tag (row_of form (Groups f) l)) 0 ≡ false
  pub kept : length is ≡ length was

-- all tests of a line, and its row where they pass
pub record RowTested (f : GroupFile) (form : Form) (rows : ℕ) (g : Open) (Agree : Context → Type 0) (l : Line)
    (t was is : List ℕ) (r : Test) : Type 0 where
  pub test : (c : Context) → c.form ≡ form → Agree c → r ≡ group_test c f (keys_in (Groups f) t) (open_rows f t rows g.size) l
  pub row : r ≡ Ok tt → is ≡ row_of form (Groups f) l
  pub used : r ≡ Ok tt → eqb (tag (row_of form (Groups f) l)) 0 ≡ false
  pub kept : length is ≡ length was

-- What the functions of this crate ask and tell, by name: a line put to its group.
use Rattle.std.specs.Prelude.{ℕ, suc, ◌≡◌, List, false, eqb, length, Ok}
use Rattle.iff.specs.Refusals.{verdict_at, Verdict, at_place, fault_at}
use Rattle.iff.specs.Lines.{Line}
use Rattle.iff.specs.Tables.{tag, row_width, put_row}
use Rattle.iff.specs.Words.{named}
use Rattle.iff.specs.declared.GroupFile.{GroupFile}
use Rattle.iff.specs.declared.File.TheVariants.{Groups}
use Rattle.iff.specs.declared.Form.{Form}
use Rattle.iff.specs.declared.Reason.TheVariants.{Order}
use Rattle.iff_rules.specs.Rows.{row_of, Context}
use Rattle.iff_rules.specs.Load.{group_test}
use Rattle.keys.specs.Lookup.{keys_in}
use Rattle.group_marks.specs.Numbers.{with_row}
use Rattle.group_lines.specs.Tests.{line_verdict}
use Rattle.open_groups.specs.Open.{open_rows, open_from, open_after}
use Rattle.open_groups.specs.declared.Open.{Open}
use Rattle.group_lines.specs.declared.LinePut.{LinePut}
use Rattle.group_lines.specs.declared.LinePut.TheVariants.{Put, Early, Refused}

-- after some rows: the fault is the line's, or that of the line before it, whose group is too short
abbrev pub put_verdict : GroupFile → ℕ → LinePut → Verdict
put_verdict f rows (Put g) = Ok tt
put_verdict f rows Early = fault_at Order (at_place (Groups f) 0 rows)
put_verdict f rows (Refused r) = fault_at r (at_place (Groups f) 0 (suc rows))

-- the tests of a line that is put to a group, and of one that is read after it
abbrev pub add_due : GroupFile → ℕ → Open → Line → List ℕ → Context → Verdict
add_due f rows g l t c = verdict_at (at_place (Groups f) 0 (suc rows)) (group_test c f (keys_in (Groups f) t) (open_rows f t rows g.size) l)

abbrev pub line_due : GroupFile → ℕ → Open → Line → List ℕ → Context → Verdict
line_due f rows g l t c = line_verdict c f (keys_in (Groups f) t) (open_rows f t rows g.size) rows l

-- its row stands in the table, is in use, and is marked
pub record PutThere (f : GroupFile) (form : Form) (rows : ℕ) (g : Open) (l : Line) (was is marks with : List ℕ) (after : Open) : Type 0 where
  pub group : after ≡ open_after g (tag (row_of form (Groups f) l)) (named (row_of form (Groups f) l))
  pub table : is ≡ put_row (row_width (Groups f)) was rows (row_of form (Groups f) l)
  pub wide : length (row_of form (Groups f) l) ≡ row_width (Groups f)
  pub used : eqb (tag (row_of form (Groups f) l)) 0 ≡ false
  pub marked : with ≡ with_row f (open_from rows g.size) (row_of form (Groups f) l) marks

-- the verdict for every context of that form that agrees with the tables that were looked into
pub record LineDone (f : GroupFile) (form : Form) (rows : ℕ) (g : Open) (Agree : Context → Type 0) (due : Context → Verdict) (l : Line)
    (was is marks with : List ℕ) (r : LinePut) : Type 0 where
  pub verdict : (c : Context) → c.form ≡ form → Agree c → put_verdict f rows r ≡ due c
  pub put : (after : Open) → r ≡ Put after → PutThere f form rows g l was is marks with after
  pub kept : length is ≡ length was

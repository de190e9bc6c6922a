-- What is done, and what is answered, of an amendment that was judged.
use Rattle.std.specs.Prelude.{ℕ, ◌≡◌, List, ◌++◌, length, Err, Ok, Result}
use Rattle.iff.specs.Refusals.{answer, Answer}
use Rattle.iff.specs.Tables.{row_width, fill}
use Rattle.iff.specs.declared.File.TheVariants.{Timetbls}
use Rattle.iff.specs.declared.Form.{Form}
use Rattle.iff_rules.specs.Rows.{block_rows, as_block}
use Rattle.keys.specs.Blocks.{rows_between}
use Rattle.block_edits.specs.Replace.{Replaceable}
use Rattle.amend_tests.specs.declared.Edit.{Edit}
use Rattle.amend_tests.specs.Judged.{judged_verdict}
use Rattle.iff.specs.declared.Fault.{Fault}

-- where a block is to replace some rows, it can
pub record Doable (j : Result Edit Fault) (form : Form) (b t : List ℕ) : Type 0 where
  pub replaces : (e : Edit) → j ≡ Ok e → Replaceable form b t e.used e.from e.to e.lines e.stops

-- the table with the block in the place of those rows; "a refused amendment" leaves it
abbrev pub table_after : Form → List ℕ → List ℕ → Result Edit Fault → List ℕ
table_after form b t (Err fault) = t
table_after form b t (Ok e) =
    fill (row_width Timetbls) (length t)
    (rows_between (row_width Timetbls) t 0 e.from ++ (block_rows form (as_block b) ++ rows_between (row_width Timetbls) t e.to e.used))

pub record Done (j : Result Edit Fault) (form : Form) (services : ℕ) (b was : List ℕ) (r : Answer) (is : List ℕ) : Type 0 where
  pub answers : r ≡ answer (judged_verdict j) form.days services
  pub leaves : is ≡ table_after form b was j

-- What the reader of TIMETBLS tells.
use Rattle.std.specs.Prelude.{ℕ, ◌≡◌, List, true}
use Rattle.iff.specs.Refusals.{fine, Verdict}
use Rattle.iff.specs.declared.File.TheVariants.{Timetbls}
use Rattle.iff.specs.declared.Form.{Form}
use Rattle.iff_rules.specs.Rows.{Context}
use Rattle.reading.specs.Reading.{FileRead}
use Rattle.block_walks.specs.Blocks.{Counted}
use Rattle.timetbls.specs.declared.TimetblsRead.{TimetblsRead}

-- the whole file, and the numbers where there is no fault
pub record TimetblsDone (form : Form) (Agree : Context → Type 0) (header text : List ℕ) (v : Verdict) (was is : List ℕ)
    (r : TimetblsRead) : Type 0 where
  pub file : FileRead Timetbls form Agree header text v was is r.verdict
  pub counted : fine r.verdict ≡ true → Counted is r.rows r.services

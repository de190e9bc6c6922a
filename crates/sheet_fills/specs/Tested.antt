-- What a sheet leans on of tables found sound, and what it then fills.
use Rattle.std.specs.Prelude.{ℕ, ◌*◌, ◌≡◌, List, true, false, length, drop}
use Rattle.iff.specs.Files.{PerFile}
use Rattle.iff.specs.Tables.{Row, row_width, rows_in, all_zero}
use Rattle.iff.specs.declared.RowFile.TheVariants.{Stations}
use Rattle.iff.specs.declared.GroupFile.TheVariants.{Timezone, Footnote, Changes, Xfootnote, Xchanges}
use Rattle.iff.specs.declared.File.{File}
use Rattle.iff.specs.declared.File.TheVariants.{Delivery, Rows, Groups, Timetbls}
use Rattle.iff_desk.specs.Changing.{change_in}
use Rattle.iff_desk.specs.Sheet.{asked, answers_by, room_test}
use Rattle.sheet_answers.specs.Words.{answered_in, list_after}
use Rattle.slots.specs.Slots.{names_at}
use Rattle.iff.specs.Refusals.{Test}

-- all behind a table's rows in use is zero
abbrev pub Clean : File → List ℕ → Type 0
Clean f t = all_zero (drop (length (rows_in f t) * row_width f) t) ≡ true

-- the tables that a change reads, and no first line of CHANGES or XCHANGES that names a station
pub record Tested (d tz st fo tt ch xf xc : List ℕ) : Type 0 where
  pub delivery : Clean Delivery d
  pub timezone : Clean (Groups Timezone) tz
  pub stations : Clean (Rows Stations) st
  pub footnote : Clean (Groups Footnote) fo
  pub timetbls : Clean Timetbls tt
  pub changes : Clean (Groups Changes) ch
  pub xfootnote : Clean (Groups Xfootnote) xf
  pub xchanges : Clean (Groups Xchanges) xc
  pub changes_first : names_at (Groups Changes) ch 0 ≡ false
  pub xchanges_first : names_at (Groups Xchanges) xc 0 ≡ false

-- 23, or every question has the answer that it has by itself; a refusal writes none
pub record Filled (R : PerFile (List Row)) (qs list : List ℕ) (r : Test) (after : List ℕ) : Type 0 where
  pub tells : r ≡ room_test qs list
  pub leaves : after ≡ list_after r list (answered_in (answers_by (change_in true R) qs 0 (asked qs)) list (asked qs))

-- Every file's row has some words, few of them, and its key among them. A law of the definitions alone. Assumes nothing.
use Prim.Native.Nat.{◌≤◌, ◌<◌}
use native.Mathlib.Omega.{arith}
use Rattle.iff.specs.Tables.{row_width, key_word}
use Rattle.iff.specs.declared.File.{File}
use Rattle.iff.specs.declared.File.TheVariants.{Delivery, Rows, Groups, Timetbls}
use Rattle.iff.specs.declared.RowFile.TheVariants.{Company, Country, Trnsmode, Stations}
use Rattle.iff.specs.declared.GroupFile.TheVariants.{Timezone, Footnote, Changes, Xfootnote, Xchanges}

pub record Widths (f : File) : Type 0 where
  pub some : 0 < row_width f
  pub wide : 6 ≤ row_width f
  pub few : row_width f < 15
  pub key : key_word f < row_width f

pub widths : (f : File) → Widths f
widths Delivery = omega arith
widths (Rows Company) = omega arith
widths (Rows Country) = omega arith
widths (Rows Trnsmode) = omega arith
widths (Rows Stations) = omega arith
widths (Groups Timezone) = omega arith
widths (Groups Footnote) = omega arith
widths (Groups Changes) = omega arith
widths (Groups Xfootnote) = omega arith
widths (Groups Xchanges) = omega arith
widths Timetbls = omega arith

-- What a question is sure of in a table found sound.
use Rattle.std.specs.Prelude.{ℕ, ◌≡◌, List, true, length}
use Rattle.iff.specs.Tables.{rows_in, keys_of}
use Rattle.iff.specs.declared.RowFile.TheVariants.{Stations}
use Rattle.iff.specs.declared.GroupFile.TheVariants.{Timezone, Footnote, Changes, Xfootnote, Xchanges}
use Rattle.iff.specs.declared.File.{File}
use Rattle.iff.specs.declared.File.TheVariants.{Delivery, Rows, Groups, Timetbls}
use Rattle.iff_desk.specs.Sound.{distinct}
use Rattle.store.specs.Found.{BlocksTold}
use Rattle.day_times.specs.Told.{FewHours}
use Rattle.changing.specs.Agree.{FewDays}
use Rattle.needed_times.specs.declared.StoreCounts.{StoreCounts}

-- no key comes twice
abbrev pub Once : File → List ℕ → Type 0
Once f t = distinct (keys_of f (rows_in f t)) ≡ true

-- the tables that a change reads, each key once, blocks that tell their lines and stops, and numbers that their fields can hold
pub record Leant (d tz st fo tt ch xf xc : List ℕ) : Type 0 where
  pub delivery : Once Delivery d
  pub timezone : Once (Groups Timezone) tz
  pub stations : Once (Rows Stations) st
  pub footnote : Once (Groups Footnote) fo
  pub timetbls : Once Timetbls tt
  pub changes : Once (Groups Changes) ch
  pub xfootnote : Once (Groups Xfootnote) xf
  pub xchanges : Once (Groups Xchanges) xc
  pub blocks : BlocksTold tt
  pub hours : FewHours tz
  pub days : FewDays d

-- and their rows in use, counted
pub record CountedRows (n : StoreCounts) (d tz st fo tt ch xf xc : List ℕ) : Type 0 where
  pub delivery : n.delivery ≡ length (rows_in Delivery d)
  pub timezone : n.timezone ≡ length (rows_in (Groups Timezone) tz)
  pub stations : n.stations ≡ length (rows_in (Rows Stations) st)
  pub footnote : n.footnote ≡ length (rows_in (Groups Footnote) fo)
  pub timetbls : n.timetbls ≡ length (rows_in Timetbls tt)
  pub changes : n.changes ≡ length (rows_in (Groups Changes) ch)
  pub xfootnote : n.xfootnote ≡ length (rows_in (Groups Xfootnote) xf)
  pub xchanges : n.xchanges ≡ length (rows_in (Groups Xchanges) xc)

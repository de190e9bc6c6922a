-- The rows in use of ten tables, counted; and soundness as it is asked: which tables are there, their frames, their rows behind the first lines'.
use Rattle.std.specs.Prelude.{ℕ, ◌≡◌, List, Bool, true, ◌&&◌, cond, length, Option, Some, is_some}
use Rattle.iff.specs.Lists.{all}
use Rattle.iff.specs.Files.{PerFile, of, in_order, needed}
use Rattle.iff.specs.Tables.{Row, rows_in}
use Rattle.iff.specs.declared.RowFile.TheVariants.{Company, Country, Trnsmode, Stations}
use Rattle.iff.specs.declared.GroupFile.TheVariants.{Timezone, Footnote, Changes, Xfootnote, Xchanges}
use Rattle.iff.specs.declared.File.{File}
use Rattle.iff.specs.declared.File.TheVariants.{Delivery, Rows, Groups, Timetbls}
use Rattle.iff.specs.declared.Form.{Form}
use Rattle.iff_rules.specs.Rows.{Context}
use Rattle.iff_desk.specs.Sound.{sound, held_in}
use Rattle.slots.specs.Slots.{Index}
use Rattle.sound_frames.specs.Frames.{framed}
use Rattle.sound_behind.specs.Behind.{behind}
use Rattle.sound.specs.declared.UsedRows.{UsedRows}

-- each count is that of its table; TIMETBLS is not counted
pub record Counted (T : PerFile (List ℕ)) (u : UsedRows) : Type 0 where
  pub delivery : u.delivery ≡ length (rows_in Delivery T.delivery)
  pub company : u.company ≡ length (rows_in (Rows Company) T.company)
  pub country : u.country ≡ length (rows_in (Rows Country) T.country)
  pub trnsmode : u.trnsmode ≡ length (rows_in (Rows Trnsmode) T.trnsmode)
  pub timezone : u.timezone ≡ length (rows_in (Groups Timezone) T.timezone)
  pub stations : u.stations ≡ length (rows_in (Rows Stations) T.stations)
  pub footnote : u.footnote ≡ length (rows_in (Groups Footnote) T.footnote)
  pub changes : u.changes ≡ length (rows_in (Groups Changes) T.changes)
  pub xfootnote : u.xfootnote ≡ length (rows_in (Groups Xfootnote) T.xfootnote)
  pub xchanges : u.xchanges ≡ length (rows_in (Groups Xchanges) T.xchanges)

-- a table that is needed has rows
abbrev pub there : PerFile (List Row) → File → Bool
there R f = cond (needed (held_in R) f) (held_in R f) true

unfoldable pub all_there : PerFile (List Row) → Bool
all_there R = all (there R) in_order

-- TIMETBLS is asked for as a whole, and the others in two parts
abbrev pub but_timetbls : (File → Bool) → File → Bool
but_timetbls p Delivery = p Delivery
but_timetbls p (Rows f) = p (Rows f)
but_timetbls p (Groups f) = p (Groups f)
but_timetbls p Timetbls = true

unfoldable pub all_framed : Form → Row → PerFile (List ℕ) → Bool
all_framed form delivery T = all (but_timetbls (λ f. framed form delivery f (of T f))) in_order

unfoldable pub all_behind : Context → PerFile (List ℕ) → Bool
all_behind c T = all (but_timetbls (λ f. behind c f (rows_in f (of T f)))) in_order

abbrev pub timetbls_sound : Context → Form → Row → List ℕ → Bool
timetbls_sound c form delivery t = framed form delivery Timetbls t && behind c Timetbls (rows_in Timetbls t)

-- WHAT IS TOLD of eleven tables: whether they are sound, and where they are, whether the slots `ps` are an index of all services
pub record SoundTold (T : PerFile (List ℕ)) (ps : List ℕ) (r : Option Bool) : Type 0 where
  pub says : is_some r ≡ sound T
  pub services : r ≡ Some true → Index Timetbls T.timetbls (length (rows_in Timetbls T.timetbls)) (length ps) ps

-- TIMETBLS and the files after it, read one after the other: what their readers ask and tell.
use Rattle.std.specs.Prelude.{ℕ, ◌≡◌, List, true}
use Rattle.iff.specs.Refusals.{fine, Verdict}
use Rattle.iff.specs.declared.GroupFile.TheVariants.{Changes, Xfootnote, Xchanges}
use Rattle.iff.specs.declared.File.TheVariants.{Groups, Timetbls}
use Rattle.iff.specs.declared.Form.{Form}
use Rattle.references.specs.Agree.{BlockKeys, GroupKeys}
use Rattle.reading.specs.Reading.{Ready, FileRead}
use Rattle.block_walks.specs.Blocks.{Counted}
use Rattle.last_files.specs.declared.LastFiles.{LastFiles}

-- a value for each of them
pub record Four (A : Type 0) : Type 0 where
  pub timetbls : A
  pub changes : A
  pub xfootnote : A
  pub xchanges : A

abbrev pub four : {A : Type 0} → A → A → A → A → Four A
four timetbls changes xfootnote xchanges = record { timetbls = timetbls; changes = changes; xfootnote = xfootnote; xchanges = xchanges }

-- BEFORE THEY ARE READ: each table is all zero, and has room
pub record LastsReady (F z : Four (List ℕ)) : Type 0 where
  pub timetbls : Ready Timetbls F.timetbls z.timetbls
  pub changes : Ready (Groups Changes) F.changes z.changes
  pub xfootnote : Ready (Groups Xfootnote) F.xfootnote z.xfootnote
  pub xchanges : Ready (Groups Xchanges) F.xchanges z.xchanges

-- ONCE THEY ARE READ, after a verdict v: the verdict after each file but the last, the rows that TIMETBLS' table has, and what the readers tell; tables
-- were z and are a
pub record LastsRead (form : Form) (header companies modes stations footnotes : List ℕ) (F : Four (List ℕ)) (v : Verdict) (z a : Four (List ℕ))
    (r : LastFiles) : Type 0 where
  pub after_timetbls : Verdict
  pub after_changes : Verdict
  pub after_xfootnote : Verdict
  pub rows : ℕ
  pub blocks : FileRead Timetbls form (λ c. BlockKeys c companies modes stations footnotes) header F.timetbls v z.timetbls a.timetbls after_timetbls
  pub counted : fine after_timetbls ≡ true → Counted a.timetbls rows r.services
  pub changed :
      FileRead (Groups Changes) form (λ c. GroupKeys c rows companies modes stations a.timetbls z.xfootnote) header
      F.changes after_timetbls z.changes a.changes after_changes
  pub marked :
      FileRead (Groups Xfootnote) form (λ c. GroupKeys c rows companies modes stations a.timetbls footnotes) header
      F.xfootnote after_changes z.xfootnote a.xfootnote after_xfootnote
  pub excepted :
      FileRead (Groups Xchanges) form (λ c. GroupKeys c rows companies modes stations a.timetbls a.xfootnote) header
      F.xchanges after_xfootnote z.xchanges a.xchanges r.verdict

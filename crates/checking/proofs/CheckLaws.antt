-- What the check program says, from the verdict over sizes and from the load's answer. Assumes nothing.
use Rattle.std.specs.Prelude.{Ok, Option}
use Prim.Native.Nat.{ℕ, suc}
use mathlib.Core.Path.{◌≡◌}
use mathlib.Core.List.{List}
use Rattle.iff.specs.Files.{of, eleven}
use Rattle.iff.specs.declared.RowFile.TheVariants.{Company, Country, Trnsmode, Stations}
use Rattle.iff.specs.declared.GroupFile.TheVariants.{Timezone, Footnote, Changes, Xfootnote, Xchanges}
use Rattle.iff.specs.declared.File.{File}
use Rattle.iff.specs.declared.File.TheVariants.{Delivery, Rows, Groups, Timetbls}
use Rattle.iff.specs.declared.Reason.{Reason}
use Rattle.text_puts.specs.Texts.{Appended}
use Rattle.reports.specs.Report.{report_line}
use Rattle.reports.specs.declared.Report.{Report}
use Rattle.reports.specs.declared.Report.TheVariants.{Larger, Answered}
use Rattle.folders.specs.Reads.{ReadAs}
use Rattle.checking.specs.Check.{most_bytes, report_of}
use Rattle.iff.specs.Refusals.{Answer, Verdict, fault_at}
use Rattle.iff.specs.declared.Place.{Place}

pub larger_is : {v w : Verdict} (a : Answer) (r : Reason) (p : Option Place) → v ≡ w → v ≡ fault_at r p → Larger p ≡ report_of w a
unfolding report_of
larger_is a r p e g = rw (← e, g)

pub answer_is : {v w : Verdict} {x a : Answer} → v ≡ w → v ≡ Ok tt → x ≡ a → Answered x ≡ report_of w a
unfolding report_of
answer_is e g h = rw (← e, g, h)

-- a report's line, where the report is what it is to be
pub line_is : {r q : Report} {was is : List ℕ} {n : ℕ} → r ≡ q → Appended was 0 (report_line r) is n → Appended was 0 (report_line q) is n
line_is e p = rw (← e) p

-- a file read under its own name, one byte more than it may have
abbrev Named : List ℕ → File → List ℕ → Type 0
Named folder f bytes = ReadAs folder f (suc most_bytes) bytes

-- eleven such files
pub all_named : {folder a1 a2 a3 a4 a5 a6 a7 a8 a9 a10 a11 : List ℕ} →
    Named folder Delivery a1 →
    Named folder (Rows Company) a2 →
    Named folder (Rows Country) a3 →
    Named folder (Rows Trnsmode) a4 →
    Named folder (Groups Timezone) a5 →
    Named folder (Rows Stations) a6 →
    Named folder (Groups Footnote) a7 →
    Named folder Timetbls a8 →
    Named folder (Groups Changes) a9 →
    Named folder (Groups Xfootnote) a10 →
    Named folder (Groups Xchanges) a11 →
    (f : File) → Named folder f (of (eleven a1 a2 a3 a4 a5 a6 a7 a8 a9 a10 a11) f)
all_named h1 h2 h3 h4 h5 h6 h7 h8 h9 h10 h11 Delivery = h1
all_named h1 h2 h3 h4 h5 h6 h7 h8 h9 h10 h11 (Rows Company) = h2
all_named h1 h2 h3 h4 h5 h6 h7 h8 h9 h10 h11 (Rows Country) = h3
all_named h1 h2 h3 h4 h5 h6 h7 h8 h9 h10 h11 (Rows Trnsmode) = h4
all_named h1 h2 h3 h4 h5 h6 h7 h8 h9 h10 h11 (Groups Timezone) = h5
all_named h1 h2 h3 h4 h5 h6 h7 h8 h9 h10 h11 (Rows Stations) = h6
all_named h1 h2 h3 h4 h5 h6 h7 h8 h9 h10 h11 (Groups Footnote) = h7
all_named h1 h2 h3 h4 h5 h6 h7 h8 h9 h10 h11 Timetbls = h8
all_named h1 h2 h3 h4 h5 h6 h7 h8 h9 h10 h11 (Groups Changes) = h9
all_named h1 h2 h3 h4 h5 h6 h7 h8 h9 h10 h11 (Groups Xfootnote) = h10
all_named h1 h2 h3 h4 h5 h6 h7 h8 h9 h10 h11 (Groups Xchanges) = h11

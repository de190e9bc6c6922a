-- "The check program reads the files by name, each up to 4,096 bytes, with room for 64 lines each": what it says of eleven files.
use Rattle.std.specs.Prelude.{ℕ, suc, ◌*◌, List, Err, Ok}
use Rattle.iff.specs.Files.{PerFile, of, per_file}
use Rattle.iff.specs.Tables.{row_width}
use Rattle.iff.specs.declared.File.{File}
use Rattle.iff_rules.specs.Load.{load_answer}
use Rattle.sizes.specs.Sizes.{lengths_within, lengths_of}
use Rattle.text_puts.specs.Texts.{Appended}
use Rattle.reports.specs.Report.{report_line}
use Rattle.reports.specs.declared.Report.{Report}
use Rattle.reports.specs.declared.Report.TheVariants.{Larger, Answered}
use Rattle.folders.specs.Reads.{ReadAs}
use Rattle.iff.specs.Refusals.{Answer, Verdict}

abbrev pub most_bytes : ℕ
most_bytes = 4096

-- tables with room for 64 lines
abbrev pub room_for64 : PerFile ℕ
room_for64 = per_file (λ f. 64 * row_width f)

-- the first larger file, before any of them is read
unfoldable pub report_of : Verdict → Answer → Report
report_of (Ok _) a = Answered a
report_of (Err fault) a = Larger fault.place

abbrev pub checked : PerFile (List ℕ) → Report
checked F = report_of (lengths_within most_bytes (lengths_of F)) (load_answer F room_for64)

-- a folder checked: each file's bytes are read under its own name, one more than it may have, and what is said of them all is put at the
-- front of a buffer
pub record FolderChecked (folder was is : List ℕ) (n : ℕ) : Type 0 where
  pub files : PerFile (List ℕ)
  pub named : (f : File) → ReadAs folder f (suc most_bytes) (of files f)
  pub line : Appended was 0 (report_line (checked files)) is n

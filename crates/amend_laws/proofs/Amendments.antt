-- An amendment, the tables after it and the files that it stands for.
use mathlib.Core.Bool.{Bool, true, false}
use Prim.Native.Nat.{ℕ}
use mathlib.Core.List.{List}
use Rattle.iff.specs.Files.{PerFile}
use Rattle.iff.specs.Refusals.{fine}
use Rattle.iff_desk.specs.Amend.{amend_verdict, amend_timetbls}
use Rattle.amend_laws.proofs.OtherTables.{with_timetbls}
use Rattle.amend_laws.proofs.EditedFiles.{edited_files}

pub record Amendment : Type 0 where
  pub service : ℕ
  pub block : List ℕ

abbrev pub tables_after : PerFile (List ℕ) → Amendment → PerFile (List ℕ)
tables_after T a = with_timetbls T (amend_timetbls T a.service a.block)

-- edited where it is accepted, as they were where it is refused
abbrev pub files_where : Bool → PerFile (List ℕ) → Amendment → PerFile (List ℕ)
files_where true F a = edited_files F a.service a.block
files_where false F a = F

abbrev pub files_after : PerFile (List ℕ) → PerFile (List ℕ) → Amendment → PerFile (List ℕ)
files_after T F a = files_where (fine (amend_verdict T a.service a.block)) F a

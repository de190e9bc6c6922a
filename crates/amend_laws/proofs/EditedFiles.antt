-- What an amendment stands for: the delivery's files with the edited TIMETBLS; and the tables of a load.
use Prim.Native.Nat.{ℕ}
use mathlib.Core.List.{List}
use Rattle.iff.specs.Files.{PerFile, per_file}
use Rattle.iff_rules.specs.Rows.{rows_of_files, context_of}
use Rattle.iff_rules.specs.Load.{load_table}
use Rattle.iff_desk.specs.Amend.{edited}
use Rattle.amend_laws.proofs.OtherTables.{with_timetbls}

-- the files with the edited TIMETBLS, in the delivery's own form
abbrev pub edited_files : PerFile (List ℕ) → ℕ → List ℕ → PerFile (List ℕ)
edited_files F s b = with_timetbls F (edited (context_of (rows_of_files F)).form F.timetbls s b)

-- the tables that a load leaves
abbrev pub loaded : PerFile (List ℕ) → PerFile ℕ → PerFile (List ℕ)
loaded F R = per_file (λ f. load_table f F R)

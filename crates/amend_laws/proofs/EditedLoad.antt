-- A LOAD of an accepted delivery of which TIMETBLS alone is another text, with the same services: its verdict is that of TIMETBLS, since the rules
-- ask the other files for nothing new; and where it is accepted, the other ten tables are as they were. Assumes nothing.
use Rattle.std.specs.Prelude.{Ok}
use Prim.Native.Nat.{ℕ, ◌<◌}
use mathlib.Core.Path.{◌≡◌, refl, ap, sym, ◌∙◌}
use mathlib.Core.List.{List, [], ◌∷◌}
use mathlib.Core.Bool.{cond}
use native.Mathlib.Omega.{arith}
use lib.ListN.{length, replicate}
use borrow.Author.Tests.{lt-ltb}
use Rattle.iff.specs.Files.{PerFile, of, per_file, eleven}
use Rattle.iff.specs.Refusals.{first_fault, fine}
use Rattle.iff.specs.Lines.{lines}
use Rattle.iff.specs.Tables.{Row, keys_of}
use Rattle.iff.specs.declared.RowFile.TheVariants.{Company, Country, Trnsmode, Stations}
use Rattle.iff.specs.declared.GroupFile.TheVariants.{Timezone, Footnote, Changes, Xfootnote, Xchanges}
use Rattle.iff.specs.declared.File.{File}
use Rattle.iff.specs.declared.File.TheVariants.{Delivery, Rows, Groups, Timetbls}
use Rattle.iff_rules.specs.Rows.{rows_of_lines, rows_of_files, delivery_rows, form_of, first_of, Context, context_of}
use Rattle.iff_rules.specs.Load.{length_verdict, present_in, absence_verdict, room_verdict, over_files, header_of, file_verdict, contents_verdict, load_verdict, filled, load_table}
use Rattle.iff_laws.specs.ScanLaws.{no_fault_all}
use Rattle.amend_laws.proofs.OtherTables.{with_timetbls, same_context}
use Rattle.amend_laws.proofs.EditedVerdicts.{lone_fault}

module _ (F : PerFile (List ℕ)) (R : PerFile ℕ) (e : load_verdict F R ≡ Ok tt) (t : List ℕ) where
  abbrev D : PerFile (List Row)
  D = rows_of_files F

  abbrev c : Context
  c = context_of (rows_of_files F)

  abbrev G : PerFile (List ℕ)
  G = with_timetbls F t

  -- its rows, and what the rules ask
  abbrev rows : List Row
  rows = rows_of_lines (form_of (first_of (delivery_rows F.delivery))) Timetbls (lines t)

  pub rows_with : rows_of_files G ≡ with_timetbls D rows
  rows_with = refl

  -- the tests of sizes
  lengths : over_files (λ f. length_verdict f (length (of G f))) ≡ length_verdict Timetbls (length t)
  unfolding load_verdict
  lengths = lone_fault _ 7 (length_verdict Timetbls (length t)) (omega arith) (no_fault_all _ e 0 (omega arith))

  absences : over_files (absence_verdict (present_in G)) ≡ absence_verdict (present_in G) Timetbls
  unfolding load_verdict
  absences = lone_fault _ 7 (absence_verdict (present_in G) Timetbls) (omega arith) (no_fault_all _ e 1 (omega arith))

  rooms : over_files (λ f. room_verdict f (length (lines (of G f))) (of R f)) ≡ room_verdict Timetbls (length (lines t)) R.timetbls
  unfolding load_verdict
  rooms = lone_fault _ 7 (room_verdict Timetbls (length (lines t)) R.timetbls) (omega arith) (no_fault_all _ e 2 (omega arith))

  -- the lines, file by file
  was_read : contents_verdict c D F ≡ Ok tt
  unfolding load_verdict
  was_read = no_fault_all _ e 3 (omega arith)

  reads : contents_verdict c (rows_of_files G) G ≡ file_verdict c (header_of F) Timetbls (lines t)
  unfolding contents_verdict
  reads = lone_fault _ 8 (file_verdict c (header_of F) Timetbls (lines t)) (omega arith) was_read

  module _ (services : keys_of Timetbls rows ≡ keys_of Timetbls D.timetbls) where
    pub context_same : context_of (rows_of_files G) ≡ c
    context_same = same_context D rows services

    -- THE VERDICT
    pub load_with : 0 < length t → load_verdict G R
        ≡ first_fault
        (length_verdict Timetbls (length t)
        ∷ room_verdict Timetbls (length (lines t)) R.timetbls
        ∷ file_verdict c (header_of F) Timetbls (lines t)
        ∷ [])
    unfolding load_verdict first_fault
    load_with h =
        let contents : contents_verdict (context_of (rows_of_files G)) (rows_of_files G) G ≡ file_verdict c (header_of F) Timetbls (lines t) =
        ap (λ (d : Context). contents_verdict d (rows_of_files G) G) context_same ∙ reads in
        rw (lengths, absences, rooms, contents, lt-ltb 0 (length t) h)

  -- THE TABLES, where it is accepted
  module _ (a : load_verdict G R ≡ Ok tt) where
    table_stays : (f : File) → of (rows_of_files G) f ≡ of D f → load_table f G R ≡ load_table f F R
    unfolding load_table
    table_stays f q = λ i. cond (fine ((a ∙ sym e) i)) (filled f (of R f) (q i)) (replicate (of R f) 0)

    pub tables_with : per_file (λ f. load_table f G R) ≡ with_timetbls (per_file (λ f. load_table f F R)) (load_table Timetbls G R)
    tables_with = λ i.
        eleven (table_stays Delivery refl i) (table_stays (Rows Company) refl i) (table_stays (Rows Country) refl i) (table_stays (Rows Trnsmode) refl i)
        (table_stays (Groups Timezone) refl i) (table_stays (Rows Stations) refl i) (table_stays (Groups Footnote) refl i) (load_table Timetbls G R)
        (table_stays (Groups Changes) refl i) (table_stays (Groups Xfootnote) refl i) (table_stays (Groups Xchanges) refl i)

-- LAW: AN ACCEPTED LOAD IS SOUND. Over the definitions alone; it assumes that the files' bytes are bytes, and nothing else.
use Rattle.std.specs.Prelude.{Err, Ok}
use Prim.Native.Nat.{ℕ, suc, ◌-◌, ◌*◌, ◌/◌, ◌≤◌, ◌<◌}
use mathlib.Core.Path.{◌≡◌, refl, ap, sym, ◌∙◌}
use mathlib.Core.List.{List, [], ◌∷◌}
use mathlib.Core.Bool.{Bool, true, ◌&&◌, cond, false≢true}
use native.Mathlib.Omega.{arith}
use native.Mathlib.Nat.{le-div_iff_mul-le}
use lib.Dec.{ltb}
use lib.ListN.{length}
use borrow.Author.Tests.{ltb-true, lt-ltb}
use Rattle.iff.specs.Lists.{all}
use Rattle.iff.specs.Files.{PerFile, of, per_file, in_order, needed}
use Rattle.iff.specs.Refusals.{fine, Verdict}
use Rattle.iff.specs.Lines.{Line, lines}
use Rattle.iff.specs.Values.{words, field_words}
use Rattle.iff.specs.Tables.{Row, row_width, padded, fill, rows_in}
use Rattle.iff.specs.Words.{own_company}
use Rattle.iff.specs.Columns.{form424}
use Rattle.iff.specs.declared.RowFile.{RowFile}
use Rattle.iff.specs.declared.RowFile.TheVariants.{Company, Country, Trnsmode, Stations}
use Rattle.iff.specs.declared.GroupFile.{GroupFile}
use Rattle.iff.specs.declared.GroupFile.TheVariants.{Timezone, Footnote, Changes, Xfootnote, Xchanges}
use Rattle.iff.specs.declared.File.{File}
use Rattle.iff.specs.declared.File.TheVariants.{Delivery, Rows, Groups, Timetbls}
use Rattle.iff.specs.declared.Form.{Form}
use Rattle.iff_rules.specs.Rows.{first_row_of, rows_of_lines, rows_of_files, delivery_rows, form_of, first_of, Context, context_of}
use Rattle.iff_rules.specs.References.{names}
use Rattle.iff_rules.specs.Load.{delivery_verdict, header_of, read_file, contents_verdict, load_verdict, filled, load_table}
use Rattle.iff_laws.specs.ScanLaws.{no_fault_all, unless_passes, verdict_fine}
use Rattle.iff_laws.specs.TruthLaws.{and_both, says_itself, says_lt, says_where}
use Rattle.iff_laws.specs.Meets.{Meets}
use Rattle.iff_laws.proofs.MeetsLaws.{fine_exactly}
use Rattle.iff_desk.specs.Sound.{rows_of_tables, held_in, sound_rows, sound_table, sound}
use Rattle.tables.proofs.Each.{Each}
use Rattle.tables.proofs.Rows.{Used}
use Rattle.tables.proofs.Widths.{widths}
use Rattle.tables.proofs.Filled.{rows_in_fill, fill_behind, zeros_all}
use Rattle.file_laws.proofs.RowLaws.{Held, held_rows, held_groups, held_timetbls}
pub use Rattle.sound_laws.proofs.FileBytes.{OfBytes}
use Rattle.sound_laws.proofs.PassLaws.{all_hold}
use Rattle.sound_laws.proofs.TextLaws.{lines_bytes, length_lines, some_lines}
use Rattle.sound_laws.proofs.FileLaws.{FileFine, rows_sound, delivery_fine, file_fine, delivery_words_lem, delivery_formless}

-- ELEVEN VALUES: each is the function's, and where two functions agree they are the same
module _ {A : Type 0} (v : File → A) where
  of_rows_lem : (f : RowFile) → of (per_file v) (Rows f) ≡ v (Rows f)
  of_rows_lem Company = refl
  of_rows_lem Country = refl
  of_rows_lem Trnsmode = refl
  of_rows_lem Stations = refl

  of_groups_lem : (f : GroupFile) → of (per_file v) (Groups f) ≡ v (Groups f)
  of_groups_lem Timezone = refl
  of_groups_lem Footnote = refl
  of_groups_lem Changes = refl
  of_groups_lem Xfootnote = refl
  of_groups_lem Xchanges = refl

  of_each : (f : File) → of (per_file v) f ≡ v f
  of_each Delivery = refl
  of_each (Rows f) = of_rows_lem f
  of_each (Groups f) = of_groups_lem f
  of_each Timetbls = refl

every_file : (p : File → Bool) → ((f : File) → p f ≡ true) → (fs : List File) → all p fs ≡ true
unfolding all
every_file p m [] = refl
every_file p m (f ∷ fs) = and_both (m f) (every_file p m fs)

-- WHAT MAKES TABLES SOUND: each table, with the rows D of all, and DELIVERY's company
abbrev sound_with : PerFile (List ℕ) → PerFile (List Row) → Bool
sound_with T D =
    all (λ f. sound_table (context_of D) D f (of T f)) in_order && names (context_of D) (Rows Company) (own_company (first_of D.delivery))

pub sound_by : (T : PerFile (List ℕ)) (D : PerFile (List Row)) → rows_of_tables T ≡ D → ((f : File) → sound_table (context_of D) D f (of T f) ≡ true)
    → names (context_of D) (Rows Company) (own_company (first_of D.delivery)) ≡ true → sound T ≡ true
unfolding sound
sound_by T D e m n = ap (sound_with T) e ∙ and_both (every_file (λ f. sound_table (context_of D) D f (of T f)) m in_order) n

-- one table: needed where its file is, its rows, and zeros behind them
module _ (c : Context) (F : PerFile (List ℕ)) (D : PerFile (List Row)) (held : (f : File) → held_in D f ≡ ltb 0 (length (of F f))) where
  table_sound : (f : File) (n : ℕ) (t : List ℕ) → t ≡ fill (row_width f) n (of D f) → Each (Used (row_width f)) (of D f)
      → (needed (λ g. ltb 0 (length (of F g))) f ≡ true → 0 < length (of F f))
      → sound_rows c (first_of D.delivery) f (of D f) ≡ true → sound_table c D f t ≡ true
  unfolding sound_table
  table_sound f n t q u h r =
      let there : File → Bool = λ g. ltb 0 (length (of F g)) in
      let same : held_in D ≡ there = λ i g. held g i in
      all_hold _ (
        ap (λ (p : File → Bool). cond (needed p f) (p f) true) same ∙ (says_where (says_itself {b = needed there f}) (says_lt 0 (length (of F f)))).1 h,
        (
          r,
          (rw (q, fill_behind (row_width f) n (of D f) u) (zeros_all (n - length (of D f) * row_width f)), tt),
        ),
      )

-- THE ROWS OF A FILE: some where it has lines, and DELIVERY's are in use
some_rows : (form : Form) (f : File) (ls : List Line) → ltb 0 (length (rows_of_lines form f ls)) ≡ ltb 0 (length ls)
unfolding rows_of_lines
some_rows form f [] = refl
some_rows form f (l ∷ ls) =
    let h : 0 < length (rows_of_lines form f (l ∷ ls)) = omega arith in
    lt-ltb 0 _ h ∙ sym (lt-ltb 0 (suc (length ls)) (omega arith))

held_delivery : (form : Form) (ls : List Line) → Held Delivery form ls
unfolding rows_of_lines first_row_of padded words field_words
held_delivery form [] = record { used = tt; few_rows = omega arith }
held_delivery form (l ∷ ls) = record { used = ((refl, refl), tt); few_rows = omega arith }

-- A LOAD WITHOUT FAULT
module _ (F : PerFile (List ℕ)) (R : PerFile ℕ) (bytes : OfBytes F) (e : load_verdict F R ≡ Ok tt) where
  abbrev D : PerFile (List Row)
  D = rows_of_files F

  abbrev c : Context
  c = context_of (rows_of_files F)

  abbrev form : Form
  form = form_of (first_of (delivery_rows F.delivery))

  abbrev lines_of : File → List Line
  lines_of f = lines (of F f)

  pub meets : Meets F R
  meets = (fine_exactly F R).0 e

  pub own_form : c.form ≡ form
  unfolding context_of
  own_form = ap (λ (rs : List Row). form_of (first_of rs)) (delivery_formless form (form424 0) (lines F.delivery))

  -- its verdicts, file by file
  contents : contents_verdict c D F ≡ Ok tt
  unfolding load_verdict
  contents = no_fault_all _ e 3 (omega arith)

  delivery_read : delivery_verdict (lines F.delivery) ≡ Ok tt
  unfolding contents_verdict
  delivery_read = no_fault_all _ contents 0 (omega arith)

  company_named_lem : names c (Rows Company) (own_company (first_of D.delivery)) ≡ true
  unfolding contents_verdict
  company_named_lem = unless_passes _ _ (verdict_fine _ _ (no_fault_all _ contents 2 (omega arith)))

  rows_read : (f : RowFile) → read_file c F (Rows f) ≡ Ok tt
  unfolding contents_verdict
  rows_read Company = no_fault_all _ contents 1 (omega arith)
  rows_read Country = no_fault_all _ contents 3 (omega arith)
  rows_read Trnsmode = no_fault_all _ contents 4 (omega arith)
  rows_read Stations = no_fault_all _ contents 6 (omega arith)

  groups_read : (f : GroupFile) → read_file c F (Groups f) ≡ Ok tt
  unfolding contents_verdict
  groups_read Timezone = no_fault_all _ contents 5 (omega arith)
  groups_read Footnote = no_fault_all _ contents 7 (omega arith)
  groups_read Changes = no_fault_all _ contents 9 (omega arith)
  groups_read Xfootnote = no_fault_all _ contents 10 (omega arith)
  groups_read Xchanges = no_fault_all _ contents 11 (omega arith)

  pub timetbls_read : read_file c F Timetbls ≡ Ok tt
  unfolding contents_verdict
  timetbls_read = no_fault_all _ contents 8 (omega arith)

  files : (f : File) → FileFine c (header_of F) f (lines_of f)
  files Delivery = delivery_fine c (lines F.delivery) delivery_read
  files (Rows f) = file_fine c (header_of F) (Rows f) (λ ls q. q) (lines_of (Rows f)) (rows_read f)
  files (Groups f) = file_fine c (header_of F) (Groups f) (λ ls q. q) (lines_of (Groups f)) (groups_read f)
  files Timetbls = file_fine c (header_of F) Timetbls (λ ls q. q) (lines_of Timetbls) timetbls_read

  held : (f : File) → Held f c.form (lines_of f)
  held Delivery = held_delivery c.form (lines_of Delivery)
  held (Rows f) = held_rows c.form f (lines_of (Rows f))
  held (Groups f) = held_groups c.form c (header_of F) f (lines_of (Groups f)) (groups_read f)
  held Timetbls = held_timetbls c.form c (header_of F) (lines_of Timetbls) timetbls_read

  -- THE ROWS
  rows_by : (f : File) → of D f ≡ rows_of_lines form f (lines_of f)
  rows_by f = of_each (λ g. rows_of_lines form g (lines_of g)) f

  pub rows_are : (f : File) → of D f ≡ rows_of_lines c.form f (lines_of f)
  rows_are f = rows_by f ∙ ap (λ (m : Form). rows_of_lines m f (lines_of f)) (sym own_form)

  pub used : (f : File) → Each (Used (row_width f)) (of D f)
  used f = rw (rows_are f) (held f).used

  pub fit : (f : File) → length (of D f) * row_width f ≤ of R f
  fit f =
      let n : length (rows_of_lines c.form f (lines_of f)) ≤ of R f / row_width f = omega (arith, (held f).few_rows, meets.roomy f) in
      (le-div_iff_mul-le (widths f).some).0 (rw (rows_are f) n)

  present : (f : File) → held_in D f ≡ ltb 0 (length (of F f))
  present f = ap (λ (rs : List Row). ltb 0 (length rs)) (rows_by f) ∙ some_rows form f (lines_of f) ∙ some_lines (of F f)

  -- THE TABLES
  abbrev T : PerFile (List ℕ)
  T = per_file (λ f. load_table f F R)

  pub table_is : (f : File) → of T f ≡ fill (row_width f) (of R f) (of D f)
  unfolding load_table filled
  table_is f = of_each (λ g. load_table g F R) f ∙ rw e

  table_rows_lem : (f : File) → rows_in f (of T f) ≡ rows_of_lines form f (lines_of f)
  table_rows_lem f = ap (rows_in f) (table_is f) ∙ rows_in_fill (row_width f) (widths f).some (of R f) (of D f) (used f) (fit f) ∙ rows_by f

  pub tables_rows : rows_of_tables T ≡ D
  tables_rows = λ i. per_file (λ f. table_rows_lem f i)

  -- SOUND
  delivery_there : 0 < length (lines F.delivery)
  delivery_there = ltb-true _ _ (some_lines F.delivery ∙ lt-ltb _ _ (meets.there Delivery refl))

  rows_ok : (f : File) → sound_rows c (first_of D.delivery) f (of D f) ≡ true
  rows_ok f =
      ap (sound_rows c (first_of D.delivery) f) (rows_are f)
      ∙ rows_sound c (header_of F) (first_of D.delivery) (delivery_words_lem form (lines F.delivery) delivery_there) f (lines_of f)
      (lines_bytes (of F f) (bytes.below f)) (files f) (omega (arith, length_lines (of F f), meets.short f))

  pub faultless_sound : sound T ≡ true
  faultless_sound =
      sound_by T D tables_rows
      (λ f. table_sound c F D present f (of R f) (of T f) (table_is f) (used f) (meets.there f) (rows_ok f)) company_named_lem

-- THE LAW
pub accepted_is_sound : (F : PerFile (List ℕ)) (R : PerFile ℕ) → OfBytes F → fine (load_verdict F R) ≡ true
    → sound (per_file (λ f. load_table f F R)) ≡ true
accepted_is_sound F R bytes a = go (load_verdict F R) refl a
  where
    go : (v : Verdict) → load_verdict F R ≡ v → fine v ≡ true → sound (per_file (λ f. load_table f F R)) ≡ true
    go (Ok _) e q = faultless_sound F R bytes e
    go (Err fault) e q = absurd (false≢true q)

-- First lines: their tests by what the code found, and their rows. Their columns are the same in every form. Assumes nothing.
use Prim.Native.Nat.{ℕ}
use mathlib.Core.Path.{◌≡◌, refl, sym, ◌∙◌}
use mathlib.Core.List.{List, [], ◌∷◌}
use mathlib.Core.Bool.{Bool, true, false, ◌&&◌, false≢true}
use lib.Dec.{eqb, lit≤}
use native.Mathlib.Omega.{arith}
use lib.ListN.{length, set}
use Rattle.iff.specs.Bytes.{at}
use Rattle.iff.specs.Refusals.{first_test, unless, Test}
use Rattle.iff.specs.Lines.{Line, letter}
use Rattle.iff.specs.Columns.{first_fields, record_fields, laid, fits, picture}
use Rattle.iff.specs.Values.{words, field_words, readable}
use Rattle.iff.specs.Tables.{Row, padded, row_width}
use Rattle.iff.specs.declared.File.{File}
use Rattle.iff.specs.declared.File.TheVariants.{Delivery, Rows, Groups, Timetbls}
use Rattle.iff.specs.declared.GroupFile.TheVariants.{Timezone, Footnote, Changes, Xfootnote, Xchanges}
use Rattle.iff.specs.declared.Form.{Form}
use Rattle.iff.specs.declared.Record.TheVariants.{FirstRecord}
use Rattle.iff.specs.declared.Reason.TheVariants.{Layout, Value, FirstLine, Order, Duplicate, Reference}
use Rattle.iff_rules.specs.Order.{line_test}
use Rattle.iff_rules.specs.Rows.{flag, line_one, first_row_of}
use Rattle.iff_rules.specs.Meaning.{first_meaning}
use Rattle.iff_rules.specs.Load.{first_line_test}
use Rattle.tables.proofs.Widths.{widths}
use Rattle.records.specs.Layouts.{line_of}
use Rattle.records.specs.Facts.{Legible}
use Rattle.reading.specs.Reading.{FirstLegible, FirstRow}

-- the tests as the code makes them
unfoldable pub head_tests : Bool → Bool → Bool → Bool → Bool → Test
head_tests h a s v m = first_test (unless h Order ∷ unless a Layout ∷ unless s FirstLine ∷ unless v Value ∷ unless m Value ∷ [])

split :
    (h a s v m : Bool) →
    first_test
    (unless true Layout ∷ unless h Order ∷ unless a Layout ∷ unless s FirstLine ∷ unless (v && m) Value ∷ unless true Duplicate
    ∷ unless true Reference ∷ [])
    ≡ head_tests h a s v m
unfolding first_test head_tests
split false a s v m = refl
split true false s v m = refl
split true true false v m = refl
split true true true false m = refl
split true true true true false = refl
split true true true true true = refl

pub first_is :
    (s : Bool) (l : Line) →
    first_line_test s l
    ≡ head_tests (eqb (letter l) at) (laid l first_fields) s (readable l.body first_fields) (first_meaning (first_row_of Delivery true l))
unfolding first_line_test line_test
first_is s l = split (eqb (letter l) at) (laid l first_fields) s (readable l.body first_fields) (first_meaning (first_row_of Delivery true l))

-- a line of any form, as the readers of lines say it
module _ (form : Form) where
  abbrev columns_of_first : List ℕ
  columns_of_first = picture (record_fields form FirstRecord)

  -- what is laid out fits
  pub laid_fits :
      (body : List ℕ) (ended b : Bool) → b ≡ laid (line_of body ended) (record_fields form FirstRecord) → b ≡ true →
      fits body columns_of_first ≡ true
  laid_fits body true b e t = sym e ∙ t
  laid_fits body false b e t = absurd (false≢true (sym e ∙ t))

  pub head_by :
      (s : Bool) (l : Line) (h a q v m : Bool) → eqb (letter l) at ≡ h → laid l (record_fields form FirstRecord) ≡ a → s ≡ q →
      readable l.body (record_fields form FirstRecord) ≡ v → first_meaning (first_row_of Delivery true (line_of l.body true)) ≡ m →
      head_tests h a q v m ≡ first_line_test s l
  unfolding record_fields first_row_of
  head_by s l h a q v m e f g i j = sym (first_is s l ∙ rw (e, f, g, i, j))

  pub legible_first : (body : List ℕ) → fits body columns_of_first ≡ true → readable body (record_fields form FirstRecord) ≡ true → FirstLegible body
  unfolding record_fields
  legible_first body f r = record { fitting = f; reading = r }

  -- a first line that can be read, into a row of its own
  pub first_legible : (body : List ℕ) → FirstLegible body → Legible form FirstRecord body 6
  unfolding record_fields
  first_legible body l = record { fitting = l.fitting; reading = l.reading; roomy = lit≤ tt }

  -- and into its file's
  pub row_legible : (f : File) (body row : List ℕ) → FirstRow f body row → Legible form FirstRecord body (length row)
  unfolding record_fields
  row_legible f body row r =
      record { fitting = r.legible.fitting; reading = r.legible.reading; roomy = omega (arith, (widths f).wide, r.width) }

  -- the row of so many words that a first line leaves
  abbrev written : ℕ → List ℕ → Row
  written w body = padded w (at ∷ words 0 body (record_fields form FirstRecord))

  -- its days are those of its row
  days_written_lem : (l : Line) → first_meaning (written 6 l.body) ≡ first_meaning (first_row_of Delivery true l)
  unfolding first_meaning first_row_of padded words field_words record_fields
  days_written_lem l = refl

  pub first_days : (row : Row) (l : Line) → row ≡ written 6 l.body → first_meaning row ≡ first_meaning (first_row_of Delivery true l)
  first_days row l e = rw e (days_written_lem l)

  -- with the flag it is the file's first row; in TIMETBLS it has the line's number too
  flagged : (f : File) (b : Bool) (body : List ℕ) → line_one f ≡ [] → set (written (row_width f) body) 5 (flag b) ≡ first_row_of f b (line_of body true)
  unfolding padded words field_words record_fields first_row_of
  flagged Delivery b body e = refl
  flagged (Rows f) b body e = refl
  flagged (Groups Timezone) b body e = refl
  flagged (Groups Footnote) b body e = refl
  flagged (Groups Changes) b body e = refl
  flagged (Groups Xfootnote) b body e = refl
  flagged (Groups Xchanges) b body e = refl
  flagged Timetbls b body e = absurd (let z : ◌≡◌ {A = ℕ} 0 1 = cc in omega arith)

  numbered : (b : Bool) (body : List ℕ) → set (set (written (row_width Timetbls) body) 5 (flag b)) 6 1 ≡ first_row_of Timetbls b (line_of body true)
  unfolding padded words field_words record_fields first_row_of
  numbered b body = refl

  module _ (f : File) (b : Bool) (body row was : List ℕ) (w : length was ≡ row_width f) (p : row ≡ written (length was) body) (x : ℕ)
      (g : x ≡ flag b) where
    pub row_flagged : line_one f ≡ [] → set row 5 x ≡ first_row_of f b (line_of body true)
    row_flagged e = rw (p, g, w) (flagged f b body e)

    pub row_numbered : f ≡ Timetbls → set (set row 5 x) 6 1 ≡ first_row_of f b (line_of body true)
    row_numbered e = rw (p, g, w, e) (numbered b body)

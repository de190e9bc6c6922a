-- What the readers of files ask and tell: a first line, the rows after it, a whole file.
use Rattle.std.specs.Prelude.{ℕ, suc, ◌*◌, ◌/◌, ◌≤◌, ◌≡◌, List, [], ◌∷◌, Bool, true, false, eqb, length, get_or, drop, replicate, Err, Ok, Result}
use Rattle.iff.specs.Lists.{same}
use Rattle.iff.specs.Refusals.{or_else, fine, Test, Verdict, fault_at}
use Rattle.iff.specs.Lines.{Line, lines, no_line}
use Rattle.iff.specs.Columns.{first_fields, picture, fits, form424}
use Rattle.iff.specs.Values.{readable}
use Rattle.iff.specs.Tables.{Row, tag, row_width, fill, key_tag, keys_of, rising}
use Rattle.iff.specs.declared.File.{File}
use Rattle.iff.specs.declared.File.TheVariants.{Delivery}
use Rattle.iff.specs.declared.Form.{Form}
use Rattle.iff_rules.specs.Rows.{first_row_of, rows_of_lines, Context}
use Rattle.iff_rules.specs.Load.{first_line_test, delivery_verdict, file_verdict}
use Rattle.iff.specs.declared.Fault.{Fault}
use Rattle.iff.specs.declared.Reason.{Reason}

-- BEFORE A FILE IS READ: its table is all zero, and has room for its lines
pub record Ready (f : File) (text t : List ℕ) : Type 0 where
  pub cleared : t ≡ replicate (length t) 0
  pub room : length (lines text) ≤ length t / row_width f

-- a first line whose words can be read
pub record FirstLegible (body : List ℕ) : Type 0 where
  pub fitting : fits body (picture first_fields) ≡ true
  pub reading : readable body first_fields ≡ true

-- room for a first line's row
pub record FirstRow (f : File) (body row : List ℕ) : Type 0 where
  pub legible : FirstLegible body
  pub width : length row ≡ row_width f

-- a text's first line
abbrev pub head_line : List ℕ → Line
head_line text = get_or (lines text) 0 no_line

-- A FIRST LINE: its tests, and its row with the lines after it
abbrev pub begin_test : Result ℕ Reason → Test
begin_test (Ok from) = Ok tt
begin_test (Err r) = Err r

-- a table that holds one first row, and has room for some lines more
pub record Begun (f : File) (more : ℕ) (first : Row) (t : List ℕ) : Type 0 where
  pub holds : t ≡ fill (row_width f) (length t) (first ∷ [])
  pub width : length first ≡ row_width f
  pub used : eqb (tag first) 0 ≡ false
  pub other : eqb (tag first) (key_tag f) ≡ false
  pub room : suc more * row_width f ≤ length t

-- the first line ends where the rest begins
pub record Split (f : File) (text t : List ℕ) (l : Line) (from : ℕ) : Type 0 where
  pub inside : from ≤ length text
  pub all : lines text ≡ l ∷ lines (drop from text)
  pub begun : Begun f (length (lines (drop from text))) (first_row_of f true l) t

pub record FirstRead (f : File) (header text was is : List ℕ) (l : Line) (r : Result ℕ Reason) : Type 0 where
  pub test : begin_test r ≡ first_line_test (same l.body header) l
  pub rest : (from : ℕ) → r ≡ Ok from → Split f text is l from
  pub kept : length is ≡ length was

-- THE ROWS AFTER IT
abbrev pub rows_verdict : Result Bool Fault → Verdict
rows_verdict (Ok rises) = Ok tt
rows_verdict (Err fault) = fault_at fault.reason fault.place

abbrev pub rises_of : Result Bool Fault → Bool
rises_of (Ok rises) = rises
rises_of (Err fault) = false

-- the verdict for every context of that form that agrees with the tables that were looked into; the rows behind the first; whether their keys rise
pub record RowsDone (f : File) (form : Form) (Agree : Context → Type 0) (due : Context → Verdict) (first : Row) (rows : List Row) (was is : List ℕ)
    (r : Result Bool Fault) : Type 0 where
  pub verdict : (c : Context) → c.form ≡ form → Agree c → rows_verdict r ≡ due c
  pub table : rows_verdict r ≡ Ok tt → is ≡ fill (row_width f) (length was) (first ∷ rows)
  pub rises : rows_verdict r ≡ Ok tt → rises_of r ≡ rising (keys_of f rows)
  pub kept : length is ≡ length was

-- A WHOLE FILE, after a verdict on what came before it
pub record FileRead (f : File) (form : Form) (Agree : Context → Type 0) (header text : List ℕ) (v : Verdict) (was is : List ℕ)
    (r : Verdict) : Type 0 where
  pub verdict : (c : Context) → c.form ≡ form → Agree c → r ≡ or_else v (file_verdict c header f (lines text))
  pub table : fine r ≡ true → is ≡ fill (row_width f) (length was) (rows_of_lines form f (lines text))
  pub kept : length is ≡ length was

-- DELIVERY, which has its first line alone
pub record DeliveryRead (text : List ℕ) (v : Verdict) (was is : List ℕ) (r : Verdict) : Type 0 where
  pub verdict : r ≡ or_else v (delivery_verdict (lines text))
  pub table : fine r ≡ true → is ≡ fill (row_width Delivery) (length was) (rows_of_lines (form424 0) Delivery (lines text))
  pub kept : length is ≡ length was

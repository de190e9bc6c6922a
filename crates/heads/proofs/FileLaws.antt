-- A first line and the rows after it make a file. Assumes nothing.
use Rattle.std.specs.Prelude.{Err, Ok, Option, Result}
use Prim.Native.Nat.{ℕ, suc, ◌+◌, ◌-◌, ◌*◌, ◌<◌}
use mathlib.Core.Path.{◌≡◌, refl, ap, sym, ◌∙◌}
use mathlib.Core.List.{List, [], ◌∷◌, ◌++◌}
use mathlib.Core.Bool.{Bool, true, false≢true}
use native.Mathlib.Omega.{arith}
use lib.ListN.{length, set, drop, replicate, length-append, length-set}
use lib.Seq.{set-append_left}
use Rattle.iff.specs.Lists.{same}
use Rattle.iff.specs.Refusals.{or_else, first_fault, verdict_at, Test, at_place, fault_at}
use Rattle.iff.specs.Lines.{Line, lines, first_line, width}
use Rattle.iff.specs.Tables.{Row, row_width, padded, joined, fill, keys_of, rising}
use Rattle.iff.specs.Values.{words, field_words}
use Rattle.iff.specs.declared.File.{File}
use Rattle.iff.specs.declared.Form.{Form}
use Rattle.iff.specs.declared.Reason.{Reason}
use Rattle.iff_rules.specs.Rows.{flag, first_row_of, later_rows, rows_of_lines, Context}
use Rattle.iff_rules.specs.Load.{first_line_test, later_verdict, file_verdict}
use Rattle.text.proofs.LineLaws.{lines_step}
use Rattle.tables.proofs.Filled.{fill_none}
use Rattle.tables.proofs.Widths.{widths}
use Rattle.reading.specs.Reading.{head_line, Ready, RowsDone, FileRead, rows_verdict, rises_of}
use Rattle.heads.proofs.BeginLaws.{first_width}
use Rattle.iff.specs.declared.Fault.{Fault}
use Rattle.iff.specs.declared.Place.{Place}

-- the flag in a first line's row
row_rises : (f : File) (b : Bool) (l : Line) → set (first_row_of f true l) 5 (flag b) ≡ first_row_of f b l
unfolding first_row_of padded words field_words
row_rises f b l = refl

row_long : (f : File) (l : Line) → 5 < length (first_row_of f true l)
row_long f l = rw (first_width f l) (omega (arith, (widths f).wide))

pub flag_set :
    (f : File) (n : ℕ) (b : Bool) (l : Line) (rs : List Row) →
    set (fill (row_width f) n (first_row_of f true l ∷ rs)) 5 (flag b) ≡ fill (row_width f) n (first_row_of f b l ∷ rs)
unfolding fill joined
flag_set f n b l rs =
    let first = first_row_of f true l in
    let i = row_long f l in
    let j : 5 < length (first ++ joined rs) = rw length-append (omega arith) in
    let in_rows = set-append_left (first ++ joined rs) (replicate (n - suc (length rs) * row_width f) 0) 5 (flag b) j in
    let in-first = set-append_left first (joined rs) 5 (flag b) i in
    rw (in_rows, in-first, row_rises f b l)

pub flag_place : (f : File) (n : ℕ) (l : Line) (rs : List Row) → 5 < length (fill (row_width f) n (first_row_of f true l ∷ rs))
unfolding fill joined
flag_place f n l rs = rw (length-append, length-append) (omega (arith, row_long f l))

-- a text that is not empty has a first line
pub some_lines : (text : List ℕ) → 0 < length text → lines text ≡ head_line text ∷ drop 1 (lines text)
some_lines text h =
    let e : lines text ≡ first_line text ∷ lines (drop (width text + 2) text) = lines_step text h in
    rw e

-- an absent file: no fault, no row
module _ (f : File) (form : Form) (Agree : Context → Type 0) (header text t : List ℕ) where
  pub absent : length text ≡ 0 → Ready f text t → FileRead f form Agree header text (Ok tt) t t (Ok tt)
  unfolding file_verdict rows_of_lines lines
  absent e r = go text e
    where
      go : (s : List ℕ) → length s ≡ 0 → FileRead f form Agree header s (Ok tt) t t (Ok tt)
      go [] p = record { verdict = λ c d a. refl; table = λ q. r.cleared ∙ sym (fill_none (row_width f) (length t)); kept = refl }
      go (x ∷ xs) p = absurd (omega arith)

  -- a fault before it is handed on
  pub passed : (k : Reason) (p : Option Place) (is : List ℕ) → length is ≡ length t → FileRead f form Agree header text (fault_at k p) t is (fault_at k p)
  passed k p is e = record { verdict = λ c d a. refl; table = λ q. absurd (false≢true q); kept = e }

-- one that is there
module _ (f : File) (form : Form) (Agree : Context → Type 0) (header text was : List ℕ) (ls : List Line)
    (some : lines text ≡ head_line text ∷ ls) where
  due :
      (c : Context) →
      file_verdict c header f (lines text)
      ≡ or_else (verdict_at (at_place f 0 1) (first_line_test (same (head_line text).body header) (head_line text))) (or_else (later_verdict c f ls) (Ok tt))
  unfolding file_verdict first_fault
  due c = ap (file_verdict c header f) some

  module _ (x : Test) (e : x ≡ first_line_test (same (head_line text).body header) (head_line text)) where
    pub first_refused :
        (k : Reason) (is : List ℕ) → x ≡ Err k → length is ≡ length was → FileRead f form Agree header text (Ok tt) was is (fault_at k (at_place f 0 1))
    first_refused k is p q = record { verdict = λ c d a. sym (due c ∙ rw (← e, p)); table = λ z. absurd (false≢true z); kept = q }

    module _ (p : x ≡ Ok tt) (first : Row) (rows : List Row) (begun is : List ℕ) (r : Result Bool Fault)
        (d : RowsDone f form Agree (λ c. later_verdict c f ls) first rows begun is r) (same_length : length begun ≡ length was) where
      pub rows_refused : (k : Reason) (q : Option Place) → r ≡ fault_at k q → FileRead f form Agree header text (Ok tt) was is (fault_at k q)
      rows_refused k q u =
          record {
            verdict = λ c n a. sym (due c ∙ rw (← e, p, ← (d.verdict c n a), u));
            table = λ z. absurd (false≢true z);
            kept = d.kept ∙ same_length;
          }

      module _ (b : Bool) (done : List ℕ) (u : r ≡ Ok b) (w : done ≡ set is 5 (flag b)) (g : first ≡ first_row_of f true (head_line text))
          (h : rows ≡ later_rows form f ls) where
        rises_is : b ≡ rising (keys_of f (later_rows form f ls))
        rises_is = rw (← h) (sym (ap rises_of u) ∙ d.rises (ap rows_verdict u))

        rows_are : first_row_of f b (head_line text) ∷ rows ≡ rows_of_lines form f (lines text)
        unfolding rows_of_lines
        rows_are = rw (some, rises_is, h)

        table_is : set is 5 (flag b) ≡ fill (row_width f) (length was) (rows_of_lines form f (lines text))
        table_is = rw (d.table (ap rows_verdict u), g, same_length, ← rows_are) (flag_set f (length was) b (head_line text) rows)

        pub rows_accepted : FileRead f form Agree header text (Ok tt) was done (Ok tt)
        rows_accepted =
            record {
              verdict = λ c n a. sym (due c ∙ rw (← e, p, ← (d.verdict c n a), u));
              table = λ z. w ∙ table_is;
              kept = rw (w, length-set) (d.kept ∙ same_length);
            }

        -- the flag has a place
        pub flag_fits : 5 < length is
        flag_fits = rw (d.table (ap rows_verdict u), g, same_length) (flag_place f (length was) (head_line text) rows)

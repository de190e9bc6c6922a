-- A whole file of rows. Assumes nothing.
use Rattle.std.specs.Prelude.{Bool, Result}
use Prim.Native.Nat.{ℕ}
use mathlib.Core.Path.{◌≡◌, ap, ◌∙◌}
use mathlib.Core.List.{List, [], ◌∷◌, append-nil}
use lib.ListN.{length, take}
use lib.Seq.{take_at}
use Rattle.iff.specs.Tables.{Row, row_width, joined, fill}
use Rattle.iff.specs.declared.RowFile.{RowFile}
use Rattle.iff.specs.declared.File.TheVariants.{Rows}
use Rattle.iff.specs.declared.Form.{Form}
use Rattle.iff_rules.specs.Rows.{Context}
use Rattle.reading.specs.Reading.{head_line, Begun, Split}
use Rattle.file_rows.specs.Plain.{first_in, PlainBegun, RowsOf}
use Rattle.iff.specs.declared.Fault.{Fault}

-- the row that begins a table stands first in it
first_in_lem : (f : RowFile) (n : ℕ) (first : Row) (t : List ℕ) → length first ≡ row_width (Rows f) → t ≡ fill (row_width (Rows f)) n (first ∷ [])
    → first_in f t ≡ first
unfolding fill joined
first_in_lem f n first t w e = ap (take (row_width (Rows f))) e ∙ rw append-nil (take_at first _ (row_width (Rows f)) w)

pub begun_first : (f : RowFile) (n : ℕ) (first : Row) (t : List ℕ) → Begun (Rows f) n first t → first_in f t ≡ first
begun_first f n first t b = first_in_lem f (length t) first t b.width b.holds

pub plain_begun : (f : RowFile) (text t : List ℕ) (from : ℕ) → Split (Rows f) text t (head_line text) from → PlainBegun f text from t
plain_begun f text t from s =
    record {
      inside = s.inside;
      begun = rw (begun_first f _ _ t s.begun) s.begun;
    }

-- rows that were read for every context of some are so for each of fewer
pub for_fewer : (f : RowFile) (form : Form) (Agree Fewer : Context → Type 0) (text : List ℕ) (from : ℕ) (was is : List ℕ) (r : Result Bool Fault)
    → ((c : Context) → Fewer c → Agree c) → RowsOf f form Agree text from was is r → RowsOf f form Fewer text from was is r
for_fewer f form Agree Fewer text from was is r a d =
    record { verdict = λ c e g. d.verdict c e (a c g); table = d.table; rises = d.rises; kept = d.kept }

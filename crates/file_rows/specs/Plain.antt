-- What the readers of files of rows ask and tell.
use Rattle.std.specs.Prelude.{ℕ, ◌+◌, ◌*◌, ◌^◌, ◌≤◌, ◌<◌, ◌≡◌, List, map, true, length, take, drop, eqb, Bool, Err, Ok, Result}
use Rattle.iff.specs.Lines.{Line, lines}
use Rattle.iff.specs.Tables.{Row, word, tag, row_width, key_word, key_tag, put_row, keys_of}
use Rattle.iff.specs.declared.RowFile.{RowFile}
use Rattle.iff.specs.declared.File.TheVariants.{Rows}
use Rattle.iff.specs.declared.Form.{Form}
use Rattle.iff_rules.specs.Rows.{row_of, Context}
use Rattle.iff_rules.specs.Load.{plain_test, plain_verdict}
use Rattle.keys.specs.Lookup.{keys_in}
use Rattle.fresh_keys.specs.Runs.{run_of}
use Rattle.fresh_keys.specs.declared.KeyRun.{KeyRun}
use Rattle.references.specs.Agree.{StationKeysAmong}
use Rattle.references.specs.declared.StationCounts.{StationCounts}
use Rattle.text_numbers.specs.Numbers.{numbers_of}
use Rattle.row_marks.specs.Remembered.{spread_of, Remembers}
use Rattle.reading.specs.Reading.{Begun, RowsDone}
use Rattle.file_rows.specs.Tests.{plain_row_test}
use Rattle.iff.specs.Refusals.{Test}
use Rattle.iff.specs.declared.Fault.{Fault}
use Rattle.iff.specs.declared.Reason.{Reason}

-- the lines before are remembered: their keys, which the table has, and their texts
pub record LinesMarked (f : RowFile) (before t marks : List ℕ) : Type 0 where
  pub keys : Remembers marks (map spread_of (keys_in (Rows f) t))
  pub texts : Remembers marks (numbers_of f (lines before))

-- a row, beside the table of those before it
pub record PlainRow (f : RowFile) (r : Row) (before t : List ℕ) (run : KeyRun) (marks : List ℕ) : Type 0 where
  pub width : length r ≡ row_width (Rows f)
  pub keyed : eqb (tag r) (key_tag (Rows f)) ≡ true
  pub runs : run ≡ run_of (keys_in (Rows f) t)
  pub marked : LinesMarked f before t marks

-- a line that is to be row `count + 1` of a table
pub record PlainLine (f : RowFile) (count : ℕ) (before t : List ℕ) (run : KeyRun) (marks : List ℕ) : Type 0 where
  pub runs : run ≡ run_of (keys_in (Rows f) t)
  pub marked : LinesMarked f before t marks
  pub room : (count + 1) * row_width (Rows f) + row_width (Rows f) ≤ length t
  pub few : count + 1 < 2 ^ 64

-- what came before a line: the text before it, how many lines it has, and the keys in the table
pub record Earlier (c : Context) (f : RowFile) (count : ℕ) (before t : List ℕ) (earlier : List Line) : Type 0 where
  pub text : lines before ≡ earlier
  pub number : count ≡ length earlier
  pub keys : keys_in (Rows f) t ≡ keys_of (Rows f) (map (row_of c.form (Rows f)) earlier)

abbrev pub test_of : Result ℕ Reason → Test
test_of (Ok k) = Ok tt
test_of (Err r) = Err r

abbrev pub kept_key : Result ℕ Reason → ℕ
kept_key (Ok k) = k
kept_key (Err r) = 0

-- a row's tests, and the row put after the rows that are there
pub record RowStored (f : RowFile) (count : ℕ) (before : List ℕ) (counts : StationCounts) (countries zones : List ℕ) (l : Line) (row was is : List ℕ)
    (r : Result ℕ Reason) : Type 0 where
  pub test :
      (c : Context) → StationKeysAmong c counts countries zones → (earlier : List Line) → Earlier c f count before was earlier
      → test_of r ≡ plain_row_test c f earlier l row
  pub table : test_of r ≡ Ok tt → is ≡ put_row (row_width (Rows f)) was (count + 1) row
  pub key : test_of r ≡ Ok tt → kept_key r ≡ word row (key_word (Rows f))
  pub kept : length is ≡ length was

-- a line's tests, and its row put after the rows that are there
pub record LineAdded (f : RowFile) (form : Form) (count : ℕ) (before : List ℕ) (counts : StationCounts) (countries zones : List ℕ) (l : Line)
    (was is : List ℕ) (r : Result ℕ Reason) : Type 0
  where
    pub test :
        (c : Context) → c.form ≡ form → StationKeysAmong c counts countries zones → (earlier : List Line) → Earlier c f count before was earlier
        → test_of r ≡ plain_test c f earlier l
    pub table : test_of r ≡ Ok tt → is ≡ put_row (row_width (Rows f)) was (count + 1) (row_of form (Rows f) l)
    pub key : test_of r ≡ Ok tt → kept_key r ≡ word (row_of form (Rows f) l) (key_word (Rows f))
    pub kept : length is ≡ length was

-- the row that stands first in a table
abbrev pub first_in : RowFile → List ℕ → Row
first_in f t = take (row_width (Rows f)) t

-- a table that holds a first line's row, and a text whose other lines begin at `from`
pub record PlainBegun (f : RowFile) (text : List ℕ) (from : ℕ) (t : List ℕ) : Type 0 where
  pub inside : from ≤ length text
  pub begun : Begun (Rows f) (length (lines (drop from text))) (first_in f t) t

-- the rows that were read from `from` on
abbrev pub RowsOf : RowFile → Form → (Context → Type 0) → List ℕ → ℕ → List ℕ → List ℕ → Result Bool Fault → Type 0
RowsOf f form Agree text from was is r =
    RowsDone (Rows f) form Agree (λ c. plain_verdict c f (lines (drop from text))) (first_in f was)
    (map (row_of form (Rows f)) (lines (drop from text))) was is r

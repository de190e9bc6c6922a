-- The rows that lines leave in the tables, and what the other files are asked for: keys. Functions of the lines alone, whether or not they are accepted.
use Rattle.std.specs.Prelude.{ℕ, suc, List, [], ◌∷◌, ◌++◌, map, Bool, true, false, length, get_or, drop}
use Rattle.iff.specs.Bytes.{at}
use Rattle.iff.specs.Lists.{Group, groups, members, kept}
use Rattle.iff.specs.Files.{PerFile, of, per_file}
use Rattle.iff.specs.Lines.{Line, lines, letter, is_hash, no_line}
use Rattle.iff.specs.Columns.{first_fields, fields_of, form424}
use Rattle.iff.specs.Values.{words}
use Rattle.iff.specs.Days.{span}
use Rattle.iff.specs.Tables.{Row, row_width, padded, keys_of, rising}
use Rattle.iff.specs.Words.{first_day, last_day}
use Rattle.iff.specs.declared.File.{File}
use Rattle.iff.specs.declared.File.TheVariants.{Delivery, Rows, Groups, Timetbls}
use Rattle.iff.specs.declared.Form.{Form}
use Rattle.iff_rules.specs.Order.{tag_of, is_stop}

-- a line's tag and kept fields, in a delivery of some form and, in TIMETBLS, a block of n stops
abbrev pub line_words : ℕ → Form → File → Line → List ℕ
line_words n form f l = tag_of f (letter l) ∷ words n l.body (fields_of form f (letter l))

unfoldable pub row_of : Form → File → Line → Row
row_of form f l = padded (row_width f) (line_words 0 form f l)

-- TIMETBLS: line j of a block of k lines and n stops. Its number in the block is the last word; the `#` row counts lines and stops.
abbrev pub counts : ℕ → ℕ → Bool → List ℕ
counts n k true = k ∷ n ∷ []
counts n k false = []

unfoldable pub block_row : Form → ℕ → ℕ → ℕ → Line → Row
block_row form n k j l = padded 6 (line_words n form Timetbls l ++ counts n k (is_hash l)) ++ (j ∷ [])

abbrev pub stops_in : Group Line → ℕ
stops_in g = length (kept (λ l. is_stop (letter l)) (members g))

abbrev pub lines_in : Group Line → ℕ
lines_in g = length (members g)

-- the lines of a block from number j on
unfoldable pub block_rows_from : Form → ℕ → ℕ → ℕ → List Line → List Row
block_rows_from form n k j [] = []
block_rows_from form n k j (l ∷ ls) = block_row form n k j l ∷ block_rows_from form n k (suc j) ls

abbrev pub block_rows : Form → Group Line → List Row
block_rows form g = block_rows_from form (stops_in g) (lines_in g) 1 (members g)

unfoldable pub blocks_rows : Form → List (Group Line) → List Row
blocks_rows form [] = []
blocks_rows form (g ∷ gs) = block_rows form g ++ blocks_rows form gs

-- the blocks of a file: each opens with a line beginning `#` and runs to the next such or the end
abbrev pub blocks_of : List Line → List (Group Line)
blocks_of ls = groups is_hash ls

-- a text as one block
abbrev pub as_block : List ℕ → Group Line
as_block b = record { top = get_or (lines b) 0 no_line; rest = drop 1 (lines b) }

-- the rows after the first line
abbrev pub later_rows : Form → File → List Line → List Row
later_rows form Delivery ls = []
later_rows form (Rows f) ls = map (row_of form (Rows f)) ls
later_rows form (Groups f) ls = map (row_of form (Groups f)) ls
later_rows form Timetbls ls = blocks_rows form (blocks_of ls)

-- whether the keys of a file rise, 1 or 0
abbrev pub flag : Bool → ℕ
flag true = 1
flag false = 0

-- the first line of a file is block 0, line 1: in TIMETBLS its row has the line's number too
abbrev pub line_one : File → List ℕ
line_one Delivery = []
line_one (Rows f) = []
line_one (Groups f) = []
line_one Timetbls = 1 ∷ []

-- the first line's row: its kept fields, and whether the keys of the rows after it rise
unfoldable pub first_row_of : File → Bool → Line → Row
first_row_of f rises l = padded (row_width f) (at ∷ (words 0 l.body first_fields ++ (flag rises ∷ line_one f)))

unfoldable pub rows_of_lines : Form → File → List Line → List Row
rows_of_lines form f [] = []
rows_of_lines form f (l ∷ ls) = first_row_of f (rising (keys_of f (later_rows form f ls))) l ∷ later_rows form f ls

-- the form of the delivery that a first line's row begins: its days of validity
unfoldable pub form_of : Row → Form
form_of r = form424 (span (first_day r) (last_day r))

abbrev pub first_of : List Row → Row
first_of rs = get_or rs 0 []

-- DELIVERY has its first line alone, whose columns depend on no form
abbrev pub delivery_rows : List ℕ → List Row
delivery_rows text = rows_of_lines (form424 0) Delivery (lines text)

-- the rows of eleven files
abbrev pub rows_of_files : PerFile (List ℕ) → PerFile (List Row)
rows_of_files F = per_file (λ f. rows_of_lines (form_of (first_of (delivery_rows F.delivery))) f (lines (of F f)))

-- WHAT THE RULES ASK OF THE OTHER FILES: the form of the lines, and each file's keys
pub record Context : Type 0 where
  pub form : Form
  pub keys : File → List ℕ

-- the same of text and of tables: both give rows
unfoldable pub context_of : PerFile (List Row) → Context
context_of R = record { form = form_of (first_of R.delivery); keys = λ f. keys_of f (of R f) }

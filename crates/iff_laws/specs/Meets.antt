-- WHAT DOCUMENT 01 ASKS OF A DELIVERY, with no scan and no answer in it: `Meets` says what holds at every place.
-- Read it beside the paper; the numbers are those of "Refusals and their order".
use Rattle.std.specs.Prelude.{ℕ, ◌≤◌, ◌<◌, ◌≡◌, List, [], true, length, take, drop, ltb}
use Rattle.iff.specs.Bytes.{at}
use Rattle.iff.specs.Lists.{Group, front, members, kept}
use Rattle.iff.specs.Files.{PerFile, of, needed, limit}
use Rattle.iff.specs.Lines.{Line, lines, letter, is_hash}
use Rattle.iff.specs.Columns.{Field, cols, Number, first_fields, fields_of, laid, columns}
use Rattle.iff.specs.Values.{readable, number_of}
use Rattle.iff.specs.Days.{span}
use Rattle.iff.specs.Tables.{Row, room}
use Rattle.iff.specs.Words.{own_company}
use Rattle.iff.specs.declared.RowFile.{RowFile}
use Rattle.iff.specs.declared.GroupFile.{GroupFile}
use Rattle.iff.specs.declared.File.{File}
use Rattle.iff.specs.declared.File.TheVariants.{Delivery, Rows, Groups, Timetbls}
use Rattle.iff.specs.declared.InBlock.{InBlock}
use Rattle.iff_rules.specs.Order.{known_in_group, known_in_block, group_tag, may_follow, group_stand, may_end, goes, is_goes, finished}
use Rattle.iff_rules.specs.Rows.{row_of, first_row_of, block_rows, blocks_of, rows_of_files, first_of}
use Rattle.iff_rules.specs.Meaning.{first_meaning, row_meaning, group_meaning, block_meaning}
use Rattle.iff_laws.specs.Places.{line_no, group_no, form_in, header_in, group_rows, keys_before, services_before, standing, state_at}
use Rattle.iff_laws.specs.Propositions.{NewKey, NewTexts, NewHash, NewInGroup, IsCompany, RowRefers, GroupRefers, BlockRefers, LegsMeet}

-- A FIRST LINE
pub record FirstLineMeets (header : List ℕ) (l : Line) : Type 0 where
  -- 7: "A first line not starting `@` .. is 7 at once."
  pub begins : letter l ≡ at
  -- 4: its length, commas, bytes, CR LF
  pub laid_out : laid l first_fields ≡ true
  -- 6: "first line differs from DELIVERY's"
  pub as_delivery : l.body ≡ header
  -- 5: "Fields not code, free text or unread are numbers, all digits."
  pub legible : readable l.body first_fields ≡ true
  -- 5: "first not after last", "at most 800 days"
  pub dated : first_meaning (first_row_of Delivery true l) ≡ true

-- the fields of a line by its letter, and its row; D has the rows of the delivery's files
module _ (D : PerFile (List Row)) (f : File) (l : Line) where
  abbrev pub its_fields : List Field
  its_fields = fields_of (form_in D) f (letter l)

  abbrev pub its_row : Row
  its_row = row_of (form_in D) f l

-- A LINE OF A FILE WITHOUT RECORD LETTERS, after some lines: "every later line is a row"
pub record RowMeets (D : PerFile (List Row)) (f : RowFile) (earlier : List Line) (l : Line) : Type 0 where
  -- 4
  pub laid_out : laid l (its_fields D (Rows f) l) ≡ true
  -- 5: digits and codes, then what they must be ("At most 64 modes" counts the lines before)
  pub legible : readable l.body (its_fields D (Rows f) l) ≡ true
  pub valued : row_meaning f (length earlier) (its_row D (Rows f) l) ≡ true
  -- 8: the key, then the texts, are those of no line before
  pub new_key : NewKey (form_in D) f earlier l
  pub new_texts : NewTexts f earlier l
  -- 9: what it names is in its own file
  pub refers : RowRefers D f (its_row D (Rows f) l)

-- A LINE OF A GROUP, after some rows of the group, and after groups with some keys
pub record GroupLineMeets (D : PerFile (List Row)) (f : GroupFile) (seen : List ℕ) (earlier : List Row) (l : Line) : Type 0 where
  -- 4: "unknown first byte"
  pub lettered : known_in_group f (letter l) ≡ true
  -- 7: "record not allowed here"
  pub in_order : may_follow f (group_stand earlier) (group_tag f (letter l)) ≡ true
  -- 4
  pub laid_out : laid l (its_fields D (Groups f) l) ≡ true
  -- 5
  pub legible : readable l.body (its_fields D (Groups f) l) ≡ true
  pub valued : group_meaning f (its_row D (Groups f) l) ≡ true
  -- 8: a `#` is that of no group before; any other line clashes with no row of its group
  pub new_key : NewHash seen (its_row D (Groups f) l)
  pub new_in_group : NewInGroup f (drop 1 earlier) (its_row D (Groups f) l)
  -- 9
  pub refers : GroupRefers D f (its_row D (Groups f) l)

-- A LINE OF A TIMETBLS BLOCK, where it stands, after blocks of some services
pub record BlockLineMeets (D : PerFile (List Row)) (seen : List ℕ) (st : InBlock) (l : Line) : Type 0 where
  -- 4: "unknown first byte"
  pub lettered : known_in_block (letter l) ≡ true
  -- 7: "record not allowed here"
  pub in_order : is_goes (goes st.stand (letter l)) ≡ true
  -- 4
  pub laid_out : laid l (its_fields D Timetbls l) ≡ true
  -- 5 ("at most 998 stops" counts the stops before)
  pub legible : readable l.body (its_fields D Timetbls l) ≡ true
  pub valued : block_meaning st.stops (its_row D Timetbls l) ≡ true
  -- 8: a service comes once
  pub new_key : NewHash seen (its_row D Timetbls l)
  -- 9
  pub refers : BlockRefers D (its_row D Timetbls l)

-- A GROUP; "A group is unfinished if a line beginning `#` or the file's end comes too soon" (7)
pub record GroupMeets (D : PerFile (List Row)) (f : GroupFile) (seen : List ℕ) (g : Group Line) : Type 0 where
  pub every_line : (j : ℕ) → j < length (members g) → GroupLineMeets D f seen (group_rows (form_in D) f (take j (members g))) (line_no (members g) j)
  pub ended : may_end f (group_stand (group_rows (form_in D) f (members g))) ≡ true

-- A TIMETBLS BLOCK: its lines; finished (7); "first or last out of range, leg uncovered or covered twice" (10)
pub record BlockMeets (D : PerFile (List Row)) (seen : List ℕ) (g : Group Line) : Type 0 where
  pub every_line : (j : ℕ) → j < length (members g) → BlockLineMeets D seen (state_at g j) (line_no (members g) j)
  pub ended : finished (standing (members g)).stand ≡ true
  pub every_leg : LegsMeet (block_rows (form_in D) g)

-- THE LINES AFTER THE FIRST, of a file without record letters, of a file of groups, and of TIMETBLS; 7 where a line stands before the first `#`
abbrev pub RowsMeet : PerFile (List Row) → RowFile → List Line → Type 0
RowsMeet D f ls = (j : ℕ) → j < length ls → RowMeets D f (take j ls) (line_no ls j)

pub record GroupsMeet (D : PerFile (List Row)) (f : GroupFile) (ls : List Line) : Type 0 where
  pub no_stray : front is_hash ls ≡ []
  pub every_group : (k : ℕ) → k < length (blocks_of ls) → GroupMeets D f (keys_before (form_in D) f (blocks_of ls) k) (group_no (blocks_of ls) k)

pub record BlocksMeet (D : PerFile (List Row)) (ls : List Line) : Type 0 where
  pub no_stray : front is_hash ls ≡ []
  pub every_block : (k : ℕ) → k < length (blocks_of ls) → BlockMeets D (services_before (form_in D) (blocks_of ls) k) (group_no (blocks_of ls) k)

-- "A first line not starting `@`, and a second line in DELIVERY, is 7 at once."
abbrev pub LaterMeet : PerFile (List Row) → File → List Line → Type 0
LaterMeet D Delivery ls = ls ≡ []
LaterMeet D (Rows f) ls = RowsMeet D f ls
LaterMeet D (Groups f) ls = GroupsMeet D f ls
LaterMeet D Timetbls ls = BlocksMeet D ls

-- the lines of a file; an absent file has none
pub record FileMeets (D : PerFile (List Row)) (header : List ℕ) (f : File) (ls : List Line) : Type 0 where
  pub first_line_lem : 0 < length ls → FirstLineMeets header (line_no ls 0)
  pub later_lines : LaterMeet D f (drop 1 ls)

-- A DELIVERY MEETS DOCUMENT 01: its files, and the lengths of the tables lent
pub record Meets (F : PerFile (List ℕ)) (R : PerFile ℕ) : Type 0 where
  -- 1: "A file is at most 268,435,455 bytes."
  pub short : (f : File) → length (of F f) ≤ limit
  -- 3: "The last three may be absent (length 0), XFOOTNOTE only if XCHANGES is too."
  pub there : (f : File) → needed (λ g. ltb 0 (length (of F g))) f ≡ true → 0 < length (of F f)
  -- 2: "Room is counted in lines; a lent table's length gives it."
  pub roomy : (f : File) → length (lines (of F f)) ≤ room f (of R f)
  -- 4 to 10: "Then lines in order"
  pub every_file : (f : File) → FileMeets (rows_of_files F) (header_in F) f (lines (of F f))
  -- 9: "DELIVERY's company is looked up after COMPANY's last line and reported at DELIVERY."
  pub company : IsCompany (rows_of_files F) (own_company (first_of (rows_of_files F).delivery))

-- WHAT AN ACCEPTED DELIVERY ANSWERS, by the text: "days and services"
-- the number in columns a to e of a line
abbrev pub written : Line → ℕ → ℕ → ℕ
written l a e = number_of (columns l.body (cols a e Number))

-- "first day 6-13, last day 15-22" of DELIVERY's first line, both counted
abbrev pub days_written : PerFile (List ℕ) → ℕ
days_written F = span (written (line_no (lines F.delivery) 0) 6 13) (written (line_no (lines F.delivery) 0) 15 22)

-- the lines of TIMETBLS, after the first, that begin with `#`
abbrev pub services_written : PerFile (List ℕ) → ℕ
services_written F = length (kept is_hash (drop 1 (lines F.timetbls)))

pub record AcceptedAs (F : PerFile (List ℕ)) (R : PerFile ℕ) (days services : ℕ) : Type 0 where
  pub meets : Meets F R
  pub its_days : days ≡ days_written F
  pub its_services : services ≡ services_written F

-- A LOAD: the answer, and the eleven tables, as functions of the eleven files and of the eleven tables' lengths.
use Rattle.std.specs.Prelude.{ℕ, ◌+◌, List, [], ◌∷◌, ◌++◌, map, Bool, true, ◌&&◌, cond, length, get_or, drop, replicate, eqb, leb, ltb, Ok, Option}
use Rattle.iff.specs.Bytes.{at}
use Rattle.iff.specs.Lists.{Group, front, members, same}
use Rattle.iff.specs.Refusals.{unless, verdict_at, first_fault, fine, scan, after, answer, Answer, Test, Verdict, at_place}
use Rattle.iff.specs.Files.{PerFile, of, in_order, needed, limit}
use Rattle.iff.specs.Lines.{Line, lines, letter, is_hash, no_line}
use Rattle.iff.specs.Columns.{first_fields, fields_of, laid}
use Rattle.iff.specs.Values.{readable}
use Rattle.iff.specs.Tables.{Row, row_width, room, fill, keys_of}
use Rattle.iff.specs.Words.{own_company, named}
use Rattle.iff.specs.declared.RowFile.{RowFile}
use Rattle.iff.specs.declared.RowFile.TheVariants.{Company, Country, Trnsmode, Stations}
use Rattle.iff.specs.declared.GroupFile.{GroupFile}
use Rattle.iff.specs.declared.GroupFile.TheVariants.{Timezone, Footnote, Changes, Xfootnote, Xchanges}
use Rattle.iff.specs.declared.File.{File}
use Rattle.iff.specs.declared.File.TheVariants.{Delivery, Rows, Groups, Timetbls}
use Rattle.iff.specs.declared.Reason.{Reason}
use Rattle.iff.specs.declared.Reason.TheVariants.{TooLong, NoRoom, Absent, Order, Reference, Legs}
use Rattle.iff.specs.declared.Stand.TheVariants.{Start}
use Rattle.iff.specs.declared.InBlock.{InBlock}
use Rattle.iff.specs.declared.Form.{Form}
use Rattle.iff_rules.specs.Order.{line_test, stray_tests, known_in_group, known_in_block, group_tag, may_follow, group_stand, may_end, goes, is_goes, stand_after, finished, is_stop}
use Rattle.iff_rules.specs.Rows.{row_of, first_row_of, block_rows, blocks_of, rows_of_files, Context, context_of, first_of}
use Rattle.iff_rules.specs.Meaning.{first_meaning, row_meaning, group_meaning, block_meaning}
use Rattle.iff_rules.specs.Unique.{fresh_key, fresh_texts, fresh_in_group}
use Rattle.iff_rules.specs.References.{names, met_by_row, met_in_group, met_in_block}
use Rattle.iff_rules.specs.Legs.{one, reach_of, legs}
use Rattle.iff.specs.declared.Place.{Place}

abbrev pub fault_unless : Bool → Reason → Option Place → Verdict
fault_unless b r p = verdict_at p (unless b r)

-- A FIRST LINE: "not starting `@` .. is 7 at once"; 6 where it differs from DELIVERY's
unfoldable pub first_line_test : Bool → Line → Test
first_line_test as_delivery l =
    line_test
    (record {
      known = true;
      here = eqb (letter l) at;
      laid_out = laid l first_fields;
      as_first = as_delivery;
      valued = readable l.body first_fields && first_meaning (first_row_of Delivery true l);
      fresh = true;
      met = true;
    })

-- DELIVERY: its first line; "a second line in DELIVERY, is 7 at once"
abbrev pub second : List Line → Verdict
second [] = Ok tt
second (l ∷ ls) = verdict_at (at_place Delivery 0 2) (line_test (stray_tests true))

unfoldable pub delivery_verdict : List Line → Verdict
delivery_verdict [] = Ok tt
delivery_verdict (l ∷ ls) = first_fault (verdict_at (at_place Delivery 0 1) (first_line_test true l) ∷ second ls ∷ [])

-- A ROW of a file without record letters, after some lines of it
unfoldable pub plain_test : Context → RowFile → List Line → Line → Test
plain_test c f earlier l =
    let fields = fields_of c.form (Rows f) (letter l) in
    let row = row_of c.form (Rows f) l in
    line_test
    (record {
      known = true;
      here = true;
      laid_out = laid l fields;
      as_first = true;
      valued = readable l.body fields && row_meaning f (length earlier) row;
      fresh = fresh_key (Rows f) (keys_of (Rows f) (map (row_of c.form (Rows f)) earlier)) row && fresh_texts f earlier l;
      met = met_by_row c f row;
    })

-- the rows of such a file, from line i on
unfoldable pub plain_verdict : Context → RowFile → List Line → Verdict
plain_verdict c f ls =
    scan (λ earlier i l. verdict_at (at_place (Rows f) 0 i) (plain_test c f earlier l)) (λ earlier l. earlier ++ (l ∷ [])) [] 2 ls

-- A LINE OF A GROUP, after some rows of the group, and after groups with some keys
unfoldable pub group_test : Context → GroupFile → List ℕ → List Row → Line → Test
group_test c f seen earlier l =
    let fields = fields_of c.form (Groups f) (letter l) in
    let row = row_of c.form (Groups f) l in
    line_test
    (record {
      known = known_in_group f (letter l);
      here = may_follow f (group_stand earlier) (group_tag f (letter l));
      laid_out = laid l fields;
      as_first = true;
      valued = readable l.body fields && group_meaning f row;
      fresh = fresh_key (Groups f) seen row && fresh_in_group f (drop 1 earlier) row;
      met = met_in_group c f row;
    })

-- the rows of a group's lines
abbrev pub group_rows : Context → GroupFile → List Line → List Row
group_rows c f ls = map (row_of c.form (Groups f)) ls

-- a group whose `#` is line i: its lines; "unfinished: 7 at the group's last line, after that line's own tests"
unfoldable pub group_verdict : Context → GroupFile → List ℕ → ℕ → Group Line → Verdict
group_verdict c f seen i g =
    first_fault
    (scan (λ earlier k l. verdict_at (at_place (Groups f) 0 k) (group_test c f seen earlier l))
    (λ earlier l. earlier ++ (row_of c.form (Groups f) l ∷ [])) [] i (members g)
    ∷ fault_unless (may_end f (group_stand (group_rows c f (members g)))) Order (at_place (Groups f) 0 (i + length g.rest))
    ∷ [])

-- between groups: the keys seen, and the line of the next `#`
pub record Between : Type 0 where
  pub seen : List ℕ
  pub line : ℕ

abbrev pub after_group : Context → GroupFile → Between → Group Line → Between
after_group c f b g =
    record { seen = b.seen ++ (named (row_of c.form (Groups f) g.top) ∷ []); line = b.line + length (members g) }

-- lines before the first `#` of a file that knows some first bytes
abbrev pub stray_verdict : File → (ℕ → Bool) → List Line → Verdict
stray_verdict f known [] = Ok tt
stray_verdict f known (l ∷ ls) = verdict_at (at_place f 0 2) (line_test (stray_tests (known (letter l))))

unfoldable pub groups_verdict : Context → GroupFile → List Line → Verdict
groups_verdict c f ls =
    first_fault
    (stray_verdict (Groups f) (known_in_group f) (front is_hash ls)
    ∷ scan (λ b o g. group_verdict c f b.seen b.line g) (after_group c f) (record { seen = []; line = 2 }) 1 (blocks_of ls)
    ∷ [])

-- A LINE OF A TIMETBLS BLOCK, where it stands, after some stops, and after blocks of some services
unfoldable pub block_test : Context → List ℕ → InBlock → Line → Test
block_test c seen st l =
    let fields = fields_of c.form Timetbls (letter l) in
    let row = row_of c.form Timetbls l in
    line_test
    (record {
      known = known_in_block (letter l);
      here = is_goes (goes st.stand (letter l));
      laid_out = laid l fields;
      as_first = true;
      valued = readable l.body fields && block_meaning st.stops row;
      fresh = fresh_key Timetbls seen row;
      met = met_in_block c row;
    })

abbrev pub block_start : InBlock
block_start = record { stand = Start; stops = 0 }

unfoldable pub block_moves : InBlock → ℕ → InBlock
block_moves st x = record { stand = stand_after st.stand (goes st.stand x); stops = st.stops + one (is_stop x) }

abbrev pub block_next : InBlock → Line → InBlock
block_next st l = block_moves st (letter l)

-- block o: its lines, from 1; the group unfinished; "Block test 10 comes after the block's lines", at the block's `#`
unfoldable pub block_verdict : Context → List ℕ → ℕ → Group Line → Verdict
block_verdict c seen o g =
    first_fault
    (scan (λ st j l. verdict_at (at_place Timetbls o j) (block_test c seen st l)) block_next block_start 1 (members g)
    ∷ fault_unless (finished (after block_next block_start (members g)).stand) Order (at_place Timetbls o (length (members g)))
    ∷ fault_unless (legs reach_of (block_rows c.form g)) Legs (at_place Timetbls o 1)
    ∷ [])

-- the service that a block names, in its `#`
abbrev pub service_of : Form → Group Line → ℕ
service_of form g = named (row_of form Timetbls g.top)

unfoldable pub timetbls_verdict : Context → List Line → Verdict
timetbls_verdict c ls =
    first_fault
    (stray_verdict Timetbls known_in_block (front is_hash ls)
    ∷ scan (λ seen o g. block_verdict c seen o g) (λ seen g. seen ++ (service_of c.form g ∷ [])) [] 1 (blocks_of ls)
    ∷ [])

-- A FILE AFTER ITS FIRST LINE
abbrev pub later_verdict : Context → File → List Line → Verdict
later_verdict c Delivery ls = Ok tt
later_verdict c (Rows f) ls = plain_verdict c f ls
later_verdict c (Groups f) ls = groups_verdict c f ls
later_verdict c Timetbls ls = timetbls_verdict c ls

-- a file other than DELIVERY, whose first line is `header`; an absent file has no lines and no fault
unfoldable pub file_verdict : Context → List ℕ → File → List Line → Verdict
file_verdict c header f [] = Ok tt
file_verdict c header f (l ∷ ls) = first_fault (verdict_at (at_place f 0 1) (first_line_test (same l.body header) l) ∷ later_verdict c f ls ∷ [])

-- "DELIVERY's company is looked up after COMPANY's last line and reported at DELIVERY."
abbrev pub company_verdict : Context → List Row → Verdict
company_verdict c rs = fault_unless (names c (Rows Company) (own_company (first_of rs))) Reference (at_place Delivery 0 1)

-- "A load tests 1, then 3, then 2, each over the files in order." n is a file's length, r its table's
abbrev pub length_verdict : File → ℕ → Verdict
length_verdict f n = fault_unless (leb n limit) TooLong (at_place f 0 0)

abbrev pub present : List ℕ → Bool
present s = ltb 0 (length s)

-- which files are there
abbrev pub present_in : PerFile (List ℕ) → File → Bool
present_in F f = present (of F f)

abbrev pub absence_verdict : (File → Bool) → File → Verdict
absence_verdict there f = fault_unless (cond (needed there f) (there f) true) Absent (at_place f 0 0)

abbrev pub room_verdict : File → ℕ → ℕ → Verdict
room_verdict f ls r = fault_unless (leb ls (room f r)) NoRoom (at_place f 0 0)

abbrev pub over_files : (File → Verdict) → Verdict
over_files v = first_fault (map v in_order)

-- the body of DELIVERY's first line
abbrev pub header_of : PerFile (List ℕ) → List ℕ
header_of F = (get_or (lines F.delivery) 0 no_line).body

-- "Then lines in order", file by file
abbrev pub read_file : Context → PerFile (List ℕ) → File → Verdict
read_file c F f = file_verdict c (header_of F) f (lines (of F f))

unfoldable pub contents_verdict : Context → PerFile (List Row) → PerFile (List ℕ) → Verdict
contents_verdict c R F =
    first_fault
    (delivery_verdict (lines F.delivery)
    ∷ read_file c F (Rows Company)
    ∷ company_verdict c R.delivery
    ∷ read_file c F (Rows Country)
    ∷ read_file c F (Rows Trnsmode)
    ∷ read_file c F (Groups Timezone)
    ∷ read_file c F (Rows Stations)
    ∷ read_file c F (Groups Footnote)
    ∷ read_file c F Timetbls
    ∷ read_file c F (Groups Changes)
    ∷ read_file c F (Groups Xfootnote)
    ∷ read_file c F (Groups Xchanges)
    ∷ [])

unfoldable pub load_verdict : PerFile (List ℕ) → PerFile ℕ → Verdict
load_verdict F R =
    first_fault
    (over_files (λ f. length_verdict f (length (of F f)))
    ∷ over_files (absence_verdict (present_in F))
    ∷ over_files (λ f. room_verdict f (length (lines (of F f))) (of R f))
    ∷ contents_verdict (context_of (rows_of_files F)) (rows_of_files F) F
    ∷ [])

-- "an accepted load .. answers days and services"
unfoldable pub load_answer : PerFile (List ℕ) → PerFile ℕ → Answer
load_answer F R =
    answer (load_verdict F R) (context_of (rows_of_files F)).form.days (length ((context_of (rows_of_files F)).keys Timetbls))

-- "A refused load zeroes every table"
unfoldable pub filled : File → ℕ → List Row → List ℕ
filled f n rs = fill (row_width f) n rs

unfoldable pub load_table : File → PerFile (List ℕ) → PerFile ℕ → List ℕ
load_table f F R = cond (fine (load_verdict F R)) (filled f (of R f) (of (rows_of_files F) f)) (replicate (of R f) 0)

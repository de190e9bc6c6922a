-- ALL TESTS OF A LOAD, one by one, in the order of "Refusals and their order", each with what it asks, its number and its place.
-- `FirstFault` says that one of them fails and none before it does. The places are written out here, and nothing of a load's own order is cited.
use Rattle.std.specs.Prelude.{ℕ, zero, suc, ◌+◌, ◌<◌, ◌≡◌, List, [], ◌∷◌, ◌++◌, map, Bool, true, false, ◌&&◌, cond, length, get_or, take, drop, eqb, leb, ltb, Ok, Option}
use Rattle.iff.specs.Bytes.{at}
use Rattle.iff.specs.Lists.{Group, front, members, total, same}
use Rattle.iff.specs.Refusals.{unless, verdict_at, Verdict, at_place, fault_at}
use Rattle.iff.specs.Files.{PerFile, of, in_order, needed, limit}
use Rattle.iff.specs.Lines.{Line, lines, letter, is_hash}
use Rattle.iff.specs.Columns.{first_fields, fields_of, laid}
use Rattle.iff.specs.Values.{readable}
use Rattle.iff.specs.Tables.{Row, room, keys_of}
use Rattle.iff.specs.Words.{own_company}
use Rattle.iff.specs.declared.RowFile.{RowFile}
use Rattle.iff.specs.declared.RowFile.TheVariants.{Company}
use Rattle.iff.specs.declared.GroupFile.{GroupFile}
use Rattle.iff.specs.declared.File.{File}
use Rattle.iff.specs.declared.File.TheVariants.{Delivery, Rows, Groups, Timetbls}
use Rattle.iff.specs.declared.Reason.{Reason}
use Rattle.iff.specs.declared.Reason.TheVariants.{TooLong, NoRoom, Absent, Layout, Order, FirstLine, Value, Duplicate, Reference, Legs}
use Rattle.iff.specs.declared.InBlock.{InBlock}
use Rattle.iff_rules.specs.Order.{LineTests, known_in_group, known_in_block, group_tag, may_follow, group_stand, may_end, goes, is_goes, finished}
use Rattle.iff_rules.specs.Rows.{row_of, first_row_of, block_rows, blocks_of, rows_of_files, Context, first_of}
use Rattle.iff_rules.specs.Meaning.{first_meaning, row_meaning, group_meaning, block_meaning}
use Rattle.iff_rules.specs.Unique.{fresh_key, fresh_texts, fresh_in_group}
use Rattle.iff_rules.specs.References.{names, met_by_row, met_in_group, met_in_block}
use Rattle.iff_rules.specs.Legs.{reach_of, legs}
use Rattle.iff_laws.specs.Places.{line_no, group_no, context_in, header_in, group_rows, keys_before, services_before, standing, state_at}
use Rattle.iff.specs.declared.Place.{Place}

-- A TEST at a place: what it asks, and the refusal where that does not hold
abbrev pub test : Option Place → Bool → Reason → Verdict
test p asked r = verdict_at p (unless asked r)

-- THE SEVEN TESTS OF A LINE: "first byte (4, then 7), rest of layout (4), then 6, 5, 8, 9"
unfoldable pub seven_tests : Option Place → LineTests → List Verdict
seven_tests p t =
    test p t.known Layout
    ∷ test p t.here Order
    ∷ test p t.laid_out Layout
    ∷ test p t.as_first FirstLine
    ∷ test p t.valued Value
    ∷ test p t.fresh Duplicate
    ∷ test p t.met Reference
    ∷ []

-- WHAT THE SEVEN ASK, of each kind of line
-- a first line: "not starting `@` .. is 7 at once", whatever else it starts with
abbrev pub asked_of_first : List ℕ → Line → LineTests
asked_of_first header l =
    record {
      known = true;
      here = eqb (letter l) at;
      laid_out = laid l first_fields;
      as_first = same l.body header;
      valued = readable l.body first_fields && first_meaning (first_row_of Delivery true l);
      fresh = true;
      met = true;
    }

-- "In a file without record letters every later line is a row."
abbrev pub asked_of_row : Context → RowFile → List Line → Line → LineTests
asked_of_row c f earlier l =
    record {
      known = true;
      here = true;
      laid_out = laid l (fields_of c.form (Rows f) (letter l));
      as_first = true;
      valued = readable l.body (fields_of c.form (Rows f) (letter l)) && row_meaning f (length earlier) (row_of c.form (Rows f) l);
      fresh =
          fresh_key (Rows f) (keys_of (Rows f) (map (row_of c.form (Rows f)) earlier)) (row_of c.form (Rows f) l) && fresh_texts f earlier l;
      met = met_by_row c f (row_of c.form (Rows f) l);
    }

-- a line of a group, after some rows of the group, and after groups with some keys
abbrev pub asked_in_group : Context → GroupFile → List ℕ → List Row → Line → LineTests
asked_in_group c f seen earlier l =
    record {
      known = known_in_group f (letter l);
      here = may_follow f (group_stand earlier) (group_tag f (letter l));
      laid_out = laid l (fields_of c.form (Groups f) (letter l));
      as_first = true;
      valued = readable l.body (fields_of c.form (Groups f) (letter l)) && group_meaning f (row_of c.form (Groups f) l);
      fresh = fresh_key (Groups f) seen (row_of c.form (Groups f) l) && fresh_in_group f (drop 1 earlier) (row_of c.form (Groups f) l);
      met = met_in_group c f (row_of c.form (Groups f) l);
    }

-- a line of a TIMETBLS block, where it stands, after some stops, and after blocks of some services
abbrev pub asked_in_block : Context → List ℕ → InBlock → Line → LineTests
asked_in_block c seen st l =
    record {
      known = known_in_block (letter l);
      here = is_goes (goes st.stand (letter l));
      laid_out = laid l (fields_of c.form Timetbls (letter l));
      as_first = true;
      valued = readable l.body (fields_of c.form Timetbls (letter l)) && block_meaning st.stops (row_of c.form Timetbls l);
      fresh = fresh_key Timetbls seen (row_of c.form Timetbls l);
      met = met_in_block c (row_of c.form Timetbls l);
    }

-- what is found at 0, 1, .. n - 1
unfoldable pub along : ℕ → (ℕ → List Verdict) → List Verdict
along zero at = []
along (suc n) at = at 0 ++ along n (λ j. at (suc j))

-- A FIRST LINE is line 1
abbrev pub first_line_tests : List ℕ → File → List Line → List Verdict
first_line_tests header f [] = []
first_line_tests header f (l ∷ ls) = seven_tests (at_place f 0 1) (asked_of_first header l)

-- "a second line in DELIVERY, is 7 at once"
abbrev pub second_line_tests : List Line → List Verdict
second_line_tests [] = []
second_line_tests (l ∷ ls) = test (at_place Delivery 0 2) false Order ∷ []

-- ROWS: line j of those after the first is line 2 + j of the file
unfoldable pub rows_tests : Context → RowFile → List Line → List Verdict
rows_tests c f ls = along (length ls) (λ j. seven_tests (at_place (Rows f) 0 (2 + j)) (asked_of_row c f (take j ls) (line_no ls j)))

-- A LINE BEFORE THE FIRST `#`, the first of them being line 2: 4 where its first byte is unknown, then 7, for no record is allowed there
abbrev pub stray_line_tests : File → (ℕ → Bool) → List Line → List Verdict
stray_line_tests f known [] = []
stray_line_tests f known (l ∷ ls) = test (at_place f 0 2) (known (letter l)) Layout ∷ test (at_place f 0 2) false Order ∷ []

-- A GROUP whose `#` is line i of the file: its lines; "7 at the group's last line, after that line's own tests"
unfoldable pub group_line_tests : Context → GroupFile → List ℕ → ℕ → Group Line → List Verdict
group_line_tests c f seen i g =
    along (length (members g))
    (λ j. seven_tests (at_place (Groups f) 0 (i + j)) (asked_in_group c f seen (group_rows c.form f (take j (members g))) (line_no (members g) j)))

unfoldable pub group_tests : Context → GroupFile → List ℕ → ℕ → Group Line → List Verdict
group_tests c f seen i g =
    group_line_tests c f seen i g
    ++ (test (at_place (Groups f) 0 (i + length g.rest)) (may_end f (group_stand (group_rows c.form f (members g)))) Order ∷ [])

-- the line of the file at which group k has its `#`
abbrev pub hash_line : List (Group Line) → ℕ → ℕ
hash_line gs k = 2 + total (λ g. length (members g)) (take k gs)

unfoldable pub groups_tests : Context → GroupFile → List Line → List Verdict
groups_tests c f ls =
    stray_line_tests (Groups f) (known_in_group f) (front is_hash ls)
    ++ along (length (blocks_of ls))
    (λ k. group_tests c f (keys_before c.form f (blocks_of ls) k) (hash_line (blocks_of ls) k) (group_no (blocks_of ls) k))

-- BLOCK o OF TIMETBLS: its lines, from 1; 7 at its last line; "Block test 10 comes after the block's lines", at its `#`
unfoldable pub block_line_tests : Context → List ℕ → ℕ → Group Line → List Verdict
block_line_tests c seen o g =
    along (length (members g)) (λ j. seven_tests (at_place Timetbls o (1 + j)) (asked_in_block c seen (state_at g j) (line_no (members g) j)))

unfoldable pub block_tests : Context → List ℕ → ℕ → Group Line → List Verdict
block_tests c seen o g =
    block_line_tests c seen o g
    ++ (test (at_place Timetbls o (length (members g))) (finished (standing (members g)).stand) Order
    ∷ test (at_place Timetbls o 1) (legs reach_of (block_rows c.form g)) Legs
    ∷ [])

-- blocks are counted from 1; what stands before the first is in block 0, after the file's first line
unfoldable pub blocks_tests : Context → List Line → List Verdict
blocks_tests c ls =
    stray_line_tests Timetbls known_in_block (front is_hash ls)
    ++ along (length (blocks_of ls)) (λ k. block_tests c (services_before c.form (blocks_of ls) k) (1 + k) (group_no (blocks_of ls) k))

-- A FILE: its first line, then the others
abbrev pub later_tests : Context → File → List Line → List Verdict
later_tests c Delivery ls = second_line_tests ls
later_tests c (Rows f) ls = rows_tests c f ls
later_tests c (Groups f) ls = groups_tests c f ls
later_tests c Timetbls ls = blocks_tests c ls

unfoldable pub file_tests : Context → List ℕ → File → List Line → List Verdict
file_tests c header f ls = first_line_tests header f ls ++ later_tests c f (drop 1 ls)

-- what the rules ask of the other files: the form of the lines, and each file's keys
abbrev pub own_context : PerFile (List ℕ) → Context
own_context F = context_in (rows_of_files F)

abbrev pub tests_of : PerFile (List ℕ) → File → List Verdict
tests_of F f = file_tests (own_context F) (header_in F) f (lines (of F f))

-- the tests of some files, in turn
abbrev pub in_turn : (File → List Verdict) → List File → List Verdict
in_turn t [] = []
in_turn t (f ∷ fs) = t f ++ in_turn t fs

-- "Then lines in order". "DELIVERY's company is looked up after COMPANY's last line and reported at DELIVERY."
unfoldable pub contents_tests : PerFile (List ℕ) → List Verdict
contents_tests F =
    tests_of F Delivery
    ++ (tests_of F (Rows Company)
    ++ (test (at_place Delivery 0 1) (names (own_context F) (Rows Company) (own_company (first_of (rows_of_files F).delivery))) Reference
    ∷ in_turn (tests_of F) (drop 2 in_order)))

-- "A load tests 1, then 3, then 2, each over the files in order", at no line
unfoldable pub length_tests : PerFile (List ℕ) → List Verdict
length_tests F = map (λ f. test (at_place f 0 0) (leb (length (of F f)) limit) TooLong) in_order

abbrev pub there : PerFile (List ℕ) → File → Bool
there F f = ltb 0 (length (of F f))

unfoldable pub absence_tests : PerFile (List ℕ) → List Verdict
absence_tests F = map (λ f. test (at_place f 0 0) (cond (needed (there F) f) (there F f) true) Absent) in_order

unfoldable pub room_tests : PerFile (List ℕ) → PerFile ℕ → List Verdict
room_tests F R = map (λ f. test (at_place f 0 0) (leb (length (lines (of F f))) (room f (of R f))) NoRoom) in_order

unfoldable pub tests : PerFile (List ℕ) → PerFile ℕ → List Verdict
tests F R = length_tests F ++ (absence_tests F ++ (room_tests F R ++ contents_tests F))

-- some test of a list fails at p for r, and none before it fails
pub record First (vs : List Verdict) (r : Reason) (p : Option Place) : Type 0 where
  pub nth : ℕ
  pub inside : nth < length vs
  pub fails : get_or vs nth (Ok tt) ≡ fault_at r p
  pub none_before : (i : ℕ) → i < nth → get_or vs i (Ok tt) ≡ Ok tt

-- THE FIRST FAULT OF A DELIVERY
abbrev pub FirstFault : PerFile (List ℕ) → PerFile ℕ → Reason → Option Place → Type 0
FirstFault F R r p = First (tests F R) r p

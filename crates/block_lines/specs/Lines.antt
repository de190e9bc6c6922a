-- One line of a block, as its reader tests it: whether the service is new is told, and the other files are lent tables.
use Rattle.std.specs.Prelude.{ℕ, List, [], Bool, true, ◌&&◌, cond, Err, Ok, Result}
use Rattle.iff.specs.Files.{of, eleven}
use Rattle.iff.specs.Refusals.{or_test, unless, Test}
use Rattle.iff.specs.Lines.{Line, letter, is_hash}
use Rattle.iff.specs.Columns.{fields_of, laid}
use Rattle.iff.specs.Values.{readable}
use Rattle.iff.specs.Tables.{Row, is_hash_row}
use Rattle.iff.specs.declared.RowFile.TheVariants.{Company, Trnsmode, Stations}
use Rattle.iff.specs.declared.GroupFile.TheVariants.{Footnote}
use Rattle.iff.specs.declared.File.TheVariants.{Rows, Groups, Timetbls}
use Rattle.iff.specs.declared.Form.{Form}
use Rattle.iff.specs.declared.Reason.TheVariants.{Value, Duplicate, Reference}
use Rattle.iff.specs.declared.InBlock.{InBlock}
use Rattle.iff_rules.specs.Order.{line_test, known_in_block, goes, is_goes}
use Rattle.iff_rules.specs.Rows.{row_of, Context}
use Rattle.iff_rules.specs.Meaning.{block_meaning}
use Rattle.iff_rules.specs.References.{met_in_block}
use Rattle.iff_rules.specs.Load.{block_next}
use Rattle.records.specs.Layouts.{layout_test}
use Rattle.keys.specs.Lookup.{keys_among}
use Rattle.references.specs.declared.BlockCounts.{BlockCounts}
use Rattle.iff.specs.declared.Reason.{Reason}

-- a form, and the keys of the four tables that a block's lines name, among so many of their first rows, and nothing else
unfoldable pub keys_from : Form → BlockCounts → List ℕ → List ℕ → List ℕ → List ℕ → Context
keys_from form n co mo st fo =
    record {
      form = form;
      keys = λ f.
          of (eleven [] (keys_among (Rows Company) n.companies co) [] (keys_among (Rows Trnsmode) n.modes mo) []
          (keys_among (Rows Stations) n.stations st) (keys_among (Groups Footnote) n.footnotes fo) [] [] [] []) f;
    }

-- `blockTest`, where `fresh` says whether the service that a `#` names is new
unfoldable pub block_test_with : Context → Bool → InBlock → Line → Test
block_test_with c fresh st l =
    let fields = fields_of c.form Timetbls (letter l) in
    let row = row_of c.form Timetbls l in
    line_test
    (record {
      known = known_in_block (letter l);
      here = is_goes (goes st.stand (letter l));
      laid_out = laid l fields;
      as_first = true;
      valued = readable l.body fields && block_meaning st.stops row;
      fresh = cond (is_hash l) fresh true;
      met = met_in_block c row;
    })

-- the same in the order of the work: what the line's columns say, and then what its row says
abbrev pub names_test : Bool → Bool → Test
names_test new there = or_test (unless new Duplicate) (unless there Reference)

abbrev pub row_test : Context → Bool → ℕ → Row → Test
row_test c fresh stops r =
    or_test (unless (block_meaning stops r) Value) (names_test (cond (is_hash_row r) fresh true) (met_in_block c r))

abbrev pub record_test : Context → Bool → ℕ → Line → Test
record_test c fresh stops l =
    or_test (layout_test l (fields_of c.form Timetbls (letter l))) (row_test c fresh stops (row_of c.form Timetbls l))

-- where a line leads
abbrev pub step_of : Test → InBlock → Result InBlock Reason
step_of (Ok _) st = Ok st
step_of (Err w) st = Err w

unfoldable pub block_step : Context → Bool → InBlock → Line → Result InBlock Reason
block_step c fresh st l = step_of (block_test_with c fresh st l) (block_next st l)

-- What is said of an amendment of sound tables, and what it does where nothing is refused.
use Rattle.std.specs.Prelude.{ℕ, suc, ◌+◌, ◌-◌, ◌*◌, ◌≤◌, ◌≡◌, List, [], ◌∷◌, ◌++◌, true, length, take, drop, Err, None, Ok, Result}
use Rattle.iff.specs.Lists.{total}
use Rattle.iff.specs.Files.{limit}
use Rattle.iff.specs.Lines.{lines}
use Rattle.iff.specs.Refusals.{first_fault, Verdict, fault_at}
use Rattle.iff.specs.Tables.{Row, row_width, rows_in, keys_of}
use Rattle.iff.specs.declared.File.TheVariants.{Timetbls}
use Rattle.iff.specs.declared.Form.{Form}
use Rattle.iff.specs.declared.Reason.TheVariants.{NotOneBlock, NoService}
use Rattle.iff_rules.specs.Rows.{row_of, block_rows, as_block, Context}
use Rattle.iff_rules.specs.References.{names}
use Rattle.iff_rules.specs.Unique.{fresh_key}
use Rattle.iff_rules.specs.Load.{fault_unless, length_verdict, room_verdict, block_verdict}
use Rattle.iff_desk.specs.Sound.{row_size, first_size, distinct}
use Rattle.iff_desk.specs.Parts.{is_one_block}
use Rattle.iff_desk.specs.Amend.{place_of, edited_length, edited_lines, amended_rows}
use Rattle.keys.specs.Blocks.{rows_between}
use Rattle.references.specs.Agree.{BlockKeys}
use Rattle.blocks.specs.Whole.{WholeBlock}
use Rattle.service_places.specs.Placed.{services_before}
use Rattle.amend_tests.specs.declared.Edit.{Edit}
use Rattle.iff.specs.declared.Fault.{Fault}

abbrev pub judged_verdict : Result Edit Fault → Verdict
judged_verdict (Err fault) = fault_at fault.reason fault.place
judged_verdict (Ok e) = Ok tt

-- THE BLOCK'S LINES, where its service is new to those before it
pub record BlockEdit (form : Form) (b : List ℕ) (used from to : ℕ) (e : Edit) : Type 0 where
  pub counted : e.used ≡ used
  pub begins : e.from ≡ from
  pub ends : e.to ≡ to
  pub whole : WholeBlock form b e.lines e.stops

pub record BlockJudged (form : Form) (b t : List ℕ) (used from to : ℕ) (co mo st fo : List ℕ) (r : Result Edit Fault) : Type 0 where
  pub says :
      (c : Context) → c.form ≡ form → BlockKeys c co mo st fo → (seen : List ℕ)
      → true ≡ fresh_key Timetbls seen (row_of form Timetbls (as_block b).top)
      → judged_verdict r ≡ block_verdict c seen (suc (length (services_before t from))) (as_block b)
  pub edit : (e : Edit) → r ≡ Ok e → BlockEdit form b used from to e

-- ALL TESTS AFTER 16, of a table of n words that holds some rows
unfoldable pub edit_verdict : Context → List Row → ℕ → ℕ → List ℕ → Verdict
edit_verdict c rs n s b =
    let k = place_of s rs in
    first_fault
    (fault_unless (is_one_block s (lines b)) NotOneBlock None
    ∷ fault_unless (names c Timetbls s) NoService None
    ∷ length_verdict Timetbls (edited_length c k rs b)
    ∷ room_verdict Timetbls (edited_lines k rs b) n
    ∷ block_verdict c (take k (c.keys Timetbls)) (suc k) (as_block b)
    ∷ [])

-- what they ask of TIMETBLS: no service twice, and within test 1's bound
pub record Judgeable (form : Form) (t : List ℕ) : Type 0 where
  pub once : distinct (keys_of Timetbls (rows_in Timetbls t)) ≡ true
  pub short : first_size + total (row_size form Timetbls) (drop 1 (rows_in Timetbls t)) ≤ limit

-- the rows that give way are the service's, and there is room for the block's
pub record Replaces (form : Form) (t : List ℕ) (s : ℕ) (b : List ℕ) (e : Edit) : Type 0 where
  pub counted : e.used ≡ length (rows_in Timetbls t)
  pub ordered : e.from ≤ e.to
  pub within : e.to ≤ e.used
  pub roomy : (e.from + e.lines + (e.used - e.to)) * row_width Timetbls ≤ length t
  pub whole : WholeBlock form b e.lines e.stops
  pub rows : amended_rows form (place_of s (rows_in Timetbls t)) (rows_in Timetbls t) b
      ≡ rows_between (row_width Timetbls) t 0 e.from
      ++ (block_rows form (as_block b) ++ rows_between (row_width Timetbls) t e.to e.used)

-- THE CONTRACT, whatever context agrees with the lent tables
pub record AmendJudged (form : Form) (t co mo st fo : List ℕ) (s : ℕ) (b : List ℕ) (r : Result Edit Fault) : Type 0 where
  pub says :
      (c : Context) → c.form ≡ form → c.keys Timetbls ≡ keys_of Timetbls (rows_in Timetbls t) → BlockKeys c co mo st fo
      → judged_verdict r ≡ edit_verdict c (rows_in Timetbls t) (length t) s b
  pub edit : (e : Edit) → r ≡ Ok e → Replaces form t s b e

-- What the walk over the blocks of TIMETBLS asks and tells.
use Rattle.std.specs.Prelude.{ℕ, ◌+◌, ◌-◌, ◌*◌, ◌≤◌, ◌≡◌, List, [], ◌∷◌, ◌++◌, Bool, true, length, take, drop, replicate, Err, Ok, Result}
use Rattle.iff.specs.Lists.{front}
use Rattle.iff.specs.Refusals.{verdict_at, or_else, scan, Test, Verdict, at_place, fault_at}
use Rattle.iff.specs.Lines.{Line, lines, is_hash}
use Rattle.iff.specs.Tables.{Row, row_width, rows_in, fill, rising}
use Rattle.iff.specs.declared.File.TheVariants.{Timetbls}
use Rattle.iff.specs.declared.Form.{Form}
use Rattle.iff_rules.specs.Order.{known_in_block}
use Rattle.iff_rules.specs.Rows.{blocks_of, blocks_rows, Context}
use Rattle.iff_rules.specs.Load.{block_verdict, service_of, stray_verdict, timetbls_verdict}
use Rattle.iff_desk.specs.Sound.{followed_by}
use Rattle.keys.specs.Lookup.{keys_in, keys_among}
use Rattle.fresh_keys.specs.Runs.{no_keys}
use Rattle.references.specs.declared.BlockCounts.{BlockCounts}
use Rattle.references.specs.Agree.{BlockKeys, BlockKeysAmong}
use Rattle.block_ends.specs.Blocks.{Clean}
use Rattle.block_puts.specs.Puts.{Holding, new_verdict}
use Rattle.reading.specs.Reading.{Begun, RowsDone, rows_verdict, rises_of}
use Rattle.block_walks.specs.declared.Walk.{Walk}
use Rattle.block_walks.specs.declared.BlocksPut.{BlocksPut}
use Rattle.iff.specs.declared.Fault.{Fault}

abbrev pub all_put : Bool → ℕ → ℕ → Result BlocksPut Fault
all_put rise rows services = Ok (record { rise = rise; rows = rows; services = services })

-- lines before the first block
pub record StrayTold (ls : List Line) (r : Test) : Type 0 where
  pub says : verdict_at (at_place Timetbls 0 2) r ≡ stray_verdict Timetbls known_in_block (front is_hash ls)
  pub clean : r ≡ Ok tt → Clean ls

-- SERVICES ONE AFTER THE OTHER, from block 1 on
unfoldable pub services_verdict : List ℕ → Verdict
services_verdict ks = scan new_verdict followed_by [] 1 ks

-- BLOCKS ONE AFTER THE OTHER, the first of which is block o, after blocks of some services
abbrev pub blocks_verdict : Context → List ℕ → ℕ → List Line → Verdict
blocks_verdict c seen o ls = scan (λ s i g. block_verdict c s i g) (λ s g. s ++ (service_of c.form g ∷ [])) seen o (blocks_of ls)

pub record BlocksReady (text : List ℕ) (from : ℕ) (t marks : List ℕ) : Type 0 where
  pub inside : from ≤ length text
  pub clean : Clean (lines (drop from text))
  pub none : keys_in Timetbls t ≡ []
  pub holding : Holding t marks no_keys 1
  pub room : (1 + length (lines (drop from text))) * row_width Timetbls ≤ length t

-- a table with its first row alone
abbrev pub first_alone : List ℕ → List ℕ
first_alone t = take (row_width Timetbls) t ++ replicate (length t - row_width Timetbls) 0

-- what became of them, but for the numbers
abbrev pub as_read : Result BlocksPut Fault → Result Bool Fault
as_read (Ok put) = Ok put.rise
as_read (Err fault) = fault_at fault.reason fault.place

-- so many rows and so many services
pub record Counted (t : List ℕ) (n m : ℕ) : Type 0 where
  pub rows : n ≡ length (rows_in Timetbls t)
  pub services : m ≡ length (keys_in Timetbls t)

-- the rows that are left where there is no fault
pub record BlocksHeld (form : Form) (text : List ℕ) (from : ℕ) (was is : List ℕ) (r : Result BlocksPut Fault) : Type 0 where
  pub filled : rows_verdict (as_read r) ≡ Ok tt → is ≡ fill (row_width Timetbls) (length is) (rows_in Timetbls is)
  pub rows : rows_verdict (as_read r) ≡ Ok tt → rows_in Timetbls is ≡ rows_in Timetbls was ++ blocks_rows form (blocks_of (lines (drop from text)))
  pub rises : rows_verdict (as_read r) ≡ Ok tt → rises_of (as_read r) ≡ rising (keys_in Timetbls is)
  pub counted : (b : Bool) (n m : ℕ) → r ≡ all_put b n m → Counted is n m

-- a walk over them: what it tells holds where no service of those that it put came before
pub record BlocksWalked (form : Form) (text : List ℕ) (from : ℕ) (counts : BlockCounts) (co mo st fo was is : List ℕ) (search : Bool)
    (r : Walk) : Type 0 where
  pub says :
      (c : Context) → c.form ≡ form → BlockKeysAmong c counts co mo st fo
      → or_else (services_verdict (keys_among Timetbls r.row is)) (rows_verdict (as_read r.put))
      ≡ blocks_verdict c (keys_in Timetbls was) 1 (lines (drop from text))
  pub certain : r.sure ≡ true → services_verdict (keys_among Timetbls r.row is) ≡ Ok tt
  pub asked : search ≡ true → r.sure ≡ true
  pub services : r.done ≡ length (keys_among Timetbls r.row is)
  pub few : r.done ≤ length text
  pub room : r.row * row_width Timetbls ≤ length is
  pub first : take (row_width Timetbls) is ≡ take (row_width Timetbls) was
  pub held : BlocksHeld form text from was is r.put

pub record BlocksAdded (form : Form) (text : List ℕ) (from : ℕ) (counts : BlockCounts) (co mo st fo was is : List ℕ) (r : Result BlocksPut Fault) : Type 0 where
  pub says :
      (c : Context) → c.form ≡ form → BlockKeysAmong c counts co mo st fo
      → rows_verdict (as_read r) ≡ blocks_verdict c (keys_in Timetbls was) 1 (lines (drop from text))
  pub held : BlocksHeld form text from was is r

-- THE CONTRACT: lines after a first line whose row alone stands in the table
abbrev pub BegunAt : List ℕ → ℕ → Row → List ℕ → Type 0
BegunAt text from first t = Begun Timetbls (length (lines (drop from text))) first t

pub record AfterFirst (text : List ℕ) (from : ℕ) (t : List ℕ) : Type 0 where
  pub inside : from ≤ length text
  pub first : Row
  pub begun : BegunAt text from first t

-- whichever row stands there
pub record BlocksRead (form : Form) (text : List ℕ) (from : ℕ) (co mo st fo was is : List ℕ) (r : Result BlocksPut Fault) : Type 0 where
  pub done :
      (first : Row) → BegunAt text from first was
      → RowsDone Timetbls form (λ c. BlockKeys c co mo st fo) (λ c. timetbls_verdict c (lines (drop from text))) first
      (blocks_rows form (blocks_of (lines (drop from text)))) was is (as_read r)
  pub counted : (b : Bool) (n m : ℕ) → r ≡ all_put b n m → Counted is n m

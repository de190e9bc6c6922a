-- What is asked and told of one block after others.
use Rattle.std.specs.Prelude.{ℕ, ◌+◌, ◌*◌, ◌≤◌, ◌≡◌, List, [], ◌∷◌, ◌++◌, Bool, true, false, not, length, take, drop, Err, Ok, Result}
use Rattle.iff.specs.Lists.{has}
use Rattle.iff.specs.Tables.{row_width, rows_in, joined, fill}
use Rattle.iff.specs.declared.File.TheVariants.{Timetbls}
use Rattle.iff.specs.declared.Form.{Form}
use Rattle.iff.specs.declared.Reason.{Reason}
use Rattle.iff.specs.declared.Reason.TheVariants.{Duplicate}
use Rattle.iff_rules.specs.Rows.{as_block, block_rows, lines_in, Context}
use Rattle.iff_rules.specs.Load.{fault_unless, block_verdict, service_of}
use Rattle.fresh_keys.specs.declared.KeyRun.{KeyRun}
use Rattle.keys.specs.Lookup.{keys_in, keys_among}
use Rattle.fresh_keys.specs.Runs.{run_of}
use Rattle.marks.specs.Marks.{Marked}
use Rattle.references.specs.declared.BlockCounts.{BlockCounts}
use Rattle.references.specs.Agree.{BlockKeysAmong}
use Rattle.blocks.specs.Whole.{WholeBlock, BlockChecked}
use Rattle.block_ends.specs.Blocks.{OneBlock}
use Rattle.new_services.specs.declared.Newness.{Newness}
use Rattle.block_puts.specs.declared.BlockPut.{BlockPut}
use Rattle.blocks.specs.Drive.{held_at, size_of}
use Rattle.blocks.specs.declared.BlockSize.{BlockSize}
use Rattle.blocks.specs.declared.LineFault.{LineFault}
use Rattle.iff.specs.Refusals.{Verdict, at_place, fault_at}

abbrev pub put_of : KeyRun → ℕ → Bool → Result BlockPut LineFault
put_of run row told = Ok (record { run = run; row = row; told = told })

-- A TABLE THAT HOLDS some rows and nothing behind them, and what is remembered of it: its services, with their marks, and how many rows it has
pub record Holding (t marks : List ℕ) (run : KeyRun) (row : ℕ) : Type 0 where
  pub marked : Marked marks (keys_in Timetbls t)
  pub filled : t ≡ fill (row_width Timetbls) (length t) (rows_in Timetbls t)
  pub services : run ≡ run_of (keys_in Timetbls t)
  pub rows : row ≡ length (rows_in Timetbls t)

-- SERVICES ONE AFTER THE OTHER: where block o's came before, its `#` is at fault
abbrev pub new_verdict : List ℕ → ℕ → ℕ → Verdict
new_verdict seen o k = fault_unless (not (has k seen)) Duplicate (at_place Timetbls o 1)

-- A BLOCK THAT IS TESTED after those of the table, whichever its ordinal: if it is whole, whether its service is new says all
abbrev pub tested_at : List ℕ → ℕ → ℕ → Result BlockSize LineFault → Verdict
tested_at seen o service (Ok size) = new_verdict seen o service
tested_at seen o service (Err fault) = fault_at fault.reason (at_place Timetbls o fault.line)

pub record BlockTested (form : Form) (b t : List ℕ) (counts : BlockCounts) (co mo st fo : List ℕ) (r : Result BlockSize LineFault) : Type 0 where
  pub says :
      (c : Context) → c.form ≡ form → BlockKeysAmong c counts co mo st fo → (o : ℕ)
      → tested_at (keys_in Timetbls t) o (service_of form (as_block b)) r ≡ block_verdict c (keys_in Timetbls t) o (as_block b)
  pub whole : (k n : ℕ) → r ≡ size_of k n → WholeBlock form b k n

-- the words before a block's rows and behind them are kept
pub record Beside (b was is : List ℕ) (row : ℕ) : Type 0 where
  pub front : take (row * row_width Timetbls) is ≡ take (row * row_width Timetbls) was
  pub behind :
      drop ((row + lines_in (as_block b)) * row_width Timetbls) is ≡ drop ((row + lines_in (as_block b)) * row_width Timetbls) was

-- A BLOCK WHOSE ROWS ARE PUT, if it is whole, behind the first `row`
pub record BlockPlaced (form : Form) (b : List ℕ) (fresh : Bool) (counts : BlockCounts) (co mo st fo was is : List ℕ) (row : ℕ) (r : Result BlockSize LineFault) : Type 0 where
  pub checked : BlockChecked form b fresh counts co mo st fo r
  pub rows :
      (k n : ℕ) → r ≡ size_of k n
      → is ≡ take (row * row_width Timetbls) was ++ (joined (block_rows form (as_block b)) ++ drop ((row + k) * row_width Timetbls) was)
  pub kept : (w : Reason) (j : ℕ) → r ≡ held_at w j → Beside b was is row

-- the same for a service that was looked for among the first `row` rows
pub record BlockJudged (form : Form) (b : List ℕ) (counts : BlockCounts) (co mo st fo was is : List ℕ) (row : ℕ) (r : Result BlockSize LineFault) : Type 0 where
  pub fresh : Bool
  pub exact : fresh ≡ not (has (service_of form (as_block b)) (keys_among Timetbls row was))
  pub placed : BlockPlaced form b fresh counts co mo st fo was is row r

pub record Triable (form : Form) (b t : List ℕ) (new : Newness) (row : ℕ) : Type 0 where
  pub one : OneBlock b
  pub exact : new.told ≡ true → new.fresh ≡ not (has (service_of form (as_block b)) (keys_in Timetbls t))
  pub rows : row ≡ length (rows_in Timetbls t)
  pub room : (row + lines_in (as_block b)) * row_width Timetbls ≤ length t

pub record BlockTried (form : Form) (b was is : List ℕ) (counts : BlockCounts) (co mo st fo : List ℕ) (row : ℕ) (new : Newness) (r : Result BlockSize LineFault) : Type 0 where
  pub tested : BlockTested form b was counts co mo st fo r
  pub rows :
      (k n : ℕ) → r ≡ size_of k n
      → is ≡ take (row * row_width Timetbls) was ++ (joined (block_rows form (as_block b)) ++ drop ((row + k) * row_width Timetbls) was)
  pub kept : (w : Reason) (j : ℕ) → r ≡ held_at w j → Beside b was is row
  pub fresh : (k n : ℕ) → r ≡ size_of k n → new.told ≡ true → has (service_of form (as_block b)) (keys_in Timetbls was) ≡ false

-- A BLOCK THAT IS ADDED
pub record Addable (b t marks : List ℕ) (run : KeyRun) (row : ℕ) : Type 0 where
  pub one : OneBlock b
  pub holding : Holding t marks run row
  pub room : (row + lines_in (as_block b)) * row_width Timetbls ≤ length t

abbrev pub added_at : List ℕ → ℕ → ℕ → Result BlockPut LineFault → Verdict
added_at seen o service (Ok put) = new_verdict seen o service
added_at seen o service (Err fault) = fault_at fault.reason (at_place Timetbls o fault.line)

pub record Grown (form : Form) (b was is marks : List ℕ) (run : KeyRun) (before row : ℕ) (told : Bool) : Type 0 where
  pub holding : Holding is marks run row
  pub front : take (before * row_width Timetbls) is ≡ take (before * row_width Timetbls) was
  pub rows : rows_in Timetbls is ≡ rows_in Timetbls was ++ block_rows form (as_block b)
  pub seen : keys_in Timetbls is ≡ keys_in Timetbls was ++ (service_of form (as_block b) ∷ [])
  pub fresh : told ≡ true → has (service_of form (as_block b)) (keys_in Timetbls was) ≡ false

pub record BlockAdded (form : Form) (b was is marks : List ℕ) (counts : BlockCounts) (co mo st fo : List ℕ) (before : ℕ) (search : Bool)
    (r : Result BlockPut LineFault) : Type 0 where
  pub says :
      (c : Context) → c.form ≡ form → BlockKeysAmong c counts co mo st fo → (o : ℕ)
      → added_at (keys_in Timetbls was) o (service_of form (as_block b)) r ≡ block_verdict c (keys_in Timetbls was) o (as_block b)
  pub grown : (run : KeyRun) (row : ℕ) (told : Bool) → r ≡ put_of run row told → Grown form b was is marks run before row told
  pub asked : (run : KeyRun) (row : ℕ) (told : Bool) → r ≡ put_of run row told → search ≡ true → told ≡ true
  pub kept : (w : Reason) (j : ℕ) → r ≡ held_at w j → Beside b was is before

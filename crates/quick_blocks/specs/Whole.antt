-- What is told of a whole block that is read in one pass.
use Rattle.std.specs.Prelude.{ℕ, ◌+◌, ◌*◌, ◌≡◌, List, ◌++◌, Bool, true, take, drop, Option, Some}
use Rattle.iff.specs.Tables.{joined}
use Rattle.iff.specs.declared.Form.{Form}
use Rattle.iff.specs.declared.InBlock.{InBlock}
use Rattle.iff_rules.specs.Order.{finished}
use Rattle.iff_rules.specs.Rows.{block_rows, lines_in, as_block}
use Rattle.iff_rules.specs.Legs.{legs, reach_of}
use Rattle.keys.specs.Blocks.{rows_between}
use Rattle.references.specs.declared.BlockCounts.{BlockCounts}
use Rattle.blocks.specs.Whole.{BlockChecked}
use Rattle.quick_steps.specs.Steps.{w}
use Rattle.blocks.specs.Drive.{size_of}
use Rattle.blocks.specs.declared.BlockSize.{BlockSize}

abbrev pub put_size : ℕ → ℕ → Option BlockSize
put_size k n = Some (record { lines = k; stops = n })

-- rows that are a block's, of so many lines and stops as was thought
pub record WholeSeen (t : List ℕ) (row m : ℕ) (st : InBlock) (n k : ℕ) : Type 0 where
  pub ends : finished st.stand ≡ true
  pub lines : m ≡ k
  pub stops : st.stops ≡ n
  pub right : legs reach_of (rows_between w t row (row + m)) ≡ true

-- THE CONTRACT. A block that is put is whole, as `blocks::check_block` would say, and the table is as `block_rows::write_block` would leave it. In any
-- case what stands before the block's rows and behind them is kept.
pub record BlockDone (form : Form) (b : List ℕ) (fresh : Bool) (counts : BlockCounts) (co mo st fo was is : List ℕ) (row k n : ℕ) : Type 0 where
  pub checked : BlockChecked form b fresh counts co mo st fo (size_of k n)
  pub rows : is ≡ take (row * w) was ++ (joined (block_rows form (as_block b)) ++ drop ((row + k) * w) was)

pub record QuickPut (form : Form) (b : List ℕ) (fresh : Bool) (counts : BlockCounts) (co mo st fo was is : List ℕ) (row : ℕ) (r : Option BlockSize) : Type 0 where
  pub front : take (row * w) is ≡ take (row * w) was
  pub behind : drop ((row + lines_in (as_block b)) * w) is ≡ drop ((row + lines_in (as_block b)) * w) was
  pub done : (k n : ℕ) → r ≡ put_size k n → BlockDone form b fresh counts co mo st fo was is row k n

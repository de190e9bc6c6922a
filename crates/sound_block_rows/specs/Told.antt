-- What the test of one row tells.
use Rattle.std.specs.Prelude.{ℕ, ◌≤◌, ◌≡◌, List, Bool, true, false, None, Option, Some}
use Rattle.iff.specs.Tables.{Row, tag}
use Rattle.iff.specs.declared.InBlock.{InBlock}
use Rattle.iff_rules.specs.Meaning.{most_stops}
use Rattle.iff_rules.specs.Rows.{Context}
use Rattle.iff_rules.specs.Load.{block_moves}
use Rattle.iff_desk.specs.Sound.{sound_block_row}
use Rattle.references.specs.declared.BlockCounts.{BlockCounts}
use Rattle.references.specs.Agree.{BlockKeysAmong}

abbrev pub is_sound : Option InBlock → Bool
is_sound (Some next) = true
is_sound None = false

-- where a row leads that is sound; the stops are still few
pub record LeadsTo (block : InBlock) (row : Row) (next : InBlock) : Type 0 where
  pub is : next ≡ block_moves block (tag row)
  pub few : next.stops ≤ most_stops

-- whether the row is sound, whatever context agrees with the lent tables' first rows; and where it leads
pub record RowTold (counts : BlockCounts) (co mo st fo : List ℕ) (block : InBlock) (line : ℕ) (row : Row) (r : Option InBlock) : Type 0 where
  pub says :
      (c : Context) → BlockKeysAmong c counts co mo st fo
      → is_sound r ≡ sound_block_row c (record { block = block; line = line }) row
  pub leads : (next : InBlock) → r ≡ Some next → LeadsTo block row next

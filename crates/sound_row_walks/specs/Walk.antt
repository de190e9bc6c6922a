-- A walk over the rows of a block.
use Rattle.std.specs.Prelude.{ℕ, suc, ◌*◌, ◌≤◌, ◌<◌, ◌≡◌, List, Bool, true, false, length, None, Option, Some}
use Rattle.iff.specs.Tables.{Row, row_width, rows_in}
use Rattle.iff.specs.declared.File.TheVariants.{Timetbls}
use Rattle.iff.specs.declared.InBlock.{InBlock}
use Rattle.iff_rules.specs.Meaning.{most_stops}
use Rattle.iff_rules.specs.Legs.{stops_of}
use Rattle.iff_rules.specs.Rows.{Context}
use Rattle.iff_rules.specs.Load.{block_start}
use Rattle.iff_desk.specs.Sound.{passes, sound_block_row, next_row, rows_start, stand_after_rows}
use Rattle.keys.specs.Blocks.{rows_between}
use Rattle.references.specs.declared.BlockCounts.{BlockCounts}
use Rattle.references.specs.Agree.{BlockKeysAmong}
use Rattle.walks.specs.Heads.{NextHead}

-- how many rows of a table of TIMETBLS are in use
abbrev pub used_in : List ℕ → ℕ
used_in t = length (rows_in Timetbls t)

-- a block begins in row `from` of a table of TIMETBLS
pub record BlockAt (t : List ℕ) (from used : ℕ) : Type 0 where
  pub some : from < used
  pub inside : used * row_width Timetbls ≤ length t

-- the rows of a block in its table
abbrev pub rows_of : List ℕ → ℕ → ℕ → List Row
rows_of t from to = rows_between (row_width Timetbls) t from to

abbrev pub is_through : Option (InBlock × ℕ) → Bool
is_through (Some (block, to)) = true
is_through None = false

-- where rows lead that are all sound
pub record LedTo (rows : List Row) (end : InBlock) : Type 0 where
  pub stand : stand_after_rows block_start rows ≡ end.stand
  pub stops : end.stops ≡ stops_of rows
  pub few : end.stops ≤ most_stops

-- the block's rows end before row `end`; whether they are sound, whatever context agrees with the lent tables' first rows, and where they lead
pub record BlockWalked (counts : BlockCounts) (co mo st fo t : List ℕ) (from used : ℕ) (r : Option (InBlock × ℕ)) : Type 0 where
  pub end : ℕ
  pub next : NextHead (row_width Timetbls) t (suc from) used end
  pub says :
      (c : Context) → BlockKeysAmong c counts co mo st fo
      → is_through r ≡ passes (sound_block_row c) next_row rows_start (rows_of t from end)
  pub ended : (block : InBlock) (to : ℕ) → r ≡ Some (block, to) → (to ≡ end) × LedTo (rows_of t from end) block

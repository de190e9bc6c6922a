-- What is told of a block.
use Rattle.std.specs.Prelude.{ℕ, suc, ◌≡◌, List, Bool, true, false, None, Option, Some}
use Rattle.iff.specs.Lists.{Group}
use Rattle.iff.specs.Tables.{Row, row_at, row_width}
use Rattle.iff.specs.declared.File.TheVariants.{Timetbls}
use Rattle.iff_rules.specs.Rows.{Context}
use Rattle.iff_desk.specs.Sound.{sound_block}
use Rattle.references.specs.declared.BlockCounts.{BlockCounts}
use Rattle.references.specs.Agree.{BlockKeysAmong}
use Rattle.walks.specs.Heads.{NextHead}
use Rattle.sound_row_walks.specs.Walk.{rows_of}

-- the block as a group
abbrev pub group_of : List ℕ → ℕ → ℕ → Group Row
group_of t from to = record { top = row_at (row_width Timetbls) t from; rest = rows_of t (suc from) to }

abbrev pub is_sound : Option ℕ → Bool
is_sound (Some to) = true
is_sound None = false

-- whether the block is sound
pub record BlockTold (counts : BlockCounts) (co mo st fo t : List ℕ) (from used : ℕ) (r : Option ℕ) : Type 0 where
  pub end : ℕ
  pub next : NextHead (row_width Timetbls) t (suc from) used end
  pub says : (c : Context) → BlockKeysAmong c counts co mo st fo → is_sound r ≡ sound_block c (group_of t from end)
  pub ended : (to : ℕ) → r ≡ Some to → to ≡ end

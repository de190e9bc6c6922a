-- What is told of all blocks.
use Rattle.std.specs.Prelude.{ℕ, ◌≡◌, List, Bool, true, false, ◌&&◌, length, None, Option, Some}
use Rattle.iff.specs.Tables.{rising}
use Rattle.iff.specs.declared.File.TheVariants.{Timetbls}
use Rattle.iff_rules.specs.Rows.{Context}
use Rattle.iff_desk.specs.Sound.{sound_timetbls, distinct}
use Rattle.fresh_keys.specs.declared.KeyRun.{KeyRun}
use Rattle.keys.specs.Lookup.{keys_among}
use Rattle.references.specs.declared.BlockCounts.{BlockCounts}
use Rattle.references.specs.Agree.{BlockKeysAmong}
use Rattle.slots.specs.Slots.{Index}
use Rattle.sound_row_walks.specs.Walk.{rows_of}
use Rattle.sound_timetbls.specs.declared.SoundBlocks.{SoundBlocks}

abbrev pub blocks_are : ℕ → Bool → Bool → Option SoundBlocks
blocks_are rows rise indexed = Some (record { rows = rows; rise = rise; indexed = indexed })

abbrev pub are_sound : Option SoundBlocks → Bool
are_sound (Some are) = true
are_sound None = false

-- whether all blocks are sound and no service comes twice, and where both are so, how many rows are in use, whether services rise, and whether the
-- slots `qs` are an index of them all
pub record BlocksTold (counts : BlockCounts) (co mo st fo t : List ℕ) (used : ℕ) (qs : List ℕ) (r : Option SoundBlocks) : Type 0 where
  pub says :
      (c : Context) → BlockKeysAmong c counts co mo st fo
      → are_sound r ≡ (sound_timetbls c (rows_of t 1 used) && distinct (keys_among Timetbls used t))
  pub rows : (n : ℕ) (b x : Bool) → r ≡ blocks_are n b x → n ≡ used
  pub rise : (n : ℕ) (b x : Bool) → r ≡ blocks_are n b x → b ≡ rising (keys_among Timetbls used t)
  pub index : (n : ℕ) (b x : Bool) → r ≡ blocks_are n b x → x ≡ true → Index Timetbls t used (length qs) qs

-- whether no service comes twice, and where that is so, how many rows are in use, whether the keys rose, and whether the slots are an index
pub record EndTold (t : List ℕ) (used : ℕ) (run : KeyRun) (qs : List ℕ) (r : Option SoundBlocks) : Type 0 where
  pub says : are_sound r ≡ distinct (keys_among Timetbls used t)
  pub rows : (n : ℕ) (b x : Bool) → r ≡ blocks_are n b x → n ≡ used
  pub rise : (n : ℕ) (b x : Bool) → r ≡ blocks_are n b x → b ≡ run.rises
  pub index : (n : ℕ) (b x : Bool) → r ≡ blocks_are n b x → x ≡ true → Index Timetbls t used (length qs) qs

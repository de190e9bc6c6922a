-- LAW: AN ACCEPTED AMENDMENT OF SOUND TABLES IS SOUND. Over the definitions alone; it assumes that the block's bytes are bytes, as the type of a
-- lent `&[u8]` says, and nothing else. That the tables were sound is the amendment's first test.
use Rattle.std.specs.Prelude.{Ok}
use Prim.Native.Nat.{ℕ, suc, ◌-◌, ◌*◌, ◌<◌}
use mathlib.Core.Path.{◌≡◌, ap, sym, ◌∙◌}
use mathlib.Core.List.{List}
use mathlib.Core.Bool.{true}
use native.Mathlib.Omega.{arith}
use lib.ListN.{length, take, drop}
use Rattle.iff.specs.Lists.{members, total}
use Rattle.iff.specs.Files.{PerFile}
use Rattle.iff.specs.Refusals.{fine}
use Rattle.iff.specs.Lines.{size}
use Rattle.iff.specs.Tables.{Row, row_width, all_zero, keys_of}
use Rattle.iff.specs.declared.File.TheVariants.{Timetbls}
use Rattle.iff_rules.specs.Rows.{block_rows, stops_in, lines_in, as_block, Context, first_of}
use Rattle.iff_desk.specs.Sound.{rows_of_tables, row_size, sound_rows, sound_table, sound}
use Rattle.iff_desk.specs.Amend.{amend_verdict, amend_timetbls}
use Rattle.text.proofs.PackLaws.{Each as EachByte}
use Rattle.tables.proofs.Each.{Each}
use Rattle.tables.proofs.Filled.{fill_behind, zeros_all}
use Rattle.sound_laws.proofs.PlainLaws.{InBytes}
use Rattle.sound_laws.proofs.TextLaws.{lines_bytes, length_lines}
use Rattle.sound_laws.proofs.TimetblsLaws.{block_sizes, block_sound, block_laid}
use Rattle.sound_facts.proofs.RowFacts.{one_of}
use Rattle.sound_facts.proofs.SoundFacts.{table_sound}
use Rattle.amend_laws.proofs.NewBlock.{new_block}
use Rattle.amend_laws.proofs.AmendedRows.{place_inside}
use Rattle.amend_laws.proofs.AmendedTimetbls.{amended_right}
use Rattle.amend_laws.proofs.OtherTables.{with_timetbls, sound_with_lem}
use Rattle.amend_laws.proofs.Accepted.{fine_is, context_in, rows_were, place_in, rows_after, Accepted, accepted}
use Rattle.amend_laws.proofs.Accepted.{same_service, table_is, used, as_lines, rows_are, keys_are}

module _ (T : PerFile (List ℕ)) (s : ℕ) (b : List ℕ) (bytes : EachByte 256 b) (e : amend_verdict T s b ≡ Ok tt) where
  abbrev c : Context
  c = context_in T

  abbrev rs : List Row
  rs = rows_were T

  abbrev k : ℕ
  k = place_in T s

  abbrev rows : List Row
  rows = rows_after T s b

  abbrev delivery : Row
  delivery = first_of (rows_of_tables T).delivery

  a : Accepted T s b
  a = accepted T s b e

  -- the block: its lines' bytes, its length, its soundness
  block_bytes : Each InBytes (members (as_block b))
  block_bytes = rw a.is_one.is at (lines_bytes b bytes)

  long : total (row_size c.form Timetbls) (block_rows c.form (as_block b)) ≡ length b
  long =
      block_sizes c.form (stops_in (as_block b)) (lines_in (as_block b)) 1 (members (as_block b))
      (block_laid c (take k (keys_of Timetbls rs)) (suc k) (as_block b) block_bytes a.right)
      ∙ ap (total size) (sym a.is_one.is) ∙ sym (length_lines b)

  -- the rows, and what is behind them
  rows_right : sound_rows c delivery Timetbls rows ≡ true
  unfolding sound_table
  rows_right =
      amended_right c delivery k b a.is_one.opens
      (block_sound c (take k (keys_of Timetbls rs)) (suc k) (as_block b) block_bytes a.right) long (new_block c.form b) rs
      (one_of _ (table_sound T a.was_sound Timetbls) 1) (place_inside s rs a.is_named_lem) (same_service T s b e) a.short

  zeros : all_zero (drop (length rows * row_width Timetbls) (amend_timetbls T s b)) ≡ true
  zeros =
      rw (table_is T s b e, fill_behind (row_width Timetbls) (length T.timetbls) rows (used T s b e))
      (zeros_all (length T.timetbls - length rows * row_width Timetbls))

  faultless_sound : sound (with_timetbls T (amend_timetbls T s b)) ≡ true
  faultless_sound =
      let r = rows_are T s b e in
      let n : 0 < length rows = omega (arith, as_lines T s b e, ap length a.is_one.is) in
      sound_with_lem T (amend_timetbls T s b) a.was_sound (ap (keys_of Timetbls) r ∙ keys_are T s b e) (rw r n) (rw r rows_right) (rw r zeros)

-- THE LAW
pub amended_is_sound : (T : PerFile (List ℕ)) (s : ℕ) (b : List ℕ) → EachByte 256 b → fine (amend_verdict T s b) ≡ true
    → sound (with_timetbls T (amend_timetbls T s b)) ≡ true
amended_is_sound T s b bytes e = faultless_sound T s b bytes (fine_is (amend_verdict T s b) e)

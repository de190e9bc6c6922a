-- A block's rows in the place of others. Assumes nothing.
use Prim.Native.Nat.{ℕ, zero, suc, ◌+◌, ◌-◌, ◌*◌}
use mathlib.Core.Path.{◌≡◌, refl, ap, sym, ◌∙◌}
use mathlib.Core.List.{List, ◌++◌, append_assoc}
use native.Mathlib.Nat.{suc-mul, zero-mul}
use native.Mathlib.Omega.{arith}
use lib.ListN.{length, take, drop, replicate, length-append}
use lib.Seq.{take-add, take-take, take-append-le, drop-drop, drop_at, length-take-le}
use Rattle.iff.specs.Lists.{members}
use Rattle.iff.specs.Tables.{Row, row_width, joined, fill}
use Rattle.iff.specs.declared.Form.{Form}
use Rattle.iff.specs.declared.File.TheVariants.{Timetbls}
use Rattle.iff_rules.specs.Rows.{block_rows, lines_in, stops_in, as_block}
use Rattle.tables.proofs.Filled.{joined_append}
use Rattle.keys.specs.Blocks.{block_of_rows, rows_between}
use Rattle.block_rows.proofs.RowLaws.{rows_count}
use Rattle.row_moves.specs.Moves.{moved}
use Rattle.block_edits.specs.Replace.{Replaceable}

-- the words of some rows are those of the table
joined_block : (w : ℕ) (t : List ℕ) (i k : ℕ) → joined (block_of_rows w t i k) ≡ take (k * w) (drop (i * w) t)
unfolding block_of_rows joined
joined_block w t i zero = rw zero-mul
joined_block w t i (suc k) =
    let e : suc k * w ≡ w + k * w = rw suc-mul (omega arith) in
    rw (joined_block w t (suc i) k, e, take-add w (k * w) (drop (i * w) t), drop-drop, suc-mul)

count_block : (w : ℕ) (t : List ℕ) (i k : ℕ) → length (block_of_rows w t i k) ≡ k
unfolding block_of_rows
count_block w t i zero = refl
count_block w t i (suc k) = ap suc (count_block w t (suc i) k)

-- how many words a row has
abbrev width : ℕ
width = row_width Timetbls

module _ (form : Form) (b was : List ℕ) (used from to lines stops : ℕ) (r : Replaceable form b was used from to lines stops) where
  abbrev rows : List Row
  rows = block_rows form (as_block b)

  count : length rows ≡ lines
  count = rows_count form (stops_in (as_block b)) (lines_in (as_block b)) 1 (members (as_block b)) ∙ sym r.whole.counted

  -- what is to be the table, as words
  words : fill width (length was) (rows_between width was 0 from ++ (rows ++ rows_between width was to used))
      ≡ take (from * width) was
      ++ (joined rows
      ++ (take (used * width - to * width) (drop (to * width) was)
      ++ replicate (length was - ((from + lines) * width + (used * width - to * width))) 0))
  unfolding fill
  words =
      let n : length (rows_between width was 0 from ++ (rows ++ rows_between width was to used)) ≡ from + (lines + (used - to)) =
      rw (length-append, length-append, count, count_block width was 0, count_block width was to) (omega arith) in
      let z : length was - (from + (lines + (used - to))) * width ≡ length was - ((from + lines) * width + (used * width - to * width)) =
      omega (arith, r.within) in
      let f : (from - 0) * width ≡ from * width = omega arith in
      let g : (used - to) * width ≡ used * width - to * width = omega (arith, r.within) in
      rw (n, z, joined_append, joined_append, joined_block width was 0, joined_block width was to, f, g, append_assoc, append_assoc)

  -- THE TABLE after the rows behind have moved, and then with the block in their place
  module _ (mid : List ℕ) (m : mid ≡ moved was (to * width) (used * width) ((from + lines) * width)) where
    fits : length (take ((from + lines) * width) was) ≡ (from + lines) * width
    fits = length-take-le ((from + lines) * width) was (omega (arith, r.roomy))

    before : take (from * width) mid ≡ take (from * width) was
    unfolding moved
    before =
        ap (take (from * width)) m
        ∙ take-append-le (from * width) (take ((from + lines) * width) was) _ (omega (arith, fits))
        ∙ take-take (from * width) ((from + lines) * width) was (omega arith)

    behind : drop ((from + lines) * width) mid
        ≡ take (used * width - to * width) (drop (to * width) was)
        ++ replicate (length was - ((from + lines) * width + (used * width - to * width))) 0
    unfolding moved
    behind = ap (drop ((from + lines) * width)) m ∙ drop_at (take ((from + lines) * width) was) _ ((from + lines) * width) fits

    pub replaced : (is : List ℕ) → is ≡ take (from * width) mid ++ (joined rows ++ drop ((from + lines) * width) mid)
        → is ≡ fill width (length was) (rows_between width was 0 from ++ (rows ++ rows_between width was to used))
    replaced is e = e ∙ rw (before, behind) (sym words)

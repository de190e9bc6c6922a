-- Laws of a whole block whose rows were put: they read back, they are those of the block, and it is whole. Assumes nothing.
use Rattle.blocks.specs.declared.BlockSize.{BlockSize}
use Rattle.std.specs.Prelude.{None, Option, Some}
use Prim.Native.Nat.{ℕ, ◌+◌, ◌-◌, ◌*◌, ◌≤◌, ◌<◌}
use mathlib.Core.Path.{◌≡◌, ap, sym, ◌∙◌}
use mathlib.Core.List.{List}
use mathlib.Core.Bool.{Bool, true}
use native.Mathlib.Nat.{add-zero}
use native.Mathlib.Omega.{arith}
use lib.ListN.{length, take, drop}
use Rattle.iff.specs.Lists.{kept}
use Rattle.iff.specs.Lines.{lines, letter}
use Rattle.iff.specs.Tables.{Row}
use Rattle.iff.specs.declared.Form.{Form}
use Rattle.iff.specs.declared.InBlock.{InBlock}
use Rattle.iff_rules.specs.Order.{is_stop}
use Rattle.iff_rules.specs.Rows.{block_rows_from, block_rows, lines_in, as_block, Context}
use Rattle.iff_rules.specs.Legs.{legs, reach_of, stops_of}
use Rattle.iff_rules.specs.Load.{block_start}
use Rattle.keys.specs.Blocks.{rows_between}
use Rattle.tables.proofs.Each.{Each}
use Rattle.tables.proofs.Rows.{Used}
use Rattle.references.specs.declared.BlockCounts.{BlockCounts}
use Rattle.legs.proofs.RowLaws.{block_lines_lem, stops_same}
use Rattle.row_legs.specs.Blocks.{BlockOfStops}
use Rattle.block_lines.specs.Lines.{keys_from}
use Rattle.blocks.specs.Whole.{LinesRead, last_tests}
use Rattle.blocks.proofs.WholeLaws.{lines_read, last_checked}
use Rattle.block_rows.proofs.RowLaws.{rows_used, rows_count}
use Rattle.tables.proofs.Puts.{used_wide, put_rows, rows_put}
use Rattle.quick_steps.specs.Steps.{w}
use Rattle.quick_blocks.specs.Drive.{beyond, Drivable, Drove, LinesThrough}
use Rattle.quick_blocks.specs.Whole.{WholeSeen, QuickPut, put_size}
use Rattle.quick_blocks.proofs.PutLaws.{rows_back}
use Rattle.blocks.specs.Drive.{size_of}

count_is : (b : List ℕ) → 0 < length b → lines_in (as_block b) ≡ length (lines b)
count_is b some = ap length (block_lines_lem b some)

-- a block from its first line on
pub whole_drivable : (b : List ℕ) → 0 < length b → (row : ℕ) (t : List ℕ) → (row + lines_in (as_block b)) * w ≤ length t
    → Drivable b 0 0 block_start row t
whole_drivable b some row t h =
    record {
      standing = record { inside = omega arith; counted = omega arith; few = omega arith };
      room = omega (arith, count_is b some);
    }

-- nothing is said of it, whatever was put in the place of its rows
module _ (form : Form) (b : List ℕ) (fresh : Bool) (counts : BlockCounts) (co mo st fo was is : List ℕ) (row : ℕ) where
  abbrev keys : Context
  keys = keys_from form counts co mo st fo

  pub left_kept : is ≡ was → QuickPut form b fresh counts co mo st fo was is row None
  left_kept e =
      record {
        front = ap (take (row * w)) e;
        behind = ap (drop ((row + lines_in (as_block b)) * w)) e;
        done = λ k n q. absurd (let z : ◌≡◌ {A = ℕ} 0 1 = cc in omega arith);
      }

  module _ (some : 0 < length b) (n k : ℕ) (r : Option (ℕ × InBlock)) (y : Drove form keys b n k row was 0 block_start 0 is r) where
    front_kept : take (row * w) is ≡ take (row * w) was
    front_kept = rw add-zero at y.front

    behind_kept : drop ((row + lines_in (as_block b)) * w) is ≡ drop ((row + lines_in (as_block b)) * w) was
    behind_kept =
        let e : beyond b 0 0 row ≡ row + lines_in (as_block b) = omega (arith, count_is b some) in
        rw e at y.behind

    pub left_driven : QuickPut form b fresh counts co mo st fo was is row None
    left_driven =
        record {
          front = front_kept;
          behind = behind_kept;
          done = λ k n q. absurd (let z : ◌≡◌ {A = ℕ} 0 1 = cc in omega arith);
        }

    -- its lines are through
    module _ (m : ℕ) (end : InBlock) (e : r ≡ Some (m, end)) (kept_length : length is ≡ length was)
        (room : (row + lines_in (as_block b)) * w ≤ length was) where
      came : LinesThrough form keys b n k row was 0 block_start 0 is m end
      came = y.through m end e

      read : LinesRead form b end m
      read = lines_read form true counts b co mo st fo some end m came.driven

      abbrev rows : List Row
      rows = block_rows_from form n k 1 (lines b)

      used : Each (Used w) rows
      used = rows_used form n k 1 (lines b) read.each

      many : length rows ≡ m
      many = rows_count form n k 1 (lines b) ∙ sym (count_is b some) ∙ sym read.counted

      inside : (row + length rows) * w ≤ length was
      inside = rw (many, read.counted) room

      put_all : is ≡ put_rows w was row rows
      put_all = rw add-zero at came.put

      back : rows_between w is row (row + m) ≡ rows
      back =
          let d : row + m - row ≡ length rows = omega (arith, many) in
          rw (d, put_all) (rows_back rows used was row inside)

      pub block_of_stops : BlockOfStops is row (row + m) end.stops
      block_of_stops =
          record {
            rises = omega arith;
            inside = rw (kept_length, ← many) inside;
            stops =
                read.stops ∙ ap (λ ls. length (kept (λ l. is_stop (letter l)) ls)) (block_lines_lem b some)
                ∙ sym (ap stops_of back ∙ stops_same form n k 1 (lines b));
            few = read.few;
          }

      module _ (v : WholeSeen is row m end n k) where
        as_block_lem : rows ≡ block_rows form (as_block b)
        as_block_lem =
            rw (sym v.stops ∙ read.stops, sym v.lines ∙ read.counted, ← (block_lines_lem b some))

        tests : size_of k n ≡ last_tests form b end m
        unfolding last_tests
        tests =
            let l : legs reach_of (block_rows form (as_block b)) ≡ true = sym (ap (legs reach_of) (back ∙ as_block_lem)) ∙ v.right in
            rw (v.ends, l, v.lines, v.stops)

        pub whole_put : fresh ≡ true → QuickPut form b fresh counts co mo st fo was is row (put_size k n)
        whole_put f =
            record {
              front = front_kept;
              behind = behind_kept;
              done =
                  λ k' n' q. let z : ◌≡◌ {A = BlockSize} (record { lines = k; stops = n }) (record { lines = k'; stops = n' }) = cc in
                  let g : k ≡ k' = ap (λ z. z.lines) z in
                  let h : n ≡ n' = ap (λ z. z.stops) z in
                  rw (← g, ← h, f)
                  (record {
                    checked = last_checked form true counts b co mo st fo some end m came.driven (size_of k n) tests;
                    rows = put_all ∙ rows_put w rows (used_wide w rows used) was row inside ∙ rw (many, v.lines, as_block_lem);
                  });
            }

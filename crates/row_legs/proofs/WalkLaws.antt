-- Laws of the loop that marks the legs of some rows of a table. Assumes nothing.
use Prim.Native.Nat.{ℕ, ◌+◌, ◌-◌, ◌*◌, ◌≤◌, ◌<◌}
use mathlib.Core.Path.{◌≡◌, ◌∙◌}
use mathlib.Core.List.{List, ◌∷◌}
use mathlib.Core.Bool.{Bool, true, false}
use native.Mathlib.Omega.{arith}
use lib.ListN.{length, get_or, take, drop, length-drop}
use lib.Seq.{length-take-le}
use Rattle.text.proofs.PictureLaws.{and_left, and_right}
use Rattle.iff.specs.Lists.{all, total}
use Rattle.iff.specs.Tables.{Row, row_at, row_width}
use Rattle.iff.specs.declared.File.TheVariants.{Timetbls}
use Rattle.iff_rules.specs.Legs.{reach_of, in_range}
use Rattle.tables.proofs.Rows.{row_inside}
use Rattle.legs.specs.Rows.{times, Markable}
use Rattle.leg_marks.specs.Tally.{Tally}
use Rattle.linked_legs.specs.Links.{block_between}
use Rattle.linked_legs.proofs.RowLaws.{between_next, between_none, part_row}
use Rattle.row_legs.specs.Blocks.{RowMarkable, RangedBlock, rows_times}

-- that part marks as the row does
module _ (t : List ℕ) (i n x : ℕ) where
  abbrev part : Row
  part = take (i * row_width Timetbls + row_width Timetbls - i * row_width Timetbls) (drop (i * row_width Timetbls) t)

  pub part_markable : (room : ℕ) → RowMarkable t i n x room → Markable part n x room
  part_markable room m =
      let w = row_width Timetbls in
      let l : w ≤ length (drop (i * w) t) = rw length-drop (omega (arith, m.inside)) in
      record {
        kind = m.kind;
        fit = m.fit;
        wide = rw (part_row w i t, length-take-le w (drop (i * w) t) l) (omega arith);
        within = rw (part_row w i t) m.within;
      }

  pub part_marked : (was is : List ℕ) (r : Bool) → Tally 1 n (λ k. times x k part) was is r
      → Tally 1 n (λ k. times x k (row_at (row_width Timetbls) t i)) was is r
  part_marked was is r y = rw (← part_row (row_width Timetbls) i t) y

-- MARKS, at row i
pub record MarkingRows (t was is : List ℕ) (from to n x i : ℕ) : Type 0 where
  pub kept : length is ≡ length was
  pub ranged : all (in_range reach_of n) (block_between t i to) ≡ true
  pub whole : (k : ℕ) → get_or is k 0 + rows_times x (block_between t i to) k ≡ get_or was k 0 + rows_times x (block_between t from to) k

module _ (t was is : List ℕ) (from to n x i : ℕ) where
  pub all_marked : to ≤ i → MarkingRows t was is from to n x i → Tally 1 n (rows_times x (block_between t from to)) was is true
  unfolding total
  all_marked h m =
      record {
        yes = λ _ k. omega (arith, rw (between_none (row_width Timetbls) t i to h) at (m.whole k));
        no = λ q. absurd (let z : ◌≡◌ {A = ℕ} 0 1 = cc in omega arith);
      }

  module _ (h : i < to) (m : MarkingRows t was is from to n x i) where
    abbrev here : Row
    here = row_at (row_width Timetbls) t i

    split : all (in_range reach_of n) (here ∷ block_between t (i + 1) to) ≡ true
    split = rw (between_next (row_width Timetbls) t i to h) at m.ranged

    pub markable : RangedBlock t from to n x (length was) → RowMarkable t i n x (length is)
    unfolding all
    markable b =
        record {
          inside = row_inside (row_width Timetbls) i to (length t) h b.inside;
          kind = b.kind;
          fit = omega (arith, b.fit, m.kept);
          within = and_left (in_range reach_of n here) _ split;
        }

    total_here : (k : ℕ) → rows_times x (block_between t i to) k ≡ times x k here + rows_times x (block_between t (i + 1) to) k
    unfolding total
    total_here k = rw (between_next (row_width Timetbls) t i to h)

    module _ (now : List ℕ) (r : Bool) (y : Tally 1 n (λ k. times x k here) is now r) where
      pub marked_twice : r ≡ false → Tally 1 n (rows_times x (block_between t from to)) was now false
      marked_twice e =
          let d = y.no e in
          record {
            yes = λ q. absurd (let z : ◌≡◌ {A = ℕ} 0 1 = cc in omega arith);
            no = λ _. record {
              leg = d.leg;
              from = d.from;
              to = d.to;
              twice = omega (arith, d.twice, m.whole d.leg, total_here d.leg);
            };
          }

      pub marked_next : r ≡ true → length now ≡ length is → MarkingRows t was now from to n x (i + 1)
      unfolding all
      marked_next e s =
          record {
            kept = s ∙ m.kept;
            ranged = and_right (in_range reach_of n here) _ split;
            whole = λ k. omega (arith, y.yes e k, m.whole k, total_here k);
          }

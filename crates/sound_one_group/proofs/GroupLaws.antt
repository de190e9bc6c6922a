-- The walk over the rows of one group: what is left of it passes exactly when the whole does. Assumes nothing.
use Prim.Native.Nat.{ℕ, ◌+◌, ◌≤◌, ◌<◌}
use mathlib.Core.Path.{◌≡◌, ap, sym, ◌∙◌, subst}
use mathlib.Core.List.{List, []}
use mathlib.Core.Bool.{Bool, true, false, ◌&&◌}
use native.Mathlib.Numerals.{add-one}
use native.Mathlib.Omega.{arith}
use lib.ListN.{drop}
use Rattle.iff.specs.Refusals.{after}
use Rattle.iff.specs.Tables.{Row, row_at}
use Rattle.iff.specs.declared.GroupFile.{GroupFile}
use Rattle.iff.specs.declared.GroupStand.{GroupStand}
use Rattle.iff.specs.declared.GroupStand.TheVariants.{Opening}
use Rattle.iff.specs.declared.Form.{Form}
use Rattle.iff_rules.specs.Order.{group_moves, group_stand, may_end}
use Rattle.iff_rules.specs.Rows.{Context}
use Rattle.iff_desk.specs.Sound.{passes, followed_by, sound_group_row, sound_group}
use Rattle.keys.specs.Blocks.{rows_between}
use Rattle.references.specs.Agree.{GroupKeysAmong}
use Rattle.references.specs.declared.GroupCounts.{GroupCounts}
use Rattle.group_marks.specs.Numbers.{Remembered}
use Rattle.group_marks.proofs.NumberLaws.{none_remembered}
use Rattle.walks.proofs.GroupLaws.{between_none, between_first, between_last}
use Rattle.walks.proofs.PassLaws.{all_passed, row_fails, row_passes, after_last}
use Rattle.sound_group_rows.specs.Told.{Told, RowTold, group_at}

-- WHERE A GROUP STANDS before its first row, and after one row more
stand_none : (w : ℕ) (t : List ℕ) (from : ℕ) → Opening ≡ group_stand (rows_between w t from from)
unfolding group_stand after
stand_none w t from = rw (between_none w t from from (omega arith))

stand_next : (w : ℕ) (t : List ℕ) (from i : ℕ) → from ≤ i → group_moves (group_stand (rows_between w t from i)) ≡ group_stand (rows_between w t from (i + 1))
unfolding group_stand
stand_next w t from i h =
    rw (add-one, between_last w t from i h) (sym (after_last (λ (s : GroupStand) (r : Row). group_moves s) Opening (rows_between w t from i) (row_at w t i)))

-- a group's rows as they stand in the table
group_is : (c : Context) (f : GroupFile) (w : ℕ) (t : List ℕ) (from to : ℕ) → from < to
    → sound_group c f (group_at w t from to)
    ≡ (passes (sound_group_row c f) followed_by [] (rows_between w t from to) && may_end f (group_stand (rows_between w t from to)))
unfolding sound_group
group_is c f w t from to h = rw (between_first w t from to h)

pub record RowsWalked (f : GroupFile) (form : Form) (n : GroupCounts) (co mo st se xf : List ℕ) (w : ℕ) (t : List ℕ) (from to i : ℕ)
    (stand : GroupStand) (marks : List ℕ) : Type 0 where
  pub low : from ≤ i
  pub high : i ≤ to
  pub stands : stand ≡ group_stand (rows_between w t from i)
  pub kept : Remembered f [] (from + 1) (drop 1 (rows_between w t from i)) marks
  pub left : (c : Context) → c.form ≡ form → GroupKeysAmong c n co mo st se xf
      → passes (sound_group_row c f) followed_by [] (rows_between w t from to)
      ≡ passes (sound_group_row c f) followed_by (rows_between w t from i) (rows_between w t i to)

module _ (f : GroupFile) (form : Form) (n : GroupCounts) (co mo st se xf : List ℕ) (w : ℕ) (t : List ℕ) (from to : ℕ) (some : from < to) where
  pub starts : (marks : List ℕ) → RowsWalked f form n co mo st se xf w t from to from Opening marks
  starts marks =
      record {
        low = omega arith;
        high = omega arith;
        stands = stand_none w t from;
        kept = rw (between_none w t from from (omega arith)) (none_remembered f (from + 1) marks);
        left = λ c d k. rw (between_none w t from from (omega arith));
      }

  module _ (i : ℕ) (stand : GroupStand) (marks : List ℕ) (p : RowsWalked f form n co mo st se xf w t from to i stand marks) where
    pub ends : to ≤ i → (b : Bool) → b ≡ may_end f stand → Told form n co mo st se xf (λ c. sound_group c f (group_at w t from to)) b
    ends h b e c d k =
        let high = p.high in
        let z : i ≡ to = omega arith in
        let whole : true ≡ passes (sound_group_row c f) followed_by [] (rows_between w t from to) =
        all_passed (sound_group_row c f) followed_by w t to i (rows_between w t from i) h ∙ sym (p.left c d k) in
        let last : b ≡ may_end f (group_stand (rows_between w t from to)) =
        e ∙ ap (may_end f) p.stands ∙ ap (λ (j : ℕ). may_end f (group_stand (rows_between w t from j))) z in
        last ∙ sym (group_is c f w t from to some ∙ rw (← whole))

    module _ (h : i < to) (b : Bool) (with : List ℕ) (e : RowTold form n co mo st se xf f from (rows_between w t from i) (row_at w t i) with b) where
      pub breaks : b ≡ false → Told form n co mo st se xf (λ c. sound_group c f (group_at w t from to)) false
      breaks g c d k =
          let whole : false ≡ passes (sound_group_row c f) followed_by [] (rows_between w t from to) =
          row_fails (sound_group_row c f) followed_by w t to i (rows_between w t from i) h b (e.says c d k) g ∙ sym (p.left c d k) in
          sym (group_is c f w t from to some ∙ rw (← whole))

      pub goes_on : b ≡ true → (next : GroupStand) → next ≡ group_moves stand → RowsWalked f form n co mo st se xf w t from to (i + 1) next with
      goes_on g next m =
          let low = p.low in
          let more : followed_by (rows_between w t from i) (row_at w t i) ≡ rows_between w t from (i + 1) =
          rw (add-one, between_last w t from i low) in
          record {
            low = omega arith;
            high = omega arith;
            stands = m ∙ ap group_moves p.stands ∙ stand_next w t from i low;
            kept = subst (λ (rs : List Row). Remembered f [] (from + 1) (drop 1 rs) with) more (e.kept g);
            left = λ c d k.
                p.left c d k
                ∙ row_passes (sound_group_row c f) followed_by w t to i (rows_between w t from i) h b (e.says c d k) g
                ∙ ap (λ (rs : List Row). passes (sound_group_row c f) followed_by rs (rows_between w t (i + 1) to)) more;
          }

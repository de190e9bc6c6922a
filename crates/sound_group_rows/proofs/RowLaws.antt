-- The tests of one row of a group, by what the code found. Assumes nothing.
use Prim.Native.Nat.{ℕ, ◌+◌, ◌-◌, ◌*◌, ◌≤◌}
use mathlib.Core.Path.{◌≡◌, refl, ap, sym, ◌∙◌, subst}
use mathlib.Core.List.{List, [], ◌∷◌}
use mathlib.Core.Bool.{Bool, true, false, ◌&&◌, and-true, false≢true}
use native.Mathlib.Omega.{arith}
use borrow.Author.Tests.{ne_eqb}
use lib.Dec.{eqb}
use lib.ListN.{length, take, drop, length-drop}
use lib.Seq.{length-take-le}
use Rattle.iff.specs.Bytes.{hash}
use Rattle.iff.specs.Lists.{all_of}
use Rattle.iff.specs.Refusals.{after}
use Rattle.iff.specs.Columns.{fields_of}
use Rattle.iff.specs.Tables.{Row, tag, row_at, row_width}
use Rattle.iff.specs.declared.GroupFile.{GroupFile}
use Rattle.iff.specs.declared.GroupFile.TheVariants.{Timezone, Footnote, Changes, Xfootnote, Xchanges}
use Rattle.iff.specs.declared.File.TheVariants.{Groups}
use Rattle.iff.specs.declared.GroupStand.{GroupStand}
use Rattle.iff.specs.declared.GroupStand.TheVariants.{Opening, Opened, Going}
use Rattle.iff.specs.declared.Form.{Form}
use Rattle.iff_rules.specs.Order.{may_follow, group_moves, group_stand}
use Rattle.iff_rules.specs.Rows.{Context}
use Rattle.iff_rules.specs.Meaning.{group_meaning}
use Rattle.iff_rules.specs.Unique.{fresh_in_group}
use Rattle.iff_rules.specs.References.{met_in_group}
use Rattle.iff_desk.specs.Sound.{shaped, followed_by, sound_group_row}
use Rattle.keys.specs.Blocks.{rows_between}
use Rattle.references.specs.Agree.{GroupKeysAmong}
use Rattle.references.specs.declared.GroupCounts.{GroupCounts}
use Rattle.group_marks.specs.Numbers.{Remembered, with_row}
use Rattle.group_marks.proofs.NumberLaws.{none_remembered, rest_more}
use Rattle.walks.proofs.GroupLaws.{part_is_row}
use Rattle.group_row_tests.specs.Alone.{right_alone}
use Rattle.group_row_tests.proofs.RowLaws.{may_come}
use Rattle.sound_group_rows.specs.Told.{RowTold}

-- MARKS: behind the first row of a group stands no `#`, so that every row that may come is remembered as one of the group
abbrev opened : GroupStand → Bool
opened Opening = false
opened Opened = true
opened Going = true

opened_on : (s : GroupStand) (rs : List Row) → opened s ≡ true → opened (after (λ (s : GroupStand) (r : Row). group_moves s) s rs) ≡ true
unfolding after
opened_on s [] o = o
opened_on Opening (r ∷ rs) o = absurd (false≢true o)
opened_on Opened (r ∷ rs) o = opened_on Going rs refl
opened_on Going (r ∷ rs) o = opened_on Going rs refl

opened_behind : (r : Row) (rs : List Row) → opened (group_stand (r ∷ rs)) ≡ true
unfolding group_stand after
opened_behind r rs = opened_on Opened rs refl

no_second_head : (f : GroupFile) (s : GroupStand) → opened s ≡ true → may_follow f s hash ≡ true → ⊥
unfolding may_follow
no_second_head f Opening o m = false≢true o
no_second_head Timezone Opened o m = false≢true m
no_second_head Footnote Opened o m = false≢true m
no_second_head Changes Opened o m = false≢true m
no_second_head Xfootnote Opened o m = false≢true m
no_second_head Xchanges Opened o m = false≢true m
no_second_head Timezone Going o m = false≢true m
no_second_head Footnote Going o m = false≢true m
no_second_head Changes Going o m = false≢true m
no_second_head Xfootnote Going o m = false≢true m
no_second_head Xchanges Going o m = false≢true m

-- the rows behind the `#` and one more that may come
pub remembered_more : (f : GroupFile) (from : ℕ) (r : Row) (marks : List ℕ) (stand : GroupStand) (earlier : List Row) → stand ≡ group_stand earlier
    → may_follow f stand (tag r) ≡ true → Remembered f [] from (drop 1 earlier) marks
    → Remembered f [] from (drop 1 (followed_by earlier r)) (with_row f from r marks)
remembered_more f from r marks stand [] s m h = none_remembered f from (with_row f from r marks)
remembered_more f from r marks stand (x ∷ g) s m h =
    let o : opened stand ≡ true = ap opened s ∙ opened_behind x g in
    let other : eqb (tag r) hash ≡ false =
    ne_eqb (tag r) hash (λ e. no_second_head f stand o (subst (λ (k : ℕ). may_follow f stand k ≡ true) e m)) in
    rest_more f from r marks other [] (x ∷ g) h

-- the tests of a row, in turn: its verdict by what each of them says, as far as they are made
fold : (o s m fr x : Bool) → ((o && (s && m)) && (fr && x)) ≡ (o && (s && (m && (fr && (x && true)))))
fold false s m fr x = refl
fold true false m fr x = refl
fold true true false fr x = refl
fold true true true fr x = rw (and-true x)

module _ (c : Context) (form : Form) (f : GroupFile) (earlier : List Row) (stand : GroupStand) (r : Row) (d : c.form ≡ form)
    (s : stand ≡ group_stand earlier) (a : Bool) (e : a ≡ right_alone form f stand r) where
  tests_are : (a && (fresh_in_group f (drop 1 earlier) r && met_in_group c f r)) ≡ sound_group_row c f earlier r
  unfolding right_alone sound_group_row all_of
  tests_are =
      rw (e, s, ← d)
      (fold (may_follow f (group_stand earlier) (tag r)) (shaped (fields_of c.form (Groups f) (tag r)) r) (group_meaning f r)
      (fresh_in_group f (drop 1 earlier) r) (met_in_group c f r))

  pub wrong_alone : a ≡ false → false ≡ sound_group_row c f earlier r
  wrong_alone g = rw g at tests_are

  module _ (g : a ≡ true) (b : Bool) (h : b ≡ fresh_in_group f (drop 1 earlier) r) where
    pub clashing : b ≡ false → false ≡ sound_group_row c f earlier r
    clashing i = rw (g, ← h, i) at tests_are

    pub met_as : b ≡ true → (x : Bool) → x ≡ met_in_group c f r → x ≡ sound_group_row c f earlier r
    met_as i x j = rw (g, ← h, i, ← j) at tests_are

-- what is told of a row that is not sound, and of one that is and was marked
module _ (form : Form) (n : GroupCounts) (co mo st se xf : List ℕ) (f : GroupFile) (from : ℕ) (earlier : List Row) (stand : GroupStand) (r : Row)
    (s : stand ≡ group_stand earlier) (a : Bool) (e : a ≡ right_alone form f stand r) where
  abbrev Due : List ℕ → Bool → Type 0
  Due = RowTold form n co mo st se xf f from earlier r

  pub told_wrong : (marks : List ℕ) → a ≡ false → Due marks false
  told_wrong marks g =
      record { says = λ c d k. wrong_alone c form f earlier stand r d s a e g; kept = λ z. absurd (false≢true z) }

  module _ (g : a ≡ true) (b : Bool) (h : b ≡ fresh_in_group f (drop 1 earlier) r) where
    pub told_clashing : (marks : List ℕ) → b ≡ false → Due marks false
    told_clashing marks i =
        record { says = λ c d k. clashing c form f earlier stand r d s a e g b h i; kept = λ z. absurd (false≢true z) }

    module _ (i : b ≡ true) (x : Bool) (m : (c : Context) → GroupKeysAmong c n co mo st se xf → x ≡ met_in_group c f r) where
      pub told_unmet : (marks : List ℕ) → x ≡ false → Due marks false
      told_unmet marks j =
          record { says = λ c d k. sym j ∙ met_as c form f earlier stand r d s a e g b h i x (m c k); kept = λ z. absurd (false≢true z) }

      pub told_sound : (marks : List ℕ) → Remembered f [] (from + 1) (drop 1 earlier) marks → (with : List ℕ) → with ≡ with_row f (from + 1) r marks
          → x ≡ true → Due with true
      told_sound marks p with w j =
          record {
            says = λ c d k. sym j ∙ met_as c form f earlier stand r d s a e g b h i x (m c k);
            kept = λ z.
                subst (λ (ms : List ℕ). Remembered f [] (from + 1) (drop 1 (followed_by earlier r)) ms) (sym w)
                (remembered_more f (from + 1) r marks stand earlier s (may_come form f stand r (sym e ∙ g)) p);
          }

-- a row that is a part of its table
pub part_width : (w i : ℕ) (t : List ℕ) → i * w + w ≤ length t → length (take (i * w + w - i * w) (drop (i * w) t)) ≡ w
part_width w i t h = rw (part_is_row w i t) (length-take-le w (drop (i * w) t) (rw length-drop (omega arith)))

pub at_row : (form : Form) (n : GroupCounts) (co mo st se xf : List ℕ) (f : GroupFile) (w i from : ℕ) (t : List ℕ) → w ≡ row_width (Groups f)
    → (marks : List ℕ) (b : Bool)
    → RowTold form n co mo st se xf f from (rows_between (row_width (Groups f)) t from i) (take (i * w + w - i * w) (drop (i * w) t)) marks b
    → RowTold form n co mo st se xf f from (rows_between w t from i) (row_at w t i) marks b
at_row form n co mo st se xf f w i from t h marks b e =
    subst (λ (r : Row). RowTold form n co mo st se xf f from (rows_between w t from i) r marks b) (part_is_row w i t)
    (subst (λ (v : ℕ). RowTold form n co mo st se xf f from (rows_between v t from i) (take (i * w + w - i * w) (drop (i * w) t)) marks b) (sym h) e)

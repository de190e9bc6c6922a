-- The walk over the groups of a table: what is left is sound exactly when the whole is. Assumes nothing.
use Prim.Native.Nat.{ℕ, suc, ◌+◌, ◌*◌, ◌≤◌, ◌<◌}
use mathlib.Core.Path.{◌≡◌, sym, ◌∙◌}
use mathlib.Core.List.{List, ◌∷◌}
use mathlib.Core.Bool.{Bool, true, false, ◌&&◌}
use native.Mathlib.Numerals.{add-one}
use native.Mathlib.Omega.{arith}
use Rattle.iff.specs.Lists.{groups, all}
use Rattle.iff.specs.Tables.{is_hash_row, row_at, row_width}
use Rattle.iff.specs.declared.GroupFile.{GroupFile}
use Rattle.iff.specs.declared.File.TheVariants.{Groups}
use Rattle.iff.specs.declared.Form.{Form}
use Rattle.iff_rules.specs.Rows.{Context}
use Rattle.iff_desk.specs.Sound.{empty, sound_group, sound_groups}
use Rattle.keys.specs.Blocks.{rows_between}
use Rattle.references.specs.Agree.{GroupKeysAmong}
use Rattle.references.specs.declared.GroupCounts.{GroupCounts}
use Rattle.walks.specs.Heads.{NextHead}
use Rattle.walks.proofs.GroupLaws.{between_none, between_first, group_at_lem}
use Rattle.sound_group_rows.specs.Told.{Told, group_at}

-- rows of that many words, by whatever name the number goes
pub as_wide : (w v n m : ℕ) → w ≡ v → n * v ≤ m → n * w ≤ m
as_wide w v n m e h = rw e h

pub record GroupsWalked (f : GroupFile) (form : Form) (n : GroupCounts) (co mo st se xf : List ℕ) (w : ℕ) (t : List ℕ) (used i : ℕ) : Type 0 where
  pub width : w ≡ row_width (Groups f)
  pub high : i ≤ used
  pub head : i < used → is_hash_row (row_at w t i) ≡ true
  pub left : (c : Context) → c.form ≡ form → GroupKeysAmong c n co mo st se xf
      → sound_groups c f (rows_between (row_width (Groups f)) t 1 used) ≡ all (sound_group c f) (groups is_hash_row (rows_between w t i used))

module _ (f : GroupFile) (form : Form) (n : GroupCounts) (co mo st se xf : List ℕ) (w : ℕ) (t : List ℕ) (used : ℕ) (e : w ≡ row_width (Groups f)) where
  whole_is : (c : Context) (r : ℕ) → NextHead w t 1 used r
      → sound_groups c f (rows_between (row_width (Groups f)) t 1 used)
      ≡ (empty (rows_between w t 1 r) && all (sound_group c f) (groups is_hash_row (rows_between w t r used)))
  unfolding sound_groups
  whole_is c r h = rw (← e, h.until, h.behind)

  -- a row before the first `#`
  pub stray : (r : ℕ) → NextHead w t 1 used r → 1 < r → (c : Context) → c.form ≡ form → GroupKeysAmong c n co mo st se xf
      → false ≡ sound_groups c f (rows_between (row_width (Groups f)) t 1 used)
  stray r h z c d k = sym (whole_is c r h ∙ rw (between_first w t 1 r z))

  pub starts : (r : ℕ) → NextHead w t 1 used r → r ≡ 1 → GroupsWalked f form n co mo st se xf w t used r
  starts r h z =
      record {
        width = e;
        high = h.high;
        head = h.head;
        left = λ c d k. whole_is c r h ∙ rw (between_none w t 1 r (omega arith));
      }

module _ (f : GroupFile) (form : Form) (n : GroupCounts) (co mo st se xf : List ℕ) (w : ℕ) (t : List ℕ) (used i : ℕ)
    (p : GroupsWalked f form n co mo st se xf w t used i) where
  pub ends : used ≤ i → (c : Context) → c.form ≡ form → GroupKeysAmong c n co mo st se xf
      → true ≡ sound_groups c f (rows_between (row_width (Groups f)) t 1 used)
  unfolding groups all
  ends h c d k = sym (p.left c d k ∙ rw (between_none w t i used h))

  module _ (h : i < used) (r : ℕ) (q : NextHead w t (i + 1) used r) (b : Bool)
      (e : Told form n co mo st se xf (λ c. sound_group c f (group_at w t i r)) b) where
    here : groups is_hash_row (rows_between w t i used) ≡ group_at w t i r ∷ groups is_hash_row (rows_between w t r used)
    here =
        let q' : NextHead w t (suc i) used r = rw add-one at q in
        group_at_lem w t i used r h (p.head h) q'

    pub breaks : b ≡ false → (c : Context) → c.form ≡ form → GroupKeysAmong c n co mo st se xf
        → false ≡ sound_groups c f (rows_between (row_width (Groups f)) t 1 used)
    unfolding all
    breaks g c d k = sym (p.left c d k ∙ rw (here, sym (e c d k) ∙ g))

    pub goes_on : b ≡ true → GroupsWalked f form n co mo st se xf w t used r
    unfolding all
    goes_on g =
        record {
          width = p.width;
          high = q.high;
          head = q.head;
          left = λ c d k. p.left c d k ∙ rw (here, sym (e c d k) ∙ g);
        }

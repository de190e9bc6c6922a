-- What the tests of a group's rows promise.
use Rattle.std.specs.Prelude.{ℕ, suc, ◌+◌, ◌≡◌, List, [], Bool, true, drop}
use Rattle.iff.specs.Lists.{Group}
use Rattle.iff.specs.Tables.{Row, row_at}
use Rattle.iff.specs.declared.GroupFile.{GroupFile}
use Rattle.iff.specs.declared.Form.{Form}
use Rattle.iff_rules.specs.Rows.{Context}
use Rattle.iff_desk.specs.Sound.{followed_by, sound_group_row}
use Rattle.keys.specs.Blocks.{rows_between}
use Rattle.references.specs.Agree.{GroupKeysAmong}
use Rattle.references.specs.declared.GroupCounts.{GroupCounts}
use Rattle.group_marks.specs.Numbers.{Remembered}

-- an answer in every context that agrees with the lent tables
abbrev pub Told : Form → GroupCounts → List ℕ → List ℕ → List ℕ → List ℕ → List ℕ → (Context → Bool) → Bool → Type 0
Told form n co mo st se xf due b = (c : Context) → c.form ≡ form → GroupKeysAmong c n co mo st se xf → b ≡ due c

-- of a row after the earlier ones of its group, which begins at row `from`: whether it is sound, and that it is then remembered with those behind the `#`
pub record RowTold (form : Form) (n : GroupCounts) (co mo st se xf : List ℕ) (f : GroupFile) (from : ℕ) (earlier : List Row) (r : Row) (marks : List ℕ)
    (b : Bool) : Type 0 where
  pub says : Told form n co mo st se xf (λ c. sound_group_row c f earlier r) b
  pub kept : b ≡ true → Remembered f [] (from + 1) (drop 1 (followed_by earlier r)) marks

-- the rows from `from` on and before `to` as a group
abbrev pub group_at : ℕ → List ℕ → ℕ → ℕ → Group Row
group_at w t from to = record { top = row_at w t from; rest = rows_between w t (suc from) to }

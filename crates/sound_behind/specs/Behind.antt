-- What soundness asks of the rows behind a first line's; a table without rows has none. And what is told of TIMETBLS as a whole.
use Rattle.std.specs.Prelude.{ℕ, ◌≡◌, List, [], ◌∷◌, Bool, true, false, ◌&&◌, length, None, Option, Some}
use Rattle.iff.specs.Tables.{Row, rows_in}
use Rattle.iff.specs.declared.File.{File}
use Rattle.iff.specs.declared.File.TheVariants.{Timetbls}
use Rattle.iff.specs.declared.Form.{Form}
use Rattle.iff_rules.specs.Rows.{Context}
use Rattle.iff_desk.specs.Sound.{sound_later}
use Rattle.references.specs.declared.BlockCounts.{BlockCounts}
use Rattle.references.specs.Agree.{BlockKeysAmong}
use Rattle.slots.specs.Slots.{Index}
use Rattle.sound_frames.specs.Frames.{framed}

unfoldable pub behind : Context → File → List Row → Bool
behind c f [] = true
behind c f (r ∷ rs) = sound_later c f rs

abbrev pub is_right : Option (ℕ × Bool) → Bool
is_right (Some (used, told)) = true
is_right None = false

-- whether its frame and the rows behind its first line's are as they should be, whatever context agrees with the lent tables' first rows; and where
-- they are, how many rows are in use, and whether the slots `qs` are an index of all services
pub record BlocksJudged (counts : BlockCounts) (co mo st fo : List ℕ) (form : Form) (delivery : Row) (t qs : List ℕ) (r : Option (ℕ × Bool)) : Type 0 where
  pub says :
      (c : Context) → BlockKeysAmong c counts co mo st fo
      → is_right r ≡ (framed form delivery Timetbls t && behind c Timetbls (rows_in Timetbls t))
  pub rows : (n : ℕ) (x : Bool) → r ≡ Some (n, x) → n ≡ length (rows_in Timetbls t)
  pub index : (n : ℕ) (x : Bool) → r ≡ Some (n, x) → x ≡ true → Index Timetbls t (length (rows_in Timetbls t)) (length qs) qs

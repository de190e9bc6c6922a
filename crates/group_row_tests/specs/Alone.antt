-- What is asked of a group's row by itself.
use Rattle.std.specs.Prelude.{Bool, ◌&&◌}
use Rattle.iff.specs.Columns.{fields_of}
use Rattle.iff.specs.Tables.{Row, tag}
use Rattle.iff.specs.declared.GroupFile.{GroupFile}
use Rattle.iff.specs.declared.File.TheVariants.{Groups}
use Rattle.iff.specs.declared.GroupStand.{GroupStand}
use Rattle.iff.specs.declared.Form.{Form}
use Rattle.iff_rules.specs.Order.{may_follow}
use Rattle.iff_rules.specs.Meaning.{group_meaning}
use Rattle.iff_desk.specs.Sound.{shaped}

-- of one row what needs no other: its place in the group, its words, its numbers
unfoldable pub right_alone : Form → GroupFile → GroupStand → Row → Bool
right_alone form f stand r = may_follow f stand (tag r) && (shaped (fields_of form (Groups f) (tag r)) r && group_meaning f r)

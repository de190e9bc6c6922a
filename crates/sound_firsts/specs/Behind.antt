-- The words of a first line's row behind the flag: in TIMETBLS the line's number, and zeros.
use Rattle.std.specs.Prelude.{◌+◌, Bool, ◌&&◌, length, take, drop}
use Rattle.iff.specs.Lists.{same}
use Rattle.iff.specs.Tables.{Row, all_zero}
use Rattle.iff.specs.declared.File.{File}
use Rattle.iff_rules.specs.Rows.{line_one}

unfoldable pub behind_right : File → Row → Bool
behind_right f r = same (take (length (line_one f)) (drop 6 r)) (line_one f) && all_zero (drop (6 + length (line_one f)) r)

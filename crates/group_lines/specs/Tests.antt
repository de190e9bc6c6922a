-- The tests of a line of a group, after the group that it comes after.
use Rattle.std.specs.Prelude.{ℕ, suc, List, [], true, cond}
use Rattle.iff.specs.Refusals.{or_else, verdict_at, Verdict, at_place}
use Rattle.iff.specs.Lines.{Line, is_hash}
use Rattle.iff.specs.Tables.{Row}
use Rattle.iff.specs.declared.GroupFile.{GroupFile}
use Rattle.iff.specs.declared.File.TheVariants.{Groups}
use Rattle.iff.specs.declared.Reason.TheVariants.{Order}
use Rattle.iff_rules.specs.Order.{group_stand, may_end}
use Rattle.iff_rules.specs.Rows.{Context}
use Rattle.iff_rules.specs.Load.{group_test, fault_unless}

-- the rows of the group that a line is put to
abbrev pub joins : List Row → Line → List Row
joins g l = cond (is_hash l) [] g

-- a line after i lines of the file, the last of them those of the open group: a `#` opens the next group, where that one may end
unfoldable pub line_verdict : Context → GroupFile → List ℕ → List Row → ℕ → Line → Verdict
line_verdict c f seen g i l =
    or_else
    (fault_unless (cond (is_hash l) (may_end f (group_stand g)) true) Order (at_place (Groups f) 0 i))
    (verdict_at (at_place (Groups f) 0 (suc i)) (group_test c f seen (joins g l) l))

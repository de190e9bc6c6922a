-- The lines of a file of groups in one walk: the rows so far, and those of them that are of the open group. A group that is too short is
-- found where the next one opens, or at the end, and is a fault of its last line. Lines before the first `#` are lines of no group.
use Rattle.std.specs.Prelude.{suc, List, [], ◌∷◌, ◌++◌, length}
use Rattle.iff.specs.Refusals.{or_else, Verdict, at_place}
use Rattle.iff.specs.Lines.{Line}
use Rattle.iff.specs.Tables.{Row, keys_of}
use Rattle.iff.specs.declared.GroupFile.{GroupFile}
use Rattle.iff.specs.declared.File.TheVariants.{Groups}
use Rattle.iff.specs.declared.Reason.TheVariants.{Order}
use Rattle.iff_rules.specs.Order.{group_stand, may_end}
use Rattle.iff_rules.specs.Rows.{row_of, Context}
use Rattle.iff_rules.specs.Load.{fault_unless}
use Rattle.group_lines.specs.Tests.{joins, line_verdict}

unfoldable pub flat : Context → GroupFile → List Row → List Row → List Line → Verdict
flat c f rows g [] = fault_unless (may_end f (group_stand g)) Order (at_place (Groups f) 0 (suc (length rows)))
flat c f rows g (l ∷ ls) =
    or_else
    (line_verdict c f (keys_of (Groups f) rows) g (suc (length rows)) l)
    (flat c f (rows ++ (row_of c.form (Groups f) l ∷ [])) (joins g l ++ (row_of c.form (Groups f) l ∷ [])) ls)

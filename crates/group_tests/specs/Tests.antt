-- The tests of a line of a group, in the parts that the code makes of them: its first byte and its row.
use Rattle.std.specs.Prelude.{ℕ, List, [], ◌∷◌, ◌&&◌, drop}
use Rattle.iff.specs.Refusals.{or_test, first_test, unless, Test}
use Rattle.iff.specs.Tables.{Row}
use Rattle.iff.specs.declared.GroupFile.{GroupFile}
use Rattle.iff.specs.declared.File.TheVariants.{Groups}
use Rattle.iff.specs.declared.GroupStand.{GroupStand}
use Rattle.iff.specs.declared.Reason.TheVariants.{Layout, Value, Order, Duplicate, Reference}
use Rattle.iff_rules.specs.Order.{known_in_group, group_tag, may_follow}
use Rattle.iff_rules.specs.Rows.{Context}
use Rattle.iff_rules.specs.Meaning.{group_meaning}
use Rattle.iff_rules.specs.Unique.{fresh_key, fresh_in_group}
use Rattle.iff_rules.specs.References.{met_in_group}

-- a first byte, where its group stands
abbrev pub place_test : GroupFile → GroupStand → ℕ → Test
place_test f s x = or_test (unless (known_in_group f x) Layout) (unless (may_follow f s (group_tag f x)) Order)

-- a row, after some rows of its group, and after groups with some keys
unfoldable pub group_row_test : Context → GroupFile → List ℕ → List Row → Row → Test
group_row_test c f seen earlier r =
    first_test
    (unless (group_meaning f r) Value
    ∷ unless (fresh_key (Groups f) seen r && fresh_in_group f (drop 1 earlier) r) Duplicate
    ∷ unless (met_in_group c f r) Reference
    ∷ [])

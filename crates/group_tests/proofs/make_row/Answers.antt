-- `group_tests::make_row` meets its contract. The tests of a line alone, and its row. Assumes nothing.
use Prim.Native.Nat.{suc, ◌≤◌}
use mathlib.Core.Path.{ap, ◌∙◌}
use native.Mathlib.Omega.{arith}
use Rattle.iff.specs.Columns.{record_fields, group_record}
use Rattle.iff.specs.Values.{word_count}
use Rattle.iff.specs.Tables.{row_width}
use Rattle.iff.specs.declared.File.TheVariants.{Groups}
use Rattle.iff_rules.specs.Order.{group_tag}
use Rattle.records.proofs.FileLaws.{group_room}
use Rattle.group_tests.specs.Tests.{place_test}
use Rattle.group_tests.proofs.LineLaws.{place_passes}
use Rattle.group_tests.proofs.make_row.Goals as goal

pub read_line-requires : goal.read_line-requires
read_line-requires c =
    let h : suc (word_count (record_fields c.args.form c.group_record-kind.result)) ≤ row_width (Groups c.args.file) =
    rw c.group_record-kind.ensures (group_room c.args.form c.args.file c.first_byte-letter.result) in
    omega (arith, c.requires)

pub returns : goal.returns
returns c =
    let x = c.first_byte-letter.ensures in
    place_passes c.args.file c.args.form c.args.stand _ _ _ c.requires _ _ _ _
    (c.place_test.ensures ∙ ap (place_test c.args.file c.args.stand) x)
    c.in_ok-place_test.was
    (c.group_record-kind.ensures ∙ ap (group_record c.args.file) x)
    (c.group_tag-tag.ensures ∙ ap (group_tag c.args.file) x)
    c.read_line.ensures

-- `file_rows::add_row` meets its contract. Assumes nothing.
use Rattle.std.proofs.Common.{rules, ◌≡◌, Err}
use Rattle.iff.specs.Lines.{Line}
use Rattle.records.specs.Layouts.{line_of}
use Rattle.file_rows.proofs.PlainLaws.{room_for, line_refused, row_plain, line_added}
use Rattle.file_rows.proofs.add_row.Goals as goal

pub read_line-requires : goal.read_line-requires
read_line-requires c =
    room_for c.args.file c.args.form _ _ c.row_record-kind.ensures c.requires.0

pub store_row-requires : goal.store_row-requires
store_row-requires c =
    let line : Line = line_of c.args.line.now c.args.ended in
    let told = c.in_ok-read_line.was in (
      row_plain c.args.file c.args.form c.args.count c.args.before.now c.args.counts c.args.countries.now
          c.args.zones.now line
          c.args.t.now _ c.row_record-kind.ensures _ c.read_line.ensures.test told c.args.row.now _ c.requires.0
          (c.read_line.ensures.row told) _ _ _ c.requires.1.runs c.requires.1.marked,
      c.requires.1,
    )

pub returns-in_err-read_line : goal.returns-in_err-read_line
returns-in_err-read_line c =
    let line : Line = line_of c.args.line.now c.args.ended in
    let handed : c.from_residual.result ≡ Err c.in_err-read_line.field-0.0 = search rules in
    rw handed (line_refused c.args.file c.args.form c.args.count c.args.before.now c.args.counts c.args.countries.now
    c.args.zones.now line
    c.args.t.now _ c.row_record-kind.ensures _ _ c.read_line.ensures.test c.in_err-read_line.was)

pub returns : goal.returns
returns c =
    let line : Line = line_of c.args.line.now c.args.ended in
    let told = c.in_ok-read_line.was in
    line_added c.args.file c.args.form c.args.count c.args.before.now c.args.counts c.args.countries.now
    c.args.zones.now line
    c.args.t.now _ c.row_record-kind.ensures _ c.read_line.ensures.test told c.args.row.now _ c.requires.0
    (c.read_line.ensures.row told) _ _ c.store_row.ensures

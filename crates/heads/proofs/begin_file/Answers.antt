-- `heads::begin_file` meets its contract. Assumes nothing.
use mathlib.Core.Path.{◌∙◌}
use native.Mathlib.Nat.{sub-zero}
use native.Mathlib.Omega.{arith}
use lib.Seq.{length-take-le}
use Rattle.heads.proofs.BeginLaws.{first_fits, legible, accepted}
use Rattle.heads.proofs.begin_file.Goals as goal

pub slice_bounds-put_first-end-2 : goal.slice_bounds-put_first-end-2
slice_bounds-put_first-end-2 c =
    let fits = first_fits c.args.text.now _ c.line_at-s.ensures c.args.file c.args.t.now c.requires.1 in
    omega (arith, c.row_width-w.ensures.is)

pub put_first-requires : goal.put_first-requires
put_first-requires c =
    let told = c.in_ok-first_line.was in
    record {
      legible =
          legible c.args.file c.args.header.now c.args.text.now c.args.t.now _ c.line_at-s.ensures _
          c.first_line.ensures told;
      width =
          rw sub-zero
          (length-take-le c.row_width-w.result c.args.t.now ((let fits = first_fits c.args.text.now _ c.line_at-s.ensures c.args.file c.args.t.now c.requires.1 in
          omega (arith, c.row_width-w.ensures.is))) ∙ c.row_width-w.ensures.is);
    }

pub returns : goal.returns
returns c =
    accepted c.args.file c.args.header.now c.args.text.now c.args.t.now _ c.line_at-s.ensures _ c.first_line.ensures
    c.requires.1 _ c.in_ok-first_line.was c.put_first.ensures _ c.row_width-w.ensures.is

pub slice_bounds-first_line-end : goal.slice_bounds-first_line-end
slice_bounds-first_line-end c = omega (arith, c.line_at-s.ensures)

pub slice_bounds-put_first-end : goal.slice_bounds-put_first-end
slice_bounds-put_first-end c = omega (arith, c.line_at-s.ensures)

-- `first_lines::days_right` meets its contract. Assumes nothing.
use mathlib.Core.Path.{sym, ◌∙◌}
use mathlib.Core.Bool.{true}
use native.Mathlib.Omega.{arith}
use Rattle.iff.specs.Columns.{form424}
use Rattle.records.specs.Layouts.{line_of}
use Rattle.first_lines.proofs.HeadLaws.{first_legible, first_days}
use Rattle.first_lines.proofs.days_right.Goals as goal

pub returns : goal.returns
returns c =
    let l = c.args.line in
    c.first_means.ensures ∙ first_days (form424 0) _ (line_of l.now true) c.put_words.ensures

pub put_words-requires : goal.put_words-requires
put_words-requires c = first_legible (form424 0) _ c.requires

pub slice_bounds-first_means-end : goal.slice_bounds-first_means-end
slice_bounds-first_means-end c = sym c.put_words.auto.out

pub first_means-requires : goal.first_means-requires
first_means-requires c = omega (arith, c.put_words.auto.out)

-- `block_ends::next_head` meets its contract: as many lines as hops, or line by line. Assumes nothing.
use mathlib.Core.Path.{◌≡◌, sym, ◌∙◌}
use native.Mathlib.Omega.{arith}
use lib.ListN.{length}
use Rattle.iff.specs.Lines.{lines}
use Rattle.block_ends.specs.Blocks.{part}
use Rattle.block_ends.specs.Hops.{Hopped}
use Rattle.block_ends.proofs.HopLaws.{hops_are_lines}
use Rattle.block_ends.proofs.next_head.Goals as goal

pub returns-then-count_lines-hopped : goal.returns-then-count_lines-hopped
returns-then-count_lines-hopped c =
    let hopped : Hopped c.args.text.now c.args.from
    c.hop_over-hopped.result.next c.hop_over-hopped.result.lines = c.hop_over-hopped.ensures (omega (arith, c.if-hopped-ne0.true)) in
    let a = c.args in
    let counted : length (lines (part a.text.now a.from c.hop_over-hopped.result.next)) ≡ c.hop_over-hopped.result.lines =
    sym c.count_lines.ensures ∙ c.if-count_lines-hopped.true in
    hops_are_lines a.text.now a.from c.hop_over-hopped.result.next c.hop_over-hopped.result.lines (hopped) counted c.requires.1

pub slice_bounds-count_lines-count : goal.slice_bounds-count_lines-count
slice_bounds-count_lines-count c =
    let hopped : Hopped c.args.text.now c.args.from
    c.hop_over-hopped.result.next c.hop_over-hopped.result.lines = c.hop_over-hopped.ensures (omega (arith, c.if-hopped-ne0.true)) in
    omega (arith, (hopped).hops.ending)

pub slice_bounds-count_lines-start : goal.slice_bounds-count_lines-start
slice_bounds-count_lines-start c =
    let hopped : Hopped c.args.text.now c.args.from
    c.hop_over-hopped.result.next c.hop_over-hopped.result.lines = c.hop_over-hopped.ensures (omega (arith, c.if-hopped-ne0.true)) in
    omega (arith, (hopped).hops.ending)

pub slice_bounds-count_lines-end : goal.slice_bounds-count_lines-end
slice_bounds-count_lines-end c =
    let hopped : Hopped c.args.text.now c.args.from
    c.hop_over-hopped.result.next c.hop_over-hopped.result.lines = c.hop_over-hopped.ensures (omega (arith, c.if-hopped-ne0.true)) in
    omega (arith, (hopped).hops.ending)

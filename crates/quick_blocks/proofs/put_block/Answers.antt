-- `quick_blocks::put_block` meets its contract: each way out is one of the laws of a whole block. Assumes nothing.
use Rattle.std.proofs.Common.{rules, ◌≡◌, None}
use mathlib.Core.Path.{refl}
use borrow.Author.Tests.{not-false}
use Rattle.quick_blocks.proofs.WholeLaws.{whole_drivable, left_kept, left_driven, block_of_stops, whole_put}
use Rattle.quick_blocks.proofs.put_block.Goals as goal

pub is_whole-requires : goal.is_whole-requires
is_whole-requires c =
    let a = c.args in
    block_of_stops a.form a.block.now a.fresh a.counts a.companies.now a.modes.now a.stations.now a.footnotes.now
    a.t.now _ a.row c.requires.0 _ _ _ c.read_stops.ensures _ _ c.in_ok-lines.was
    c.read_stops.auto.t c.requires.1

pub returns-then-not-is_whole : goal.returns-then-not-is_whole
returns-then-not-is_whole c =
    let a = c.args in
    left_driven a.form a.block.now a.fresh a.counts a.companies.now a.modes.now a.stations.now a.footnotes.now
    a.t.now _ a.row c.requires.0 _ _ _ c.read_stops.ensures

pub returns-in_err-lines : goal.returns-in_err-lines
returns-in_err-lines c =
    let a = c.args in
    let handed : c.from_residual.result ≡ None = search rules in
    rw handed (left_driven a.form a.block.now a.fresh a.counts a.companies.now a.modes.now a.stations.now a.footnotes.now
    a.t.now _ a.row c.requires.0 _ _ _ c.read_stops.ensures)

pub returns : goal.returns
returns c =
    let a = c.args in
    whole_put a.form a.block.now a.fresh a.counts a.companies.now a.modes.now a.stations.now a.footnotes.now
    a.t.now _ a.row c.requires.0 _ _ _ c.read_stops.ensures _ _ c.in_ok-lines.was
    c.read_stops.auto.t c.requires.1 (c.is_whole.ensures (not-false _ c.if-not-is_whole.false-raw))
    (not-false _ c.if-not-fresh.false-raw)

pub returns-then-not-fresh : goal.returns-then-not-fresh
returns-then-not-fresh c = left_kept _ _ _ _ _ _ _ _ _ _ _ refl

pub read_stops-requires : goal.read_stops-requires
read_stops-requires c = whole_drivable _ c.requires.0 _ _ c.requires.1

-- `walk_rows` meets its contract: what is left of the rows is the whole, wherever the block ends. Assumes nothing.
use Rattle.std.proofs.Common.{rules, ◌≡◌, None}
use Prim.Native.Nat.{◌<◌}
use native.Mathlib.Omega.{arith}
use borrow.Author.Rules.{rules}
use Rattle.iff.specs.Tables.{row_width}
use Rattle.iff.specs.declared.File.TheVariants.{Timetbls}
use Rattle.tables.proofs.Rows.{row_in_table}
use Rattle.sound_row_walks.specs.Walk.{used_in}
use Rattle.sound_row_walks.proofs.UsedLaws.{ends_at_room, room_ends, rows_end, row_used}
use Rattle.sound_row_walks.proofs.WalkLaws.{walk_starts, walk_ends, walk_ends_at, walk_stops, walk_falls, walk_goes_on}
use Rattle.sound_row_walks.proofs.walk_rows.Goals as goal

pub loop-i-init : goal.loop-i-init
loop-i-init c =
    walk_starts _ _ _ _ _ c.args.t.now c.args.from _ c.requires

pub word_at-requires : goal.word_at-requires
word_at-requires c = (omega arith, row_in_table (row_width Timetbls) c.loop-i.i _ c.loop-i-test.true)

pub returns-then-word_at-eq0 : goal.returns-then-word_at-eq0
returns-then-word_at-eq0 c =
    walk_ends _ _ _ _ _ c.args.t.now c.args.from _ c.requires c.loop-i.i c.loop-i.block c.loop-i.invariant
    (rows_end c.args.t.now c.loop-i.i c.loop-i.invariant.high c.loop-i-test.true _ c.word_at.ensures c.if-word_at-eq0.true)

pub is_next_head-requires : goal.is_next_head-requires
is_next_head-requires c = row_in_table (row_width Timetbls) c.loop-i.i _ c.loop-i-test.true

pub returns-then-is_next_head : goal.returns-then-is_next_head
returns-then-is_next_head c =
    let in_use_lem : c.loop-i.i < used_in c.args.t.now = row_used c.args.t.now c.loop-i.i c.loop-i.invariant.high c.loop-i-test.true _ c.word_at.ensures c.if-word_at-eq0.false in
    walk_stops _ _ _ _ _ c.args.t.now c.args.from _ c.requires c.loop-i.i c.loop-i.block c.loop-i.invariant in_use_lem _
    c.is_next_head.ensures c.if-is_next_head.true

pub overflow_sub-line : goal.overflow_sub-line
overflow_sub-line c = omega (arith, c.loop-i.invariant.low)

pub overflow_add-line : goal.overflow_add-line
overflow_add-line c = search rules

pub after_at-requires : goal.after_at-requires
after_at-requires c =
    (row_in_table (row_width Timetbls) c.loop-i.i _ c.loop-i-test.true, c.loop-i.invariant.few)

pub returns-in_err-block : goal.returns-in_err-block
returns-in_err-block c =
    let in_use_lem : c.loop-i.i < used_in c.args.t.now = row_used c.args.t.now c.loop-i.i c.loop-i.invariant.high c.loop-i-test.true _ c.word_at.ensures c.if-word_at-eq0.false in
    let handed : c.from_residual.result ≡ None = search rules in
    rw handed (walk_falls _ _ _ _ _ c.args.t.now c.args.from _ c.requires c.loop-i.i c.loop-i.block c.loop-i.invariant in_use_lem _
    c.is_next_head.ensures c.if-is_next_head.false _ c.after_at.ensures c.in_err-block.was)

pub loop-i-preserved : goal.loop-i-preserved
loop-i-preserved c =
    let in_use_lem : c.loop-i.i < used_in c.args.t.now = row_used c.args.t.now c.loop-i.i c.loop-i.invariant.high c.loop-i-test.true _ c.word_at.ensures c.if-word_at-eq0.false in
    walk_goes_on _ _ _ _ _ c.args.t.now c.args.from _ c.requires c.loop-i.i c.loop-i.block c.loop-i.invariant in_use_lem _
    c.is_next_head.ensures c.if-is_next_head.false _ c.after_at.ensures _ c.in_ok-block.was

pub returns : goal.returns
returns c =
    let t = c.args.t.now in
    let p = c.loop-i.invariant in
    walk_ends_at _ _ _ _ _ t c.args.from _ c.requires c.loop-i.i c.loop-i.block p
    (room_ends t c.loop-i.i p.high c.loop-i-test.false) _
    (ends_at_room t c.args.from c.requires c.loop-i.i p.high c.loop-i-test.false)

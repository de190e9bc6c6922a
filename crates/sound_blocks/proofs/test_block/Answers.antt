-- `test_block` meets its contract: each way out is one of the laws of a block. Assumes nothing.
use Rattle.std.proofs.Common.{rules, ◌≡◌, None}
use mathlib.Core.Path.{sym, ◌∙◌}
use native.Mathlib.Omega.{arith}
use borrow.Author.Tests.{not-true, not-false}
use lib.ListN.{length}
use Rattle.iff.specs.Tables.{row_width}
use Rattle.iff.specs.declared.File.TheVariants.{Timetbls}
use Rattle.tables.proofs.Rows.{row_inside}
use Rattle.sound_blocks.proofs.BlockLaws.{unsound_row, block_in, other_lines, unfinished, other_stops, legs_ask, other_legs, block_sound}
use Rattle.sound_blocks.proofs.test_block.Goals as goal

pub returns-in_err-block : goal.returns-in_err-block
returns-in_err-block c =
    let handed : c.from_residual.result ≡ None = search rules in
    rw handed (unsound_row _ _ _ _ _ c.args.t.now c.args.from _ c.requires _ c.walk_rows.ensures c.in_err-block.was)

pub word_at-lines-requires : goal.word_at-lines-requires
word_at-lines-requires c =
    (omega arith, row_inside (row_width Timetbls) c.args.from _ (length c.args.t.now) c.requires.some c.requires.inside)

pub overflow_sub-to : goal.overflow_sub-to
overflow_sub-to c =
    block_in _ _ _ _ _ c.args.t.now c.args.from _ c.requires _ c.walk_rows.ensures _ _ c.in_ok-block.was

pub returns-then-lines-to : goal.returns-then-lines-to
returns-then-lines-to c =
    other_lines _ _ _ _ _ c.args.t.now c.args.from _ c.requires _ c.walk_rows.ensures _ _ c.in_ok-block.was (λ q. omega (arith, c.if-lines-to.true, c.word_at-lines.ensures, q))

pub returns-then-not-is_finished : goal.returns-then-not-is_finished
returns-then-not-is_finished c =
    unfinished _ _ _ _ _ c.args.t.now c.args.from _ c.requires _ c.walk_rows.ensures _ _ c.in_ok-block.was
    (sym c.is_finished.ensures ∙ not-true _ c.if-not-is_finished.true-raw)

pub word_at-counted-requires : goal.word_at-counted-requires
word_at-counted-requires c =
    (omega arith, row_inside (row_width Timetbls) c.args.from _ (length c.args.t.now) c.requires.some c.requires.inside)

pub returns-then-counted-stops : goal.returns-then-counted-stops
returns-then-counted-stops c =
    other_stops _ _ _ _ _ c.args.t.now c.args.from _ c.requires _ c.walk_rows.ensures _ _ c.in_ok-block.was (λ q. omega (arith, c.if-counted-stops.true, c.word_at-counted.ensures, q))

pub are_right-requires : goal.are_right-requires
are_right-requires c =
    legs_ask _ _ _ _ _ c.args.t.now c.args.from _ c.requires _ c.walk_rows.ensures _ _ c.in_ok-block.was

pub returns-then-not-are_right : goal.returns-then-not-are_right
returns-then-not-are_right c =
    other_legs _ _ _ _ _ c.args.t.now c.args.from _ c.requires _ c.walk_rows.ensures _ _ c.in_ok-block.was _ c.are_right.ensures
    (not-true _ c.if-not-are_right.true-raw)

pub returns : goal.returns
returns c =
    block_sound _ _ _ _ _ c.args.t.now c.args.from _ c.requires _ c.walk_rows.ensures _ _ c.in_ok-block.was _ c.are_right.ensures
    (omega (arith, c.if-lines-to.false, c.word_at-lines.ensures))
    (sym c.is_finished.ensures ∙ not-false _ c.if-not-is_finished.false-raw)
    (omega (arith, c.if-counted-stops.false, c.word_at-counted.ensures))
    (not-false _ c.if-not-are_right.false-raw)

-- `lies_at` meets its contract: the part of the table that is handed on is row i. Assumes nothing.
use borrow.Author.Tests.{ne_eqb}
use Rattle.service_rows.proofs.LieLaws.{span_row, lies_behind, lies_by_last}
use Rattle.service_rows.proofs.lies_at.Goals as goal

pub returns-then-word_at-kind : goal.returns-then-word_at-kind
returns-then-word_at-kind c = rw (← c.word_at.ensures, ne_eqb _ _ c.if-word_at-kind.true)

pub returns-then-leg-span : goal.returns-then-leg-span
returns-then-leg-span c =
    lies_behind c.args.kind c.args.leg _ _ (span_row _ c.args.i c.args.t.now _ c.span_of-span.ensures) _ c.word_at.ensures
    c.if-word_at-kind.false c.if-leg-span.true

pub returns : goal.returns
returns c =
    lies_by_last c.args.kind c.args.leg _ _ (span_row _ c.args.i c.args.t.now _ c.span_of-span.ensures) _ c.word_at.ensures
    c.if-word_at-kind.false c.if-leg-span.false

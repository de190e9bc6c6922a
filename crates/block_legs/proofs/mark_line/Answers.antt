-- `block_legs::mark_line` meets its contract: a line of another kind marks none, and any other as its row does. Assumes nothing.
use mathlib.Core.Path.{sym, ◌∙◌}
use borrow.Author.Rules.{rules}
use Rattle.legs.proofs.SpanLaws.{other_kind}
use Rattle.block_legs.proofs.RowLaws.{line_tag}
use Rattle.block_legs.proofs.LineLaws.{row_markable, row_marked}
use Rattle.block_legs.proofs.mark_line.Goals as goal

pub returns-then-first_byte-kind : goal.returns-then-first_byte-kind
returns-then-first_byte-kind c =
    let a = c.args in
    other_kind _ _ _ _ (λ e. c.if-first_byte-kind.true (c.first_byte.ensures ∙ sym (line_tag a.form a.n a.line.now) ∙ e))

pub mark_row-requires : goal.mark_row-requires
mark_row-requires c =
    row_markable c.args.form c.args.line.now c.args.n c.args.kind _ c.requires _ c.line_row.ensures

pub returns : goal.returns
returns c =
    row_marked c.args.form c.args.line.now c.args.n c.args.kind _ c.line_row.ensures _ _ _ c.mark_row.ensures

pub line_row-requires : goal.line_row-requires
line_row-requires c = (c.requires.legibly, search rules)

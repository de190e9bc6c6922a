-- The tests, in order: a line that fits has its fields where the tables say. Assumes nothing.
use mathlib.Core.Path.{sym, ◌∙◌}
use borrow.Author.Tests.{not-true, not-false}
use Rattle.record_lines.proofs.LineLaws.{unfit, unfigured, in_fields}
use Rattle.record_lines.proofs.fixed_layout.Goals as goal

pub are_fields_right-requires : goal.are_fields_right-requires
are_fields_right-requires c =
    c.requires.fitted (sym c.looks_in-looks.ensures.fitting ∙ not-false _ c.if-not-looks.false)

pub returns-then-not-are_fields_right : goal.returns-then-not-are_fields_right
returns-then-not-are_fields_right c =
    in_fields c.args.s _ _ c.looks_in-looks.ensures (not-false _ c.if-not-looks.false) (not-false _ c.if-not-looks-2.false)
    (sym c.are_fields_right.ensures ∙ not-true _ c.if-not-are_fields_right.true-raw)

pub returns : goal.returns
returns c =
    in_fields c.args.s _ _ c.looks_in-looks.ensures (not-false _ c.if-not-looks.false) (not-false _ c.if-not-looks-2.false)
    (sym c.are_fields_right.ensures ∙ not-false _ c.if-not-are_fields_right.false-raw)

pub returns-then-not-looks : goal.returns-then-not-looks
returns-then-not-looks c = unfit c.args.s _ _ c.looks_in-looks.ensures (not-true _ c.if-not-looks.true)

pub returns-then-not-looks-2 : goal.returns-then-not-looks-2
returns-then-not-looks-2 c = unfigured c.args.s _ _ c.looks_in-looks.ensures (not-false _ c.if-not-looks.false) (not-true _ c.if-not-looks-2.true)

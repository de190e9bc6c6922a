-- By whether the record is the vector or has fixed columns. Assumes nothing.
use mathlib.Core.Path.{sym, ◌∙◌}
use native.Mathlib.Omega.{arith}
use borrow.Author.Tests.{not-true, not-false}
use Rattle.shapes.proofs.WordLaws.{vector_room, vector_unfit, vector_fit, words_room, words_unfit, words_fit}
use Rattle.shapes.proofs.is_shaped.Goals as goal

pub are_marks_right-requires : goal.are_marks_right-requires
are_marks_right-requires c =
    vector_room c.args.form c.args.«record» _ c.spans_of-s.ensures c.args.row.now c.if-to-eq0.true c.requires

pub returns-then-not-are_marks_right : goal.returns-then-not-are_marks_right
returns-then-not-are_marks_right c =
    vector_unfit c.args.form c.args.«record» _ c.spans_of-s.ensures _ c.if-to-eq0.true
    (sym c.are_marks_right.ensures ∙ not-true _ c.if-not-are_marks_right.true-raw)

pub returns-then-to-eq0 : goal.returns-then-to-eq0
returns-then-to-eq0 c =
    c.zero_from.ensures
    ∙ vector_fit c.args.form c.args.«record» _ c.spans_of-s.ensures _ c.if-to-eq0.true
    (sym c.are_marks_right.ensures ∙ not-false _ c.if-not-are_marks_right.false-raw)

pub are_words_right-requires : goal.are_words_right-requires
are_words_right-requires c =
    words_room c.args.form c.args.«record» _ c.spans_of-s.ensures c.args.row.now c.if-to-eq0.false c.requires

pub returns-then-not-are_words_right : goal.returns-then-not-are_words_right
returns-then-not-are_words_right c =
    words_unfit c.args.form c.args.«record» _ c.spans_of-s.ensures _ c.if-to-eq0.false
    (sym c.are_words_right.ensures ∙ not-true _ c.if-not-are_words_right.true-raw)

pub overflow_sub-end : goal.overflow_sub-end
overflow_sub-end c =
    omega (arith, (words_room c.args.form c.args.«record» _ c.spans_of-s.ensures c.args.row.now c.if-to-eq0.false c.requires).0)

pub overflow_add-end : goal.overflow_add-end
overflow_add-end c =
    let w = words_room c.args.form c.args.«record» _ c.spans_of-s.ensures c.args.row.now c.if-to-eq0.false c.requires in
    omega (arith, w.1)

pub returns : goal.returns
returns c =
    c.zero_from-2.ensures
    ∙ words_fit c.args.form c.args.«record» _ c.spans_of-s.ensures _ c.if-to-eq0.false
    (sym c.are_words_right.ensures ∙ not-false _ c.if-not-are_words_right.false-raw)

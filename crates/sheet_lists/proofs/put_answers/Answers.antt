-- `put_answers` meets its contract: what is left to be put makes the whole. Assumes nothing.
use Prim.Native.Nat.{◌*◌, ◌≤◌}
use mathlib.Core.Path.{refl, ◌∙◌}
use native.Mathlib.Omega.{arith}
use lib.ListN.{length}
use Rattle.iff_desk.specs.Sheet.{question_width, answer_width}
use Rattle.tables.proofs.Rows.{row_inside}
use Rattle.sheet_lists.proofs.ListLaws.{starts, goes_on, ends}
use Rattle.sheet_lists.proofs.put_answers.Goals as goal

pub loop-q-init : goal.loop-q-init
loop-q-init c = (refl, λ R rows. starts _ _ _ _)

pub put_answer-requires : goal.put_answer-requires
put_answer-requires c = (
  c.requires.0,
  c.requires.1,
  row_inside question_width _ _ _ c.loop-q-test.true c.requires.2,
  row_inside answer_width _ _ _ c.loop-q-test.true (rw c.loop-q.invariant.0 c.requires.3),
)

pub loop-q-preserved : goal.loop-q-preserved
loop-q-preserved c =
    let h = c.loop-q-test.true in
    let all : c.args.asked * answer_width ≤ length c.loop-q.answers = rw c.loop-q.invariant.0 c.requires.3 in
    let room = row_inside answer_width c.loop-q.q c.args.asked (length c.loop-q.answers) h all in (
      c.put_answer.auto.answers ∙ c.loop-q.invariant.0,
      λ R rows. goes_on _ _ _ _ _ _ (c.loop-q.invariant.1 R rows) _ h room (c.put_answer.ensures R rows),
    )

pub shape_of-answers : goal.shape_of-answers
shape_of-answers c = c.loop-q.invariant.0

pub returns : goal.returns
returns c R rows =
    ends _ _ _ _ _ _ (c.loop-q.invariant.1 R rows) (omega (arith, c.loop-q-test.false)) c.requires.3

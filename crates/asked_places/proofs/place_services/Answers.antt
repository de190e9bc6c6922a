-- `place_services` meets its contract: each question that is read is one of those asked, and no slot is added. Assumes nothing.
use mathlib.Core.Path.{refl}
use lib.ListN.{length}
use Rattle.iff_desk.specs.Sheet.{question_width}
use Rattle.tables.proofs.Rows.{row_inside}
use Rattle.asked_places.proofs.place_services.Goals as goal

pub ask_in_question-missing-requires : goal.ask_in_question-missing-requires
ask_in_question-missing-requires c =
    row_inside question_width c.loop-q.q c.args.asked (length c.args.questions.now) c.loop-q-test.true c.requires

pub loop-q-init : goal.loop-q-init
loop-q-init c = refl

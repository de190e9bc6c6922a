-- `fill_list` meets its contract: 23, or what the questions lean on is found and handed over. Assumes nothing.
use native.Mathlib.Omega.{arith}
use Rattle.desk.proofs.ReadyLaws.{ready}
use Rattle.sheet_fills.proofs.FillLaws.{asked_there, answers_there, too_short, filled, still_told}
use Rattle.sheet_fills.proofs.fill_list.Goals as goal

pub returns-then-answers-asked : goal.returns-then-answers-asked
returns-then-answers-asked c R rows =
    let a = c.args in
    too_short a.questions.now a.answers.now R c.if-answers-asked.true

pub place_asked-requires : goal.place_asked-requires
place_asked-requires c =
    let a = c.args in
    asked_there a.questions.now a.answers.now

pub index_heads-requires : goal.index_heads-requires
index_heads-requires c =
    let counted = c.count_rows-counts.ensures in
    let sure = c.requires.0 in
    let clean = c.requires.1 in (
      record { counted = counted.changes; once = sure.changes },
      record { counted = counted.xchanges; once = sure.xchanges },
      clean.changes_first,
      clean.xchanges_first,
    )

pub put_answers-requires : goal.put_answers-requires
put_answers-requires c =
    let put = c.index_heads.ensures in
    let qs = c.args.questions.now in
    let list = c.args.answers.now in (
      ready _ _ _ _ _ _ _ _ _ _ c.requires.0 c.count_rows-counts.ensures put.0 put.1,
      still_told c.args.services_told _ _ c.args.timetbls.now c.args.places.now _ _ c.count_rows-counts.ensures.timetbls c.requires.2
          c.place_asked.ensures put.2 c.index_heads.auto.places,
      asked_there qs list,
      answers_there qs list (omega (arith, c.if-answers-asked.false)),
    )

pub returns : goal.returns
returns c R rows =
    let a = c.args in
    filled a.questions.now a.answers.now R (omega (arith, c.if-answers-asked.false)) _ (c.put_answers.ensures R rows)

-- `put_answers` meets its contract: what is left to be put makes the whole. Assumes nothing.
use mathlib.Core.Path.{◌≡◌}
use mathlib.Core.Bool.{true}
use mathlib.Core.List.{List}
use lib.ListN.{length}
use Rattle.iff.specs.Files.{PerFile}
use Rattle.iff.specs.Tables.{Row}
use Rattle.iff_desk.specs.Changing.{change_in}
use Rattle.changing.specs.Agree.{RowsOf}
use Rattle.sheet_lists.proofs.ListLaws.{Answering}
use Rattle.sheet_lists.proofs.put_answers.Given as goal

abbrev pub invariant-loop-q : goal.invariant-loop-q
invariant-loop-q l =
    (length l.answers ≡ length l.initial.answers)
    × ((R : PerFile (List Row)) → RowsOf R l.delivery l.timezone l.stations l.footnote l.timetbls l.changes l.xfootnote l.xchanges
    → Answering (change_in true R) l.questions l.asked l.initial.answers l.answers l.q)

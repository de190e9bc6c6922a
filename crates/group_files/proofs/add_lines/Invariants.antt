-- `group_files::add_lines` meets its contract. What is left of the lines is the whole: the laws of the walk say so at the start, a line further,
-- and at each way out. Assumes nothing.
use mathlib.Core.Path.{◌≡◌}
use lib.ListN.{length}
use Rattle.references.specs.Agree.{GroupKeysAmong}
use Rattle.text_lines.specs.Left.{lines_left}
use Rattle.group_files.proofs.WalkLaws.{Walk}
use Rattle.group_files.proofs.add_lines.Given as goal

abbrev pub invariant-loop-line : goal.invariant-loop-line
invariant-loop-line l =
    Walk l.file l.form l.from l.text l.initial.t (λ c. GroupKeysAmong c l.counts l.companies l.modes l.stations l.services l.xfootnotes)
    (lines_left l.line-iterator) l.read l.group l.t l.marks
    × (length l.marks ≡ length l.initial.marks)

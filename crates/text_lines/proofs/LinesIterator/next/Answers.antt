-- Beyond the end there is no line. Assumes nothing.
use Rattle.text.proofs.LineLaws.{lines_end}
use Rattle.text_lines.proofs.LinesIterator.next.Goals as goal

pub returns-then-self-clause-steps : goal.returns-then-self-clause-steps
returns-then-self-clause-steps c = (lines_end _ _ c.if-self.true, lines_end _ _ c.if-self.true)

-- Lines as they are handed out, and those that are left.
use Rattle.std.specs.Prelude.{List, drop}
use Rattle.iff.specs.Lines as iff
use Rattle.text_lines.specs.declared.Line.{Line}
use Rattle.text_lines.specs.declared.Lines.{Lines}

abbrev pub seen : Line → iff.Line
seen l = record { body = l.body.now; ended = l.ended }

abbrev pub lines_left : Lines → List iff.Line
lines_left s = iff.lines (drop s.at s.text.now)

-- `block_rows::write_block` meets its contract: the rows that are left to put make the whole. Assumes nothing.
use Rattle.std.specs.Iterator.Adapters.{enumerate_source, enumerate_count}
use Rattle.iff.specs.Lines.{lines}
use Rattle.text_lines.specs.Left.{lines_left}
use Rattle.block_rows.proofs.WriteLaws.{Writing}
use Rattle.block_rows.proofs.write_block.Given as goal

abbrev pub invariant-loop-done : goal.invariant-loop-done
invariant-loop-done l =
    Writing l.form (lines l.block) l.initial.t l.t l.k l.n l.start (enumerate_count l.done-iterator) (lines_left (enumerate_source l.done-iterator))

-- `walk_rows` meets its contract: what is left of the rows is the whole, wherever the block ends. Assumes nothing.
use Rattle.sound_row_walks.specs.Walk.{used_in}
use Rattle.sound_row_walks.proofs.WalkLaws.{Walking}
use Rattle.sound_row_walks.proofs.walk_rows.Given as goal

abbrev pub invariant-loop-i : goal.invariant-loop-i
invariant-loop-i l =
    Walking l.counts l.companies l.modes l.stations l.footnotes l.t l.from (used_in l.t) l.i l.block

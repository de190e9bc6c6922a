-- `quick_steps::put_line` meets its contract: a line that passes leads on, and its row is the block's. Assumes nothing.
use native.Mathlib.Omega.{arith}
use Rattle.quick_steps.proofs.LineLaws.{told_turn}
use Rattle.quick_steps.proofs.put_line.Goals as goal

pub put_words-requires : goal.put_words-requires
put_words-requires c =
    (λ some. omega (arith, (c.tested_words-w.ensures some).seen.room, c.well_formed), c.requires.2, c.requires.3)

pub returns : goal.returns
returns c =
    let a = c.args in
    told_turn a.form a.counts a.companies.now a.modes.now a.stations.now a.footnotes.now a.block.now a.at a.st
    a.n a.k a.number a.t.now _ a.i a.letter _ c.tested_words-w.ensures _ (c.goes_on.ensures _ c.in_ok-to.was)
    _ c.put_words.ensures

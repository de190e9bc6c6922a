-- `quick_steps::put_platform` meets its contract, as that of the other lines does. Assumes nothing.
use mathlib.Core.Path.{refl, sym, ◌∙◌}
use native.Mathlib.Omega.{arith}
use Rattle.quick_steps.proofs.LineLaws.{unsure, told_turn}
use Rattle.quick_steps.proofs.KindLaws.{platform_passes}
use Rattle.quick_steps.proofs.put_platform.Goals as goal

pub put_words-requires : goal.put_words-requires
put_words-requires c =
    let a = c.args in (
      λ some. let p = platform_passes a.form a.counts a.companies.now a.modes.now a.stations.now a.footnotes.now a.block.now a.at
          a.n a.k a.st.stops _ some a.letter c.requires.1 c.if-letter-ne63.false (c.platform-w.ensures some) in
          omega (arith, p.seen.room, c.well_formed),
      c.requires.2,
      c.requires.3,
    )

pub returns : goal.returns
returns c =
    let a = c.args in
    told_turn a.form a.counts a.companies.now a.modes.now a.stations.now a.footnotes.now a.block.now a.at a.st
    a.n a.k a.number a.t.now _ a.i a.letter _
    (λ some. platform_passes a.form a.counts a.companies.now a.modes.now a.stations.now a.footnotes.now a.block.now a.at
    a.n a.k a.st.stops _ some a.letter c.requires.1 c.if-letter-ne63.false (c.platform-w.ensures some))
    _ (sym c.goes.ensures ∙ c.in_ok-to.was) _ c.put_words.ensures

pub returns-then-letter-ne63 : goal.returns-then-letter-ne63
returns-then-letter-ne63 c = unsure _ _ _ _ _ _ _ _ _ _ _ _ _ _ _ refl

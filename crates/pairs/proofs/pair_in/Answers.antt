-- `pair_in` meets its contract: what is left has the same first pair as the whole. Assumes nothing.
use Rattle.std.specs.Prelude.{Some}
use mathlib.Core.Path.{ap, sym, ◌∙◌}
use Rattle.iff.specs.Tables.{group_width}
use Rattle.iff.specs.declared.GroupFile.TheVariants.{Changes}
use Rattle.pairs.specs.Rows.{is_pair}
use Rattle.pairs.proofs.RowLaws.{no_pair, pair_here, pair_on}
use Rattle.pairs.proofs.pair_in.Goals as goal

pub returns-then-is_pair : goal.returns-then-is_pair
returns-then-is_pair c =
    let a = c.args in
    ap Some c.word_at.ensures
    ∙ pair_here (is_pair a.a a.b) (group_width Changes) a.t.now a.to c.loop-i.i c.loop-i-test.true _
    c.is_pair.ensures c.if-is_pair.true
    ∙ sym c.loop-i.invariant

pub loop-i-preserved : goal.loop-i-preserved
loop-i-preserved c =
    let a = c.args in
    c.loop-i.invariant
    ∙ pair_on (is_pair a.a a.b) (group_width Changes) a.t.now a.to c.loop-i.i c.loop-i-test.true _
    c.is_pair.ensures c.if-is_pair.false

pub returns : goal.returns
returns c =
    let a = c.args in
    no_pair (is_pair a.a a.b) (group_width Changes) a.t.now a.to c.loop-i.i c.loop-i-test.false ∙ sym c.loop-i.invariant

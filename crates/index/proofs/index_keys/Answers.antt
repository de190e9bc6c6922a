-- `index_keys` meets its contract: before each row, what is left of the keys decides what is told of them all. Assumes nothing.
use Rattle.index.proofs.KeyLaws.{none_indexed, at_row, one_indexed, again_told, all_told}
use Rattle.index.proofs.index_keys.Goals as goal

pub loop-i-init : goal.loop-i-init
loop-i-init c =
    let a = c.args in
    none_indexed a.file a.used a.t.now a.places.now c.requires.0 c.requires.1 _ c.no_keys-run.ensures

pub index_row-requires : goal.index_row-requires
index_row-requires c =
    let a = c.args in
    at_row a.file a.used a.t.now a.places.now c.loop-i.run c.loop-i.i c.loop-i.places c.loop-i.invariant c.requires.0 c.requires.1
    c.loop-i-test.true

pub returns-in_default : goal.returns-in_default
returns-in_default c =
    let a = c.args in
    again_told a.file a.used a.t.now a.places.now c.loop-i.run c.loop-i.i c.loop-i.places c.loop-i.invariant
    c.loop-i-test.true _ _ c.index_row.ensures c.in_default.is

pub loop-i-preserved : goal.loop-i-preserved
loop-i-preserved c =
    let a = c.args in
    one_indexed a.file a.used a.t.now a.places.now c.loop-i.run c.loop-i.i c.loop-i.places c.loop-i.invariant
    c.loop-i-test.true _ _ c.index_row.ensures _ c.in-Some.is

pub returns : goal.returns
returns c =
    let a = c.args in
    all_told a.file a.used a.t.now a.places.now c.loop-i.run c.loop-i.i c.loop-i.places c.loop-i.invariant c.loop-i-test.false

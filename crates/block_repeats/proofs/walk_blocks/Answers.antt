-- `block_repeats::walk_blocks` meets its contract: what the walk told stands, or a service that came before is the fault, or all is read again. Assumes
-- nothing.
use mathlib.Core.Path.{◌≡◌, refl, ◌∙◌}
use mathlib.Core.Bool.{false}
use native.Mathlib.Omega.{arith}
use Rattle.block_repeats.proofs.ReadLaws.{walk_sure, walk_never, walk_again, again_inside, alone, told_again, ready_again}
use Rattle.block_repeats.proofs.walk_blocks.Goals as goal

-- each service was told to be new
pub returns-then-walk : goal.returns-then-walk
returns-then-walk c =
    let a = c.args in
    walk_sure a.form a.text.now a.from a.counts a.companies.now a.modes.now a.stations.now a.footnotes.now
    a.t.now _ false c.add_blocks-walk.result c.add_blocks-walk.ensures c.if-walk.true

pub first_repeat-requires : goal.first_repeat-requires
first_repeat-requires c = c.add_blocks-walk.ensures.room

-- the ordinal of a block is a number
pub overflow_add-fault : goal.overflow_add-fault
overflow_add-fault c =
    let a = c.args in
    let n = again_inside a.form a.text.now a.from a.counts a.companies.now a.modes.now a.stations.now a.footnotes.now
    a.t.now _ false c.add_blocks-walk.result c.add_blocks-walk.ensures _ c.first_repeat.ensures _ c.in-First.is in
    omega (arith, n, c.well_formed)

pub clear_blocks-requires : goal.clear_blocks-requires
clear_blocks-requires c =
    omega (arith, c.requires.room, c.add_blocks-walk.auto.t)

pub add_blocks-again-requires : goal.add_blocks-again-requires
add_blocks-again-requires c =
    let as_it_was : c.clear_blocks.new.t ≡ c.args.t.now = let a = c.args in
    alone a.text.now a.from a.t.now a.marks.now c.requires c.add_blocks-walk.new.t
    c.add_blocks-walk.auto.t c.add_blocks-walk.ensures.first _ c.clear_blocks.ensures in
    let a = c.args in
    ready_again a.text.now a.from a.t.now a.marks.now c.requires _ _ as_it_was c.add_blocks-walk.auto.marks

-- no service came before
pub returns-in-Never : goal.returns-in-Never
returns-in-Never c =
    let a = c.args in
    walk_never a.form a.text.now a.from a.counts a.companies.now a.modes.now a.stations.now a.footnotes.now
    a.t.now _ false c.add_blocks-walk.result c.add_blocks-walk.ensures _ c.first_repeat.ensures c.in-Never.is

-- one did, the first of them at fault
pub returns-in-First : goal.returns-in-First
returns-in-First c =
    let a = c.args in
    walk_again a.form a.text.now a.from a.counts a.companies.now a.modes.now a.stations.now a.footnotes.now
    a.t.now _ false c.add_blocks-walk.result c.add_blocks-walk.ensures _ c.first_repeat.ensures _ c.in-First.is

-- all was read again
pub returns-in-Untold : goal.returns-in-Untold
returns-in-Untold c =
    let as_it_was : c.clear_blocks.new.t ≡ c.args.t.now = let a = c.args in
    alone a.text.now a.from a.t.now a.marks.now c.requires c.add_blocks-walk.new.t
    c.add_blocks-walk.auto.t c.add_blocks-walk.ensures.first _ c.clear_blocks.ensures in
    let a = c.args in
    told_again a.text.now a.from a.t.now a.marks.now c.requires a.form a.counts a.companies.now a.modes.now
    a.stations.now a.footnotes.now c.clear_blocks.new.t _ _ as_it_was
    (walk_sure a.form a.text.now a.from a.counts a.companies.now a.modes.now a.stations.now a.footnotes.now
    c.clear_blocks.new.t _ _ c.add_blocks-again.result c.add_blocks-again.ensures (c.add_blocks-again.ensures.asked refl))

pub shape_of-marks-in-Untold : goal.shape_of-marks-in-Untold
shape_of-marks-in-Untold c =
    c.add_blocks-again.auto.marks ∙ c.add_blocks-walk.auto.marks

pub shape_of-t-in-Untold : goal.shape_of-t-in-Untold
shape_of-t-in-Untold c =
    c.add_blocks-again.auto.t ∙ c.clear_blocks.auto.t ∙ c.add_blocks-walk.auto.t

-- `walk_class` meets its contract: before each block, the services of the class that were met are in the set, and none of them came twice. Assumes
-- nothing.
use mathlib.Core.Path.{◌∙◌}
use native.Mathlib.Omega.{arith}
use Rattle.iff.specs.Tables.{row_width}
use Rattle.iff.specs.declared.File.TheVariants.{Timetbls}
use Rattle.tables.proofs.Rows.{row_inside}
use Rattle.key_classes.proofs.ClassLaws.{not_asked}
use Rattle.key_classes.proofs.RowLaws.{starts, ends, enough, came, goes_on}
use Rattle.key_classes.proofs.walk_class.Goals as goal

pub next_head-i-requires : goal.next_head-i-requires
next_head-i-requires c = (omega arith, omega arith, c.requires.0)

pub loop-i-init : goal.loop-i-init
loop-i-init c =
    let a = c.args in
    starts a.classes a.class a.used a.upto a.t.now c.requires.0 a.set.now _ c.requires.2 c.next_head-i.ensures

pub shape_of-set-then-met-upto : goal.shape_of-set-then-met-upto
shape_of-set-then-met-upto c = c.loop-i.invariant.holds.wide

pub returns-then-met-upto : goal.returns-then-met-upto
returns-then-met-upto c =
    let a = c.args in
    enough a.classes a.class a.used a.upto a.t.now c.requires.0 _ c.loop-i.met c.loop-i.i c.loop-i.set c.loop-i.invariant c.if-met-upto.true

pub word_at-key-requires : goal.word_at-key-requires
word_at-key-requires c =
    (omega arith, row_inside (row_width Timetbls) c.loop-i.i c.args.used _ c.loop-i-test.true c.requires.0)

pub try_key-requires : goal.try_key-requires
try_key-requires c = c.requires.1

pub shape_of-set-in-Came : goal.shape_of-set-in-Came
shape_of-set-in-Came c =
    c.try_key.auto.set ∙ c.loop-i.invariant.holds.wide

pub returns-in-Came : goal.returns-in-Came
returns-in-Came c =
    let a = c.args in
    came a.classes a.class a.used a.upto a.t.now c.requires.0 _ c.loop-i.met c.loop-i.i c.loop-i.set c.loop-i.invariant
    c.loop-i-test.true c.if-met-upto.false c.word_at-key.result c.word_at-key.ensures
    (c.try_key.ensures.came c.in-Came.is)

pub shape_of-set-in-NoRoom : goal.shape_of-set-in-NoRoom
shape_of-set-in-NoRoom c =
    c.try_key.auto.set ∙ c.loop-i.invariant.holds.wide

pub returns-in-NoRoom : goal.returns-in-NoRoom
returns-in-NoRoom c =
    let a = c.args in
    not_asked a.classes a.class _ a.upto

pub overflow_add-met : goal.overflow_add-met
overflow_add-met c =
    omega (arith, c.if-met-upto.false, c.loop-i.invariant.few, c.ranges.upto)

pub overflow_add-i : goal.overflow_add-i
overflow_add-i c =
    omega (arith, c.loop-i-test.true, c.ranges.used)

pub next_head-i-requires-in-loop-i : goal.next_head-i-requires-in-loop-i
next_head-i-requires-in-loop-i c =
    (omega arith, omega (arith, c.loop-i-test.true), c.requires.0)

pub loop-i-smaller : goal.loop-i-smaller
loop-i-smaller c =
    omega (arith, c.loop-i-test.true, c.next_head-i-in-loop-i.ensures.low, c.next_head-i-in-loop-i.ensures.high)

pub loop-i-preserved : goal.loop-i-preserved
loop-i-preserved c =
    let a = c.args in
    goes_on a.classes a.class a.used a.upto a.t.now c.requires.0 _ c.loop-i.met c.loop-i.i c.loop-i.set c.loop-i.invariant
    c.loop-i-test.true c.if-met-upto.false c.word_at-key.result c.word_at-key.ensures _ _ c.try_key.ensures
    c.in-Goes.is _ c.next_head-i-in-loop-i.ensures

pub shape_of-set : goal.shape_of-set
shape_of-set c = c.loop-i.invariant.holds.wide

pub returns : goal.returns
returns c =
    let a = c.args in
    ends a.classes a.class a.used a.upto a.t.now c.requires.0 _ c.loop-i.met c.loop-i.i c.loop-i.set c.loop-i.invariant
    c.loop-i-test.false

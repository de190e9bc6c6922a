-- `first_repeat` meets its contract: no service before the first that came before, of the classes that were asked, came before. Assumes nothing.
use Rattle.iff.specs.declared.File.TheVariants.{Timetbls}
use Rattle.keys.specs.Lookup.{keys_among}
use Rattle.repeats.proofs.AskingLaws.{one_class}
use Rattle.repeats.proofs.KeyLaws.{told_first, told_never}
use Rattle.key_classes.proofs.RowLaws.{no_more}
use Rattle.repeats.proofs.first_repeat.Goals as goal

pub loop-class-preserved : goal.loop-class-preserved
loop-class-preserved c =
    let a = c.args in
    one_class c.class_count-classes.result (keys_among Timetbls a.used a.t.now) a.used c.loop-class.class c.loop-class.upto _ c.loop-class.invariant
    (c.ask_class.ensures.left _ c.in-Some.is)

pub returns-then-upto-used : goal.returns-then-upto-used
returns-then-upto-used c =
    let a = c.args in
    told_first c.class_count-classes.result c.class_count-classes.ensures (keys_among Timetbls a.used a.t.now) a.used c.loop-class.class c.loop-class.upto
    c.loop-class-test.false c.loop-class.invariant c.if-upto-used.true

pub returns : goal.returns
returns c =
    let a = c.args in
    told_never c.class_count-classes.result c.class_count-classes.ensures (keys_among Timetbls a.used a.t.now) a.used c.loop-class.class c.loop-class.upto
    c.loop-class-test.false c.loop-class.invariant (no_more a.used a.t.now c.requires) c.if-upto-used.false

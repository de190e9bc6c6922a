-- `first_repeat` meets its contract: no service before the first that came before, of the classes that were asked, came before. Assumes nothing.
use Rattle.iff.specs.declared.File.TheVariants.{Timetbls}
use Rattle.keys.specs.Lookup.{keys_among}
use Rattle.repeats.specs.Asking.{Asking}
use Rattle.repeats.proofs.first_repeat.Given as goal

abbrev pub invariant-loop-class : goal.invariant-loop-class
invariant-loop-class l = Asking l.classes (keys_among Timetbls l.used l.t) l.used l.class l.upto

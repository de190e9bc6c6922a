-- `ask_class` meets its contract: its set is empty at first. Assumes nothing.
use Rattle.key_sets.proofs.SetLaws.{all_free}
use Rattle.key_classes.proofs.ask_class.Goals as goal

pub walk_class-requires : goal.walk_class-requires
walk_class-requires c =
    (c.requires.0, c.requires.1, all_free 215000)

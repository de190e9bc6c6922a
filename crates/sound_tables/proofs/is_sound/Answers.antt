-- `is_sound` meets its contract: it answers what is told with slots of its own. Assumes nothing.
use Rattle.sound_tables.proofs.is_sound.Goals as goal

pub returns : goal.returns
returns c = c.is_sound_by-told.ensures

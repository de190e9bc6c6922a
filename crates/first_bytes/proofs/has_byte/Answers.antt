-- std's test of one byte among some is the definition's. Assumes nothing.
use mathlib.Core.Path.{◌∙◌}
use Rattle.first_bytes.proofs.ByteLaws.{has_is}
use Rattle.first_bytes.proofs.has_byte.Goals as goal

pub returns : goal.returns
returns c = c.contains.ensures.value ∙ has_is c.args.b c.args.bytes.now

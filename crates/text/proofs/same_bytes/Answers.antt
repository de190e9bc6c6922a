-- `text::same_bytes` meets its contract: std's test of two slices is the definition's. Assumes nothing.
use mathlib.Core.Path.{◌∙◌}
use lib.Dec.{eqb}
use Rattle.text.proofs.PictureLaws.{all2_is}
use Rattle.text.proofs.same_bytes.Goals as goal

pub returns : goal.returns
returns c = c.eq.ensures ∙ all2_is eqb c.args.a.now c.args.b.now

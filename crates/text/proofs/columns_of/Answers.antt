-- `text::columns_of` meets its contract: none of the columns, those that are there, or all. Assumes nothing.
use Rattle.text.proofs.LineLaws.{columns_there}
use Rattle.text.proofs.columns_of.Goals as goal

pub returns : goal.returns
returns c = columns_there c.args.line.now c.args.from c.args.to _ _ c.min.ensures c.min-2.ensures

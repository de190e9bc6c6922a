-- Here, and nowhere else, an open file is read.
use Rattle.folders.specs.Reads.{read_by_call}
use Rattle.folders.proofs.read_from.Goals as goal

pub returns-clause-read_from : goal.returns-clause-read_from
returns-clause-read_from c = read_by_call

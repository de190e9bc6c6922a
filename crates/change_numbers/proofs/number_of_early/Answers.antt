-- `number_of_early` meets its contract: in each arm the reason is known. Assumes nothing.
use Rattle.change_numbers.proofs.number_of_early.Goals as goal

pub returns-in-SameService : goal.returns-in-SameService
returns-in-SameService c = rw c.in-SameService.is

pub returns-in-FromRests : goal.returns-in-FromRests
returns-in-FromRests c = rw c.in-FromRests.is

pub returns-in-ToRests : goal.returns-in-ToRests
returns-in-ToRests c = rw c.in-ToRests.is

pub returns-in-StationsDiffer : goal.returns-in-StationsDiffer
returns-in-StationsDiffer c = rw c.in-StationsDiffer.is

pub returns-in-NobodyAlights : goal.returns-in-NobodyAlights
returns-in-NobodyAlights c = rw c.in-NobodyAlights.is

pub returns-in-NobodyBoards : goal.returns-in-NobodyBoards
returns-in-NobodyBoards c = rw c.in-NobodyBoards.is
